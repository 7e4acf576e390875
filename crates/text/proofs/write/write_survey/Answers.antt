-- The whole text is written where it fits; the theorems hold both ways.
use Rattle.std.proofs.Common.{◌≡◌, ◌≤◌, length, sym, ◌∙◌, arith, rules}
use lib.Seq.{sets}
use Rattle.std.proofs.lemmas.Bool.{le-leb, cond-true}
use Rattle.survey.specs.Plans.{survey_of}
use Rattle.text.specs.Text.{text, text_length_of}
use Rattle.text.specs.Writing.{written}
use Rattle.text.proofs.Back.{reads_back, one_text}
use Rattle.text.proofs.Lengths.{text_length_of as length_text}
use Rattle.text.proofs.Writing.{sets_front}
use Rattle.text.proofs.write.write_survey.Goals as goal

pub returns-then-text_length-out-clause-after : goal.returns-then-text_length-out-clause-after
returns-then-text_length-out-clause-after c =
    let s = survey_of c.args.survey.now in
    let out = c.args.out.now in
    let size = c.text_length.ensures in
    let fits : text_length_of s ≤ length out = omega (arith, size.formula) in
    let front : sets out 0 (text s) ≡ written s out = sets_front (text s) out (omega (arith, size.bytes)) ∙ sym (cond-true _ _ _ (le-leb _ _ fits)) in
    rw (sym front) (search rules)

pub returns-then-text_length-out-clause-back : goal.returns-then-text_length-out-clause-back
returns-then-text_length-out-clause-back c = reads_back

pub returns-then-text_length-out-clause-one : goal.returns-then-text_length-out-clause-one
returns-then-text_length-out-clause-one c = one_text

pub returns-then-text_length-out-clause-long : goal.returns-then-text_length-out-clause-long
returns-then-text_length-out-clause-long c = length_text

pub returns-else-text_length-out-clause-back : goal.returns-else-text_length-out-clause-back
returns-else-text_length-out-clause-back c = reads_back

pub returns-else-text_length-out-clause-one : goal.returns-else-text_length-out-clause-one
returns-else-text_length-out-clause-one c = one_text

pub returns-else-text_length-out-clause-long : goal.returns-else-text_length-out-clause-long
returns-else-text_length-out-clause-long c = length_text
