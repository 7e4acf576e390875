-- There are at most 64 sensors and 512 links, and no more sensors on the fence than there are.
use Rattle.std.proofs.Common.{length, ap, arith}
use Rattle.survey.specs.Plans.{survey_of}
use Rattle.survey.proofs.Fences.{length_distinct}
use Rattle.text.proofs.Lengths.{text_length_of as length_text}
use Rattle.text.proofs.write.text_length.Goals as goal

pub overflow_add-result-3 : goal.overflow_add-result-3
overflow_add-result-3 c =
    let s = survey_of c.args.survey.now in
    let valid = c.count-count.ensures.rules in
    omega (arith, valid.most, valid.few_links, length_distinct s.count s.fence valid.different, c.count-count.ensures.value, c.link_count-links.ensures, ap length c.fence.ensures)

pub returns-clause-bytes : goal.returns-clause-bytes
returns-clause-bytes c = omega (arith, length_text (survey_of c.args.survey.now) c.count-count.ensures.rules, c.count-count.ensures.value, c.link_count-links.ensures, ap length c.fence.ensures)
