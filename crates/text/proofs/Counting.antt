-- The S line, from its parts.
use Rattle.std.proofs.Common.{◌≡◌, ℕ, false, Bool, true, cond, ◌&&◌, leb, List, [], Ok, Err, Result, sym, ap, ◌∙◌}
use Rattle.std.proofs.lemmas.Bool.{cond-true}
use Rattle.refusal.specs.declared.Refusal.{Refusal}
use Rattle.refusal.specs.Numbers.{number_of}
use Rattle.refusal.specs.Outcomes.{Outcome, accepted, refused, and_then, outcome}
use Rattle.refusal.proofs.Outcomes.{refused_accepted, taken_parts, same_from_accepted}
use Rattle.survey.specs.declared.neighbours.Neighbours.{Neighbours}
use Rattle.survey.specs.Surveys.{Survey}
use Rattle.survey.specs.Views.{drawn, unlinked}
use Rattle.text.specs.Lines.{CountRead}
use Rattle.text.specs.Reading.{Read, byte, formed, a_number, count_line_of}

-- a test of the count, and the lines behind it
abbrev counted : ℕ → List ℕ → Outcome (Read ℕ)
counted n lines = cond (leb 3 n && leb n 64) (accepted (record { got = n; rest = lines })) (refused 2)

abbrev nobody : ℕ → Survey
nobody n = record { count = n; linked = λ x y. false; fence = [] }

module _ (bytes a b lines : List ℕ) (n : ℕ)
    (letter : accepted a ≡ formed (byte 83 bytes))
    (number : accepted (record { got = n; rest = b }) ≡ formed (a_number a))
    (end : accepted lines ≡ formed (byte 10 b)) where
  line_is : count_line_of bytes ≡ counted n lines
  line_is =
      ap (λ o. and_then o (λ after. and_then (formed (a_number after)) (λ m. and_then (formed (byte 10 m.rest)) (counted m.got)))) (sym letter)
      ∙ ap (λ o. and_then o (λ m. and_then (formed (byte 10 m.rest)) (counted m.got))) (sym number)
      ∙ ap (λ o. and_then o (counted n)) (sym end)

  pub count_read : (r : Result Neighbours Refusal) → outcome (λ p. drawn p []) r ≡ unlinked n → CountRead bytes r lines
  count_read (Ok p) new =
      let q = taken_parts (leb 3 n && leb n 64) (accepted (nobody n)) 2 (drawn p []) (sym new) in
      let same : nobody n ≡ drawn p [] = same_from_accepted q.1 in (
        line_is ∙ cond-true _ _ _ q.0 ∙ ap (λ (s : Survey). accepted (record { got = s.count; rest = lines })) same,
        λ x y. sym (ap (λ (s : Survey). s.linked x y) same),
      )
  count_read (Err e) new = line_is ∙ go (leb 3 n && leb n 64) new
    where
      go : (t : Bool) → refused (number_of e) ≡ cond t (accepted (nobody n)) (refused 2)
          → ◌≡◌ {A = Outcome (Read ℕ)} (cond t (accepted (record { got = n; rest = lines })) (refused 2)) (refused (number_of e))
      go true new = absurd (refused_accepted new)
      go false new = cc
