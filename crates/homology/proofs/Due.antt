-- Which addition is due, where the columns before have lows that differ.
use Rattle.std.proofs.Common.{◌≡◌, ℕ, suc, ◌+◌, ◌-◌, ◌<◌, ◌≤◌, Some, None, sym, ap, ◌∙◌, inl, inr, arith}
use Rattle.std.proofs.lemmas.Bool.{cases_lt}
use Rattle.matrix.specs.Matrix.{Entries}
use Rattle.homology.specs.Reduction.{low, clash, leftover, due, Addition}
use Rattle.homology.specs.Theorems.{Apart, Quiet, WhatIsDue}
use Rattle.homology.proofs.Lows.{due_leftover, due_clash, clash_next, clash_first, apart_clash, found_cases, one_owner, leftover_cases}

-- an addition by its fields
known : (a : Addition) (i j r : ℕ) → a.from ≡ i → a.to ≡ j → a.row ≡ r → a ≡ record { from = i; to = j; row = r }
known a i j r p q s = λ x. record { from = p x; to = q x; row = s x }

module _ (E T : ℕ) (M : Entries) where
  -- a column whose low is taken is the first that clashes
  in_column : (i j : ℕ) → Apart E M j → j < T → 1 ≤ i → i ≤ j → 1 ≤ low E M i → low E M i ≡ low E M (suc j)
      → due E T M ≡ Some (record { from = i; to = suc j; row = low E M i })
  in_column i j h l a b e q = elim (found_cases E M j) [
    | inl g ↦ absurd (g.1 i a b (omega arith) q)
    | inr g ↦
        let c = g.3 in
        let there : low E M g.0.to ≡ low E M (suc j) = ap (low E M) g.2 in
        let from : g.0.from ≡ i = one_owner E M j i g.0.from h a b c.least (omega (arith, c.earlier, g.2)) e (c.low_from ∙ sym c.low_to ∙ there ∙ sym q) in
        let whole : suc j + (T - suc j) ≡ T = omega arith in
        due_clash E T M g.0 (sym (ap (clash E M) whole) ∙ clash_first E M (suc j) (T - suc j) g.0 (clash_next E M j (apart_clash E M j h) ∙ g.1))
        ∙ ap Some (known g.0 i (suc j) (low E M i) from g.2 (sym c.low_to ∙ there ∙ sym q))
  ]

  last : Apart E M T → due E T M ≡ leftover E T M E
  last h = due_leftover E T M (apart_clash E M T h)

  -- the greatest row that is not quiet
  in_last : (i r : ℕ) → Apart E M T → 1 ≤ i → i ≤ T → 1 ≤ r → r ≤ E → low E M i ≡ r → ¬ (M r (T + 1) ≡ 0) → ((q : ℕ) → r < q → q ≤ E → Quiet E T M q)
      → due E T M ≡ Some (record { from = i; to = T + 1; row = r })
  in_last i r h a b c d e n quiet = last h ∙ elim (leftover_cases E T M E) [
    | inl g ↦ absurd (n (g.1 r c d i a b e))
    | inr g ↦
        let k = g.3 in
        let row : g.0.row ≡ r = elim (cases_lt r g.0.row) [
          | inl l ↦ absurd (k.nonzero (quiet g.0.row l g.2 g.0.from k.least k.most k.low_from))
          | inr l ↦ elim (cases_lt g.0.row r) [ inl m ↦ absurd (n (g.4 r m d i a b e)) | inr m ↦ omega arith ]
        ] in
        let from : g.0.from ≡ i = one_owner E M T i g.0.from h a b k.least k.most (omega arith) (k.low_from ∙ row ∙ sym e) in
        g.1 ∙ ap Some (known g.0 i (T + 1) r from k.to row)
  ]

  none_due : Apart E M T → ((q : ℕ) → 1 ≤ q → q ≤ E → Quiet E T M q) → due E T M ≡ None
  none_due h quiet = last h ∙ elim (leftover_cases E T M E) [
    | inl g ↦ g.0
    | inr g ↦ let k = g.3 in absurd (k.nonzero (quiet g.0.row k.row g.2 g.0.from k.least k.most k.low_from))
  ]

pub what_is_due_lem : WhatIsDue
what_is_due_lem E T M = record { in_column = in_column E T M; in_last = in_last E T M; none = none_due E T M }
