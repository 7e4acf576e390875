-- What a look-up in a table of an operation gives: the answer at codes, and 0 elsewhere.
use Rattle.std.proofs.Common.{◌≡◌, ℕ, [], length, get_or, sym, ap, ◌∙◌, ⊎_elim, arith}
use Rattle.std.proofs.lemmas.Bool.{cases_lt}
use Rattle.std.proofs.lemmas.List.{get_or_past}
use Rattle.std.proofs.lemmas.List.FromFn.{length-map-range_with_len, get_or-map-range_with_len}
use Rattle.field.specs.Guarded.{guarded, guarded₂}
use Rattle.field.specs.Guarding.{inside, outside, inside₂, outside_left, outside_right}
use Rattle.field.specs.Tables.{table, table₂}

module _ (q : ℕ) where
  pub length_table : (f : ℕ → ℕ) → length (table q f) ≡ q
  length_table f = length-map-range_with_len f 0 q

  pub looked_up : (f : ℕ → ℕ) (a : ℕ) → get_or (table q f) a 0 ≡ guarded q f a
  looked_up f a =
      ⊎_elim (λ h. get_or-map-range_with_len f 0 q a a 0 h (omega arith) ∙ sym (inside q f a h))
      (λ o. get_or_past (table q f) a 0 (omega (arith, length_table f)) ∙ sym (outside q f a o))
      (cases_lt a q)

  pub looked_up₂ : (f : ℕ → ℕ → ℕ) (a b : ℕ) → get_or (get_or (table₂ q f) a []) b 0 ≡ guarded₂ q f a b
  looked_up₂ f a b =
      ⊎_elim
      (λ h. ap (λ row. get_or row b 0) (get_or-map-range_with_len (λ a. table q (f a)) 0 q a a [] h (omega arith)) ∙ looked_up (f a) b
      ∙ ⊎_elim (λ k. inside q (f a) b k ∙ sym (inside₂ q f a b h k)) (λ o. outside q (f a) b o ∙ sym (outside_right q f a b o)) (cases_lt b q))
      (λ o. ap (λ row. get_or row b 0) (get_or_past (table₂ q f) a [] (omega (arith, length-map-range_with_len (λ a. table q (f a)) 0 q))) ∙ sym (outside_left q f a b o))
      (cases_lt a q)
