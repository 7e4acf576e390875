-- A test of the n numbers from a on, and of each of them.
use Rattle.std.proofs.Common.{◌≡◌, ℕ, zero, suc, ◌+◌, ◌<◌, ◌≤◌, Bool, true, ◌&&◌, refl, subst, ⊎_elim, ap₂, arith}
use Rattle.std.specs.List.{list_all, range_with_len}
use Rattle.std.proofs.lemmas.Bool.{and_parts, and_from, cases_eq}

module _ (t : ℕ → Bool) where
  pub each_from : (a n : ℕ) → list_all t (range_with_len a n) ≡ true → (d : ℕ) → a ≤ d → d < a + n → t d ≡ true
  each_from a zero e d l m = absurd (omega arith)
  each_from a (suc n) e d l m =
      let parts = and_parts _ _ e in
      ⊎_elim (λ here. subst (λ k. t k ≡ true) here parts.0) (λ on. each_from (a + 1) n parts.1 d (omega arith) (omega arith)) (cases_eq a d)

  pub all_from : (a n : ℕ) → ((d : ℕ) → a ≤ d → d < a + n → t d ≡ true) → list_all t (range_with_len a n) ≡ true
  all_from a zero h = refl
  all_from a (suc n) h = and_from _ _ (h a (omega arith) (omega arith)) (all_from (a + 1) n (λ d l m. h d (omega arith) (omega arith)))

  -- another test that says the same of each
  pub all_same : (u : ℕ → Bool) (a n : ℕ) → ((d : ℕ) → a ≤ d → d < a + n → t d ≡ u d) → list_all t (range_with_len a n) ≡ list_all u (range_with_len a n)
  all_same u a zero h = refl
  all_same u a (suc n) h = ap₂ ◌&&◌ (h a (omega arith) (omega arith)) (all_same u (a + 1) n (λ d l m. h d (omega arith) (omega arith)))
