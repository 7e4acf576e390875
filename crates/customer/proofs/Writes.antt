-- One element of a list set: the others stay.
use Rattle.std.proofs.Common.{◌≡◌, ℕ, ◌*◌, ◌<◌, ◌≤◌, cond, eqb, ◌≢◌, List, length, get_or, set, Some, sym, ap, ◌∙◌, ⊎_elim, get_or-set_other, get_or-set_same}
use Rattle.std.proofs.lemmas.Bool.{cases_eq, cond-true, cond-false, eq-eqb, ne_eqb}
use Rattle.matrix.specs.Layout.{place_in}
use Rattle.matrix.proofs.Layouts.{Changed, place_below, changed_from}

pub written : (xs : List ℕ) (p v q : ℕ) → p < length xs → get_or (set xs p v) q 0 ≡ cond (eqb q p) v (get_or xs q 0)
written xs p v q h = ⊎_elim
    (λ (same : q ≡ p). ap (λ i. get_or (set xs p v) i 0) same ∙ get_or-set_same xs p v 0 h ∙ sym (cond-true (eqb q p) _ _ (eq-eqb q p same)))
    (λ (d : q ≡ p → ⊥). let ne : q ≢ p = d in get_or-set_other xs p q v 0 ne ∙ sym (cond-false (eqb q p) _ _ (ne_eqb q p d)))
    (cases_eq q p)

-- set at the place that code found, it is a put
pub set_changed : (xs : List ℕ) (n k i j v : ℕ) {p : ℕ} → Some p ≡ place_in n k i j → n * k ≤ length xs → Changed n k (λ q. get_or xs q 0) (λ q. get_or (set xs p v) q 0) i j v p
set_changed xs n k i j v {p} e fits = changed_from e (λ q _. written xs p v q (place_below n k i j e fits))
