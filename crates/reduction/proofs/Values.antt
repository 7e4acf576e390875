-- The values of a block, row by row, and the weighted sums that they are made of.
use Rattle.std.proofs.Common.{◌≡◌, ℕ, zero, suc, ◌+◌, ◌-◌, ◌≤◌, cond, eqb, ◌≢◌, List, [], ◌∷◌, ◌++◌, get_or, sym, refl, ap, ◌∙◌, inl, inr, add-one, arith}
use Rattle.std.proofs.lemmas.Bool.{cases_eq, cond-true, cond-false, eq-eqb, ne_eqb}
use Rattle.field.specs.Arithmetic.{Arithmetic, FieldLaws}
use Rattle.field.proofs.Elements.{product_zero}
use Rattle.matrix.specs.Matrix.{Entries}
use Rattle.complex.specs.Systems.{Vector}
use Rattle.homology.specs.Linear.{total}
use Rattle.homology.specs.Reduction.{low, owner}
use Rattle.homology.specs.Certificate.{values, vector}
use Rattle.reduction.specs.Rows.{nonzero_of}
use Rattle.reduction.proofs.Walks.{nonzero_last}
use Rattle.homology.proofs.Totals.{total_front, total_same}

-- column i of N, each row weighted by its value
module _ (F : Arithmetic) (f : FieldLaws F) (vs : List ℕ) (N : Entries) (i : ℕ) where
  abbrev pub term : Vector
  term r = F.product (vector vs r) (N r i)

  -- the terms of a list of rows, added in turn
  abbrev pub sum_in : ℕ → List ℕ → ℕ
  sum_in s [] = s
  sum_in s (r ∷ rs) = sum_in (F.sum s (term r)) rs

  sum_in-++ : (s : ℕ) (rs qs : List ℕ) → sum_in s (rs ++ qs) ≡ sum_in (sum_in s rs) qs
  sum_in-++ s [] qs = refl
  sum_in-++ s (r ∷ rs) qs = sum_in-++ (F.sum s (term r)) rs qs

  -- rows that are 0 add nothing
  pub sum_rows : (n : ℕ) → sum_in 0 (nonzero_of (λ r. N r i) 1 n) ≡ total F n term
  sum_rows zero = refl
  sum_rows (suc n) =
      let end : List ℕ = cond (eqb (N (1 + n) i) 0) [] ((1 + n) ∷ []) in
      ap (sum_in 0) (nonzero_last (λ r. N r i) 1 n) ∙ sum_in-++ 0 (nonzero_of (λ r. N r i) 1 n) end ∙ ap (λ s. sum_in s end) (sum_rows n) ∙ last
    where
      at : 1 + n ≡ suc n
      at = omega arith

      last : sum_in (total F n term) (cond (eqb (N (1 + n) i) 0) [] ((1 + n) ∷ [])) ≡ total F (suc n) term
      last = elim (cases_eq (N (1 + n) i) 0) [
        | inl z ↦
            ap (sum_in (total F n term)) (cond-true _ _ _ (eq-eqb (N (1 + n) i) 0 z))
            ∙ sym (total_front F f n (suc n) term (omega arith) (λ k l m. let here : k ≡ 1 + n = omega arith in ap (F.product (vector vs k)) (ap (λ r. N r i) here ∙ z) ∙ product_zero F f (vector vs k)))
        | inr d ↦ ap (sum_in (total F n term)) (cond-false _ _ _ (ne_eqb (N (1 + n) i) 0 d)) ∙ ap (λ r. F.sum (total F n term) (term r)) at
      ]

  at_place : (r : ℕ) → 1 ≤ r → vector vs r ≡ get_or vs (r - 1) 0
  at_place r a = let e : r ≡ suc (r - 1) = omega arith in ap (vector vs) e

  pub sum_more : (r s p y t : ℕ) (rs : List ℕ) → 1 ≤ r → y ≡ N r i → p ≡ F.product (get_or vs (r - 1) 0) y → t ≡ F.sum s p → sum_in s (r ∷ rs) ≡ sum_in t rs
  sum_more r s p y t rs a is-entry is-product is =
      ap (λ x. sum_in x rs) (ap (F.sum s) ((λ k. F.product (at_place r a k) (sym is-entry k)) ∙ sym is-product) ∙ sym is)

module _ (F : Arithmetic) (f : FieldLaws F) (E T : ℕ) (N : Entries) where
  -- the rows before keep their values
  pub values_before : (e r : ℕ) → r ≤ e → values F E T N (e + 1) r ≡ values F E T N e r
  values_before e r l = ap (λ n. values F E T N n r) (add-one e) ∙ cond-false _ _ _ (ne_eqb r (suc e) (omega arith))

  -- the value of the next row, by its owner o
  next : (e o : ℕ) → ℕ
  next e o =
      cond (eqb o 0)
      (cond (eqb (low E N (T + 1)) (suc e)) (F.inverse (N (suc e) (T + 1))) 0)
      (F.product (F.negative (total F e (λ r. F.product (values F E T N e r) (N r o)))) (F.inverse (N (suc e) o)))

  value_is : (e o : ℕ) → o ≡ owner E N T (e + 1) → next e o ≡ values F E T N (e + 1) (e + 1)
  unfolding next
  value_is e o is =
      ap (next e) (is ∙ ap (owner E N T) (add-one e)) ∙ sym (cond-true _ _ _ (eq-eqb (suc e) (suc e) refl)) ∙ ap (λ n. values F E T N n n) (sym (add-one e))

  module _ (e o : ℕ) (is_owner : o ≡ owner E N T (e + 1)) where
    pub value_owned : (vs : List ℕ) (s x p : ℕ) → o ≢ 0 → ((i : ℕ) → 1 ≤ i → i ≤ e → vector vs i ≡ values F E T N e i)
        → s ≡ total F e (λ r. F.product (vector vs r) (N r o)) → x ≡ N (e + 1) o → p ≡ F.product (F.negative s) (F.inverse x)
        → p ≡ values F E T N (e + 1) (e + 1)
    unfolding next
    value_owned vs s x p d same is_sum is-entry is =
        let sum : s ≡ total F e (λ r. F.product (values F E T N e r) (N r o)) = is_sum ∙ total_same F f e _ _ (λ i a b. ap (λ v. F.product v (N i o)) (same i a b)) in
        let entry : x ≡ N (suc e) o = is-entry ∙ ap (λ r. N r o) (add-one e) in
        is ∙ (λ i. F.product (F.negative (sum i)) (F.inverse (entry i)))
        ∙ sym (cond-false _ _ _ (ne_eqb o 0 d)) ∙ value_is e o is_owner

    pub value_top : (x y : ℕ) → o ≡ 0 → low E N (T + 1) ≡ e + 1 → x ≡ N (e + 1) (T + 1) → y ≡ F.inverse x → y ≡ values F E T N (e + 1) (e + 1)
    unfolding next
    value_top x y z top is-entry is =
        is ∙ ap F.inverse (is-entry ∙ ap (λ r. N r (T + 1)) (add-one e))
        ∙ sym (cond-true _ _ _ (eq-eqb o 0 z) ∙ cond-true _ _ _ (eq-eqb (low E N (T + 1)) (suc e) (top ∙ add-one e))) ∙ value_is e o is_owner

    pub value_none : o ≡ 0 → low E N (T + 1) ≢ e + 1 → 0 ≡ values F E T N (e + 1) (e + 1)
    unfolding next
    value_none z top =
        sym (cond-true _ _ _ (eq-eqb o 0 z) ∙ cond-false _ _ _ (ne_eqb (low E N (T + 1)) (suc e) (λ h. top (h ∙ sym (add-one e))))) ∙ value_is e o is_owner
