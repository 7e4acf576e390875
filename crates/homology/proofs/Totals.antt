-- Sums of codes: as sums of a field's elements, and where terms are 0.
use Rattle.std.proofs.Common.{◌≡◌, ℕ, zero, suc, ◌<◌, ◌≤◌, sym, refl, ap, ◌∙◌, inl, inr, arith}
use Rattle.std.specs.List.{range_with_len}
use Rattle.std.proofs.lemmas.Bool.{cases_eq}
use Rattle.field.specs.Arithmetic.{Arithmetic, FieldLaws, Code}
use Rattle.field.proofs.Elements.{Element, elements, element_laws, zero_code, zero_sum}
use Rattle.complex.specs.Systems.{Vector}
use Rattle.homology.specs.Linear.{Codes, total}
use Rattle.homology.proofs.Sums.{sum, sum_last}

module _ (F : Arithmetic) (f : FieldLaws F) where
  pub total_code : (n : ℕ) (v : Vector) → Code F (total F n v)
  total_code zero v = zero_code F f
  total_code (suc n) v = f.sum_code (total F n v) (v (suc n))

  pub total_same : (n : ℕ) (v w : Vector) → ((i : ℕ) → 1 ≤ i → i ≤ n → v i ≡ w i) → total F n v ≡ total F n w
  total_same zero v w h = refl
  total_same (suc n) v w h = cc (total_same n v w (λ i l m. h i l (omega arith)), h (suc n) (omega arith) (omega arith))

  -- places from 1 are places from 0, one further on
  pub total_sum : (n : ℕ) (v : ℕ → Element F) → total F n (λ i. (v i).0) ≡ (sum (elements F f) (range_with_len 0 n) (λ i. v (suc i))).0
  total_sum zero v = refl
  total_sum (suc n) v = cc (total_sum n v, ap (λ x. x.0) (sum_last (elements F f) (element_laws F f) n (λ i. v (suc i))))

  -- or the same places, where the first of them is 0
  pub total_sum_0 : (n : ℕ) (v : ℕ → Element F) → v 0 ≡ (elements F f).zero → total F n (λ i. (v i).0) ≡ (sum (elements F f) (range_with_len 0 (suc n)) v).0
  total_sum_0 zero v e = sym (f.sum_zero 0 (zero_code F f)) ∙ ap (λ x. F.sum x.0 0) (sym e)
  total_sum_0 (suc n) v e = cc (total_sum_0 n v e, ap (λ x. x.0) (sum_last (elements F f) (element_laws F f) (suc n) v))

  -- 0 from n on
  pub total_front : (n m : ℕ) (v : Vector) → n ≤ m → ((i : ℕ) → n < i → i ≤ m → v i ≡ 0) → total F m v ≡ total F n v
  total_front n zero v l h = let e : n ≡ 0 = omega arith in ap (λ n. total F n v) (sym e)
  total_front n (suc m) v l h = elim (cases_eq n (suc m)) [
    | inl e ↦ ap (λ n. total F n v) (sym e)
    | inr o ↦
        ap (F.sum (total F m v)) (h (suc m) (omega arith) (omega arith)) ∙ f.sum_zero (total F m v) (total_code m v)
        ∙ total_front n m v (omega arith) (λ i p q. h i p (omega arith))
  ]

  pub total_zero : (n : ℕ) (v : Vector) → ((i : ℕ) → 1 ≤ i → i ≤ n → v i ≡ 0) → total F n v ≡ 0
  total_zero n v h = total_front 0 n v (omega arith) (λ i p q. h i (omega arith) q)

  -- one entry that is not 0
  pub total_only : (n k : ℕ) (v : Vector) → Code F (v k) → 1 ≤ k → k ≤ n → ((i : ℕ) → 1 ≤ i → i ≤ n → ¬ (i ≡ k) → v i ≡ 0) → total F n v ≡ v k
  total_only n zero v c l m h = absurd (omega arith)
  total_only n (suc k) v c l m h =
      total_front (suc k) n v m (λ i p q. h i (omega arith) q (omega arith))
      ∙ ap (λ s. F.sum s (v (suc k))) (total_zero k v (λ i p q. h i p (omega arith) (omega arith))) ∙ zero_sum F f (v (suc k)) c

-- elements from place 0 as codes from place 1
abbrev pub lowered : (F : Arithmetic) → (ℕ → Element F) → Vector
lowered F c zero = 0
lowered F c (suc i) = (c i).0

abbrev pub lowered_codes : (F : Arithmetic) → FieldLaws F → (c : ℕ → Element F) → Codes F (lowered F c)
lowered_codes F f c zero = zero_code F f
lowered_codes F f c (suc i) = (c i).1

-- codes from place 1 as elements from place 0
abbrev pub lifted : (F : Arithmetic) (x : Vector) → Codes F x → ℕ → Element F
lifted F x codes i = (x (suc i), codes (suc i))
