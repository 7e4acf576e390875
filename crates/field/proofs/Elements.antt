-- The elements of a field: codes with their bound. They keep the laws with no side conditions, and carry over to codes.
use Rattle.std.proofs.Common.{◌≡◌, ℕ, ◌<◌, cond, ltb, sym, refl, ap, ◌∙◌, ⊎_elim, arith}
use native.Mathlib.Fin
use native.Mathlib.Decide.{Fin-discrete}
use Rattle.std.proofs.lemmas.Bool.{cond-true, cond-false, cond_both, lt-ltb, le-ltb, ltb-true, cases_lt}
use Rattle.field.specs.Algebra.{Operations, Laws, Homomorphism}
use Rattle.field.specs.Arithmetic.{Arithmetic, FieldLaws, Code}
use Rattle.field.proofs.Rings.{mul_zero}

abbrev pub Element : Arithmetic → Type 0
Element F = (code : ℕ) × Code F code

-- the operations on codes, for terms that speak of both
abbrev pub on_codes : Arithmetic → Operations ℕ
on_codes F = record { zero = 0; one = 1; add = F.sum; mul = F.product; neg = F.negative; inv = F.inverse }

module _ (F : Arithmetic) (f : FieldLaws F) where
  pub zero_code : Code F 0
  zero_code = omega (arith, f.least)

  pub one_code : Code F 1
  one_code = omega (arith, f.least)

  abbrev pub elements : Operations (Element F)
  elements = record {
    zero = (0, zero_code);
    one = (1, one_code);
    add = λ x y. (F.sum x.0 y.0, f.sum_code x.0 y.0);
    mul = λ x y. (F.product x.0 y.0, f.product_code x.0 y.0);
    neg = λ x. (F.negative x.0, f.negative_code x.0);
    inv = λ x. (F.inverse x.0, f.inverse_code x.0);
  }

  -- elements of one code are equal
  pub element_eq : (x y : Element F) → x.0 ≡ y.0 → x ≡ y
  element_eq x y e = Fin.val_path e

  pub element_laws : Laws elements
  element_laws = record {
    add_comm = λ x y. Fin.val_path (f.sum_comm _ _ x.1 y.1);
    add_assoc = λ x y z. Fin.val_path (f.sum_assoc _ _ _ x.1 y.1 z.1);
    add_zero = λ x. Fin.val_path (f.sum_zero _ x.1);
    add_neg = λ x. Fin.val_path (f.sum_negative _ x.1);
    mul_comm = λ x y. Fin.val_path (f.product_comm _ _ x.1 y.1);
    mul_assoc = λ x y z. Fin.val_path (f.product_assoc _ _ _ x.1 y.1 z.1);
    mul_one = λ x. Fin.val_path (f.product_one _ x.1);
    mul_add = λ x y z. Fin.val_path (f.distributes _ _ _ x.1 y.1 z.1);
    mul_inv = λ x n. Fin.val_path (f.product_inverse _ x.1 (λ e. n (Fin.val_path e)));
    apart = λ e. let z : ◌≡◌ {A = ℕ} 0 1 = ap (λ x. x.0) e in omega arith;
    decide = Fin-discrete F.order;
  }

  -- an element's code keeps the operations
  pub code_of : Homomorphism elements (on_codes F) (λ x. x.0)
  code_of = record { zero = refl; one = refl; add = λ x y. refl; mul = λ x y. refl; neg = λ x. refl; inv = λ x. refl }

  -- a code as it is, and 0 for any other number
  abbrev pub clipped : ℕ → ℕ
  clipped n = cond (ltb n F.order) n 0

  pub clipped_code : (n : ℕ) → Code F (clipped n)
  clipped_code n = cond_both (ltb n F.order) n 0 (λ v. v < F.order) (λ e. ltb-true n F.order e) (λ _. zero_code)

  abbrev pub element : ℕ → Element F
  element n = (clipped n, clipped_code n)

  pub element_code : (n : ℕ) → Code F n → (element n).0 ≡ n
  element_code n c = cond-true (ltb n F.order) n 0 (lt-ltb n F.order c)

  -- zero and products with it, with no condition on the other factor
  pub product_zero : (a : ℕ) → F.product a 0 ≡ 0
  product_zero a = ⊎_elim (λ c. ap (λ x. x.0) (mul_zero elements element_laws (a, c))) (f.product_outside_left a 0) (cases_lt a F.order)

  pub zero_product_code : (a : ℕ) → F.product 0 a ≡ 0
  zero_product_code a = ⊎_elim (λ c. f.product_comm 0 a zero_code c ∙ product_zero a) (f.product_outside_right 0 a) (cases_lt a F.order)

  pub zero_sum : (a : ℕ) → Code F a → F.sum 0 a ≡ a
  zero_sum a c = f.sum_comm 0 a zero_code c ∙ f.sum_zero a c

  -- what is no code counts as 0 in a product
  pub product_clipped : (a b : ℕ) → F.product a b ≡ F.product a (clipped b)
  product_clipped a b =
      ⊎_elim (λ c. ap (F.product a) (sym (element_code b c)))
      (λ o. f.product_outside_right a b o ∙ sym (product_zero a) ∙ ap (F.product a) (sym (cond-false (ltb b F.order) b 0 (le-ltb b F.order o))))
      (cases_lt b F.order)
