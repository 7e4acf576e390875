-- A small arithmetic is a field, by a test of all its codes.
use Rattle.std.specs.Prelude.{◌≡◌, ℕ, zero, suc, ◌<◌, Bool, true, ◌&&◌, ◌||◌, List, [], ◌∷◌, ◌==◌, nat_eq, nat_le, nat_lt}
use Rattle.std.proofs.Common.{sym, ap, ◌∙◌, arith}
use Rattle.std.proofs.Math.Logic.{⊎_elim}
use Rattle.std.proofs.lemmas.Bool.{and_parts, or_cases, ltb-true, leb-true, eqb-true, cases_eq, cases_lt}
use Rattle.field.specs.Arithmetic.{Arithmetic}
use Rattle.field.specs.Counting.{all}
use Rattle.field.specs.Guarded.{guarded, guarded₂}
use Rattle.field.specs.Guarding.{CodeLaws, inside, outside, inside₂, outside_left, outside_right}

-- every pair, and every triple, of numbers below q passes the test
abbrev pub all₂ : ℕ → (ℕ → ℕ → Bool) → Bool
all₂ q t = all q (λ a. all q (t a))

abbrev pub all₃ : ℕ → (ℕ → ℕ → ℕ → Bool) → Bool
all₃ q t = all q (λ a. all₂ q (t a))

pub each : (q : ℕ) (t : ℕ → Bool) → all q t ≡ true → (a : ℕ) → a < q → t a ≡ true
each zero t e a h = absurd (omega arith)
each (suc q) t e a h =
    let parts = and_parts (t q) (all q t) e in
    ⊎_elim (λ same. ap t same ∙ parts.0) (λ other. each q t parts.1 a (omega arith)) (cases_eq a q)

pub each₂ : (q : ℕ) (t : ℕ → ℕ → Bool) → all₂ q t ≡ true → (a b : ℕ) → a < q → b < q → t a b ≡ true
each₂ q t e a b h k = each q (t a) (each q (λ a. all q (t a)) e a h) b k

pub each₃ : (q : ℕ) (t : ℕ → ℕ → ℕ → Bool) → all₃ q t ≡ true → (a b c : ℕ) → a < q → b < q → c < q → t a b c ≡ true
each₃ q t e a b c h k l = each₂ q (t a) (each q (λ a. all₂ q (t a)) e a h) b c k l

-- f answers codes
abbrev pub codes : ℕ → (ℕ → ℕ) → Bool
codes q f = all q (λ a. nat_lt (f a) q)

abbrev pub codes₂ : ℕ → (ℕ → ℕ → ℕ) → Bool
codes₂ q f = all₂ q (λ a b. nat_lt (f a b) q)

-- f and g agree on codes
abbrev pub equal : ℕ → (ℕ → ℕ) → (ℕ → ℕ) → Bool
equal q f g = all q (λ a. nat_eq (f a) (g a))

abbrev pub equal₂ : ℕ → (ℕ → ℕ → ℕ) → (ℕ → ℕ → ℕ) → Bool
equal₂ q f g = all₂ q (λ a b. nat_eq (f a b) (g a b))

abbrev pub equal₃ : ℕ → (ℕ → ℕ → ℕ → ℕ) → (ℕ → ℕ → ℕ → ℕ) → Bool
equal₃ q f g = all₃ q (λ a b c. nat_eq (f a b c) (g a b c))

module _ (q : ℕ) where
  codes_each : (f : ℕ → ℕ) → codes q f ≡ true → (a : ℕ) → a < q → f a < q
  codes_each f e a h = ltb-true _ _ (each q (λ a. nat_lt (f a) q) e a h)

  codes_each₂ : (f : ℕ → ℕ → ℕ) → codes₂ q f ≡ true → (a b : ℕ) → a < q → b < q → f a b < q
  codes_each₂ f e a b h k = ltb-true _ _ (each₂ q (λ a b. nat_lt (f a b) q) e a b h k)

  pub equal_each : (f g : ℕ → ℕ) → equal q f g ≡ true → (a : ℕ) → a < q → f a ≡ g a
  equal_each f g e a h = eqb-true _ _ (each q (λ a. nat_eq (f a) (g a)) e a h)

  pub equal_each₂ : (f g : ℕ → ℕ → ℕ) → equal₂ q f g ≡ true → (a b : ℕ) → a < q → b < q → f a b ≡ g a b
  equal_each₂ f g e a b h k = eqb-true _ _ (each₂ q (λ a b. nat_eq (f a b) (g a b)) e a b h k)

  equal_each₃ : (f g : ℕ → ℕ → ℕ → ℕ) → equal₃ q f g ≡ true → (a b c : ℕ) → a < q → b < q → c < q → f a b c ≡ g a b c
  equal_each₃ f g e a b c h k l = eqb-true _ _ (each₃ q (λ a b c. nat_eq (f a b c) (g a b c)) e a b c h k l)

abbrev pub every : List Bool → Bool
every [] = true
every (b ∷ bs) = b && every bs

-- the test of every law at every code: `refl` shows it true at an arithmetic that is written out
abbrev pub lawful : Arithmetic → Bool
lawful F = every (
    nat_le 2 F.order
    ∷ nat_le F.order 65536
    ∷ codes₂ F.order F.sum
    ∷ codes F.order F.negative
    ∷ codes₂ F.order F.product
    ∷ codes F.order F.inverse
    ∷ equal₂ F.order F.sum (λ a b. F.sum b a)
    ∷ equal₃ F.order (λ a b c. F.sum (F.sum a b) c) (λ a b c. F.sum a (F.sum b c))
    ∷ equal F.order (λ a. F.sum a 0) (λ a. a)
    ∷ equal₂ F.order F.product (λ a b. F.product b a)
    ∷ equal₃ F.order (λ a b c. F.product (F.product a b) c) (λ a b c. F.product a (F.product b c))
    ∷ equal F.order (λ a. F.product a 1) (λ a. a)
    ∷ equal₃ F.order (λ a b c. F.product a (F.sum b c)) (λ a b c. F.sum (F.product a b) (F.product a c))
    ∷ equal F.order (λ a. F.sum a (F.negative a)) (λ a. 0)
    ∷ all F.order (λ a. (a == 0) || F.product a (F.inverse a) == 1)
    ∷ (F.inverse 0 == 0)
    ∷ [])

pub tested : (F : Arithmetic) → lawful F ≡ true → CodeLaws F
tested F passed =
    let q : ℕ = F.order in
    let t-least = and_parts _ _ passed in
    let t-most = and_parts _ _ t-least.1 in
    let t-sum-code = and_parts _ _ t-most.1 in
    let t-negative-code = and_parts _ _ t-sum-code.1 in
    let t-product-code = and_parts _ _ t-negative-code.1 in
    let t-inverse-code = and_parts _ _ t-product-code.1 in
    let t-sum-comm = and_parts _ _ t-inverse-code.1 in
    let t-sum-assoc = and_parts _ _ t-sum-comm.1 in
    let t-sum-zero = and_parts _ _ t-sum-assoc.1 in
    let t-product-comm = and_parts _ _ t-sum-zero.1 in
    let t-product-assoc = and_parts _ _ t-product-comm.1 in
    let t-product-one = and_parts _ _ t-product-assoc.1 in
    let t-distributes = and_parts _ _ t-product-one.1 in
    let t-sum-negative = and_parts _ _ t-distributes.1 in
    let t-product-inverse = and_parts _ _ t-sum-negative.1 in
    let t-inverse-zero = and_parts _ _ t-product-inverse.1 in
    record {
      least = leb-true _ _ t-least.0;
      most = leb-true _ _ t-most.0;
      sum_code = codes_each₂ q F.sum t-sum-code.0;
      negative_code = codes_each q F.negative t-negative-code.0;
      product_code = codes_each₂ q F.product t-product-code.0;
      inverse_code = codes_each q F.inverse t-inverse-code.0;
      sum_comm = equal_each₂ q F.sum (λ a b. F.sum b a) t-sum-comm.0;
      sum_assoc = equal_each₃ q (λ a b c. F.sum (F.sum a b) c) (λ a b c. F.sum a (F.sum b c)) t-sum-assoc.0;
      sum_zero = equal_each q (λ a. F.sum a 0) (λ a. a) t-sum-zero.0;
      product_comm = equal_each₂ q F.product (λ a b. F.product b a) t-product-comm.0;
      product_assoc = equal_each₃ q (λ a b c. F.product (F.product a b) c) (λ a b c. F.product a (F.product b c)) t-product-assoc.0;
      product_one = equal_each q (λ a. F.product a 1) (λ a. a) t-product-one.0;
      distributes = equal_each₃ q (λ a b c. F.product a (F.sum b c)) (λ a b c. F.sum (F.product a b) (F.product a c)) t-distributes.0;
      sum_negative = equal_each q (λ a. F.sum a (F.negative a)) (λ a. 0) t-sum-negative.0;
      product_inverse = λ a h n.
          ⊎_elim (λ e. absurd (n (eqb-true _ _ e))) (λ e. eqb-true _ _ e)
          (or_cases _ _ (each q (λ a. (a == 0) || F.product a (F.inverse a) == 1) t-product-inverse.0 a h));
      inverse_zero = eqb-true _ _ t-inverse-zero.0;
    }

-- operations that were tested to agree on codes agree everywhere, once they answer 0 for what is no code
module _ (q : ℕ) where
  pub unary_is : (g f : ℕ → ℕ) → equal q g f ≡ true → (a : ℕ) → guarded q g a ≡ guarded q f a
  unary_is g f e a = ⊎_elim (λ h. inside q g a h ∙ equal_each q g f e a h ∙ sym (inside q f a h)) (λ o. outside q g a o ∙ sym (outside q f a o)) (cases_lt a q)

  pub binary_is : (g f : ℕ → ℕ → ℕ) → equal₂ q g f ≡ true → (a b : ℕ) → guarded₂ q g a b ≡ guarded₂ q f a b
  binary_is g f e a b =
      ⊎_elim
      (λ h. ⊎_elim (λ k. inside₂ q g a b h k ∙ equal_each₂ q g f e a b h k ∙ sym (inside₂ q f a b h k))
      (λ o. outside_right q g a b o ∙ sym (outside_right q f a b o)) (cases_lt b q))
      (λ o. outside_left q g a b o ∙ sym (outside_left q f a b o))
      (cases_lt a q)
