-- What follows from the laws of a field, and the rules by which `simp` brings sums and products to one form.
-- `simp (ring, laws)` normalises; `simp (ring, cancel, laws)` also cancels inverses of what is known to differ from zero.
use Rattle.std.proofs.Common.{◌≡◌, sym, ap, ◌∙◌}
use Rattle.field.specs.Algebra.{Operations, Laws}

module _ {E : Type 0} (k : Operations E) (laws : Laws k) where
  open k use {zero as 𝟘, one as 𝟙, add as ◌⊕◌, mul as ◌⊗◌, neg, inv}

  infixl 65 ◌⊕◌
  infixl 70 ◌⊗◌
  -- the laws as lemmas, so that a set of rules can name them
  pub add_comm : (x y : E) → x ⊕ y ≡ y ⊕ x
  add_comm = laws.add_comm

  pub add_assoc : (x y z : E) → x ⊕ y ⊕ z ≡ x ⊕ (y ⊕ z)
  add_assoc = laws.add_assoc

  pub add_zero : (x : E) → x ⊕ 𝟘 ≡ x
  add_zero = laws.add_zero

  pub add_neg : (x : E) → x ⊕ neg x ≡ 𝟘
  add_neg = laws.add_neg

  pub mul_comm : (x y : E) → x ⊗ y ≡ y ⊗ x
  mul_comm = laws.mul_comm

  pub mul_assoc : (x y z : E) → x ⊗ y ⊗ z ≡ x ⊗ (y ⊗ z)
  mul_assoc = laws.mul_assoc

  pub mul_one : (x : E) → x ⊗ 𝟙 ≡ x
  mul_one = laws.mul_one

  pub mul_add : (x y z : E) → x ⊗ (y ⊕ z) ≡ x ⊗ y ⊕ x ⊗ z
  mul_add = laws.mul_add

  -- sums
  pub add_left_comm : (x y z : E) → x ⊕ (y ⊕ z) ≡ y ⊕ (x ⊕ z)
  add_left_comm x y z = sym (add_assoc x y z) ∙ ap (λ w. w ⊕ z) (add_comm x y) ∙ add_assoc y x z

  pub zero_add : (x : E) → 𝟘 ⊕ x ≡ x
  zero_add x = add_comm 𝟘 x ∙ add_zero x

  pub neg_add : (x : E) → neg x ⊕ x ≡ 𝟘
  neg_add x = add_comm (neg x) x ∙ add_neg x

  pub add_neg_add : (x y : E) → x ⊕ (neg x ⊕ y) ≡ y
  add_neg_add x y = sym (add_assoc x (neg x) y) ∙ ap (λ w. w ⊕ y) (add_neg x) ∙ zero_add y

  pub neg_add_add : (x y : E) → neg x ⊕ (x ⊕ y) ≡ y
  neg_add_add x y = sym (add_assoc (neg x) x y) ∙ ap (λ w. w ⊕ y) (neg_add x) ∙ zero_add y

  pub add_cancel : (x y z : E) → x ⊕ y ≡ x ⊕ z → y ≡ z
  add_cancel x y z e = sym (neg_add_add x y) ∙ ap (λ w. neg x ⊕ w) e ∙ neg_add_add x z

  pub neg_zero : neg 𝟘 ≡ 𝟘
  neg_zero = sym (zero_add (neg 𝟘)) ∙ add_neg 𝟘

  pub neg_neg : (x : E) → neg (neg x) ≡ x
  neg_neg x = add_cancel (neg x) (neg (neg x)) x (add_neg (neg x) ∙ sym (neg_add x))

  pub neg_sum : (x y : E) → neg (x ⊕ y) ≡ neg x ⊕ neg y
  neg_sum x y = add_cancel (x ⊕ y) (neg (x ⊕ y)) (neg x ⊕ neg y) (add_neg (x ⊕ y) ∙ sym (simp (laws.add_assoc, add_left_comm y (neg x) (neg y), laws.add_neg, laws.add_zero)))

  -- a term and its opposite one, two and three terms further on
  pub add_neg_1 : (x a : E) → x ⊕ (a ⊕ neg x) ≡ a
  add_neg_1 x a = add_left_comm x a (neg x) ∙ ap (λ w. a ⊕ w) (add_neg x) ∙ add_zero a

  pub add_neg_1_more : (x a z : E) → x ⊕ (a ⊕ (neg x ⊕ z)) ≡ a ⊕ z
  add_neg_1_more x a z = add_left_comm x a (neg x ⊕ z) ∙ ap (λ w. a ⊕ w) (add_neg_add x z)

  pub add_neg_2 : (x a b : E) → x ⊕ (a ⊕ (b ⊕ neg x)) ≡ a ⊕ b
  add_neg_2 x a b = add_left_comm x a (b ⊕ neg x) ∙ ap (λ w. a ⊕ w) (add_neg_1 x b)

  pub add_neg_2_more : (x a b z : E) → x ⊕ (a ⊕ (b ⊕ (neg x ⊕ z))) ≡ a ⊕ (b ⊕ z)
  add_neg_2_more x a b z = add_left_comm x a (b ⊕ (neg x ⊕ z)) ∙ ap (λ w. a ⊕ w) (add_neg_1_more x b z)

  pub add_neg_3 : (x a b c : E) → x ⊕ (a ⊕ (b ⊕ (c ⊕ neg x))) ≡ a ⊕ (b ⊕ c)
  add_neg_3 x a b c = add_left_comm x a (b ⊕ (c ⊕ neg x)) ∙ ap (λ w. a ⊕ w) (add_neg_2 x b c)

  pub add_neg_3_more : (x a b c z : E) → x ⊕ (a ⊕ (b ⊕ (c ⊕ (neg x ⊕ z)))) ≡ a ⊕ (b ⊕ (c ⊕ z))
  add_neg_3_more x a b c z = add_left_comm x a (b ⊕ (c ⊕ (neg x ⊕ z))) ∙ ap (λ w. a ⊕ w) (add_neg_2_more x b c z)

  -- products
  pub mul_left_comm : (x y z : E) → x ⊗ (y ⊗ z) ≡ y ⊗ (x ⊗ z)
  mul_left_comm x y z = sym (mul_assoc x y z) ∙ ap (λ w. w ⊗ z) (mul_comm x y) ∙ mul_assoc y x z

  pub one_mul : (x : E) → 𝟙 ⊗ x ≡ x
  one_mul x = mul_comm 𝟙 x ∙ mul_one x

  pub add_mul : (x y z : E) → (x ⊕ y) ⊗ z ≡ x ⊗ z ⊕ y ⊗ z
  add_mul x y z = mul_comm (x ⊕ y) z ∙ mul_add z x y ∙ cc (mul_comm z x, mul_comm z y)

  pub mul_zero : (x : E) → x ⊗ 𝟘 ≡ 𝟘
  mul_zero x = add_cancel (x ⊗ 𝟘) (x ⊗ 𝟘) 𝟘 (sym (mul_add x 𝟘 𝟘) ∙ cc (add_zero 𝟘, add_zero (x ⊗ 𝟘)))

  pub zero_mul : (x : E) → 𝟘 ⊗ x ≡ 𝟘
  zero_mul x = mul_comm 𝟘 x ∙ mul_zero x

  pub mul_neg : (x y : E) → x ⊗ neg y ≡ neg (x ⊗ y)
  mul_neg x y = add_cancel (x ⊗ y) (x ⊗ neg y) (neg (x ⊗ y)) (sym (mul_add x y (neg y)) ∙ cc (add_neg y, mul_zero x, add_neg (x ⊗ y)))

  pub neg_mul : (x y : E) → neg x ⊗ y ≡ neg (x ⊗ y)
  neg_mul x y = mul_comm (neg x) y ∙ mul_neg y x ∙ ap neg (mul_comm y x)

  -- inverses
  pub mul_inv : (x : E) → ¬ (x ≡ 𝟘) → x ⊗ inv x ≡ 𝟙
  mul_inv = laws.mul_inv

  pub mul_inv_mul : (x a : E) → ¬ (x ≡ 𝟘) → x ⊗ (inv x ⊗ a) ≡ a
  mul_inv_mul x a n = sym (mul_assoc x (inv x) a) ∙ ap (λ w. w ⊗ a) (mul_inv x n) ∙ one_mul a

  pub mul_mul_inv : (x a : E) → ¬ (x ≡ 𝟘) → x ⊗ (a ⊗ inv x) ≡ a
  mul_mul_inv x a n = mul_left_comm x a (inv x) ∙ ap (λ w. a ⊗ w) (mul_inv x n) ∙ mul_one a

pub ruleset ring = (add_assoc, add_left_comm, add_comm, mul_assoc, mul_left_comm, mul_comm, mul_add, add_mul, mul_neg, neg_mul, neg_sum, neg_neg, neg_zero, add_zero, zero_add, mul_zero, zero_mul, mul_one, one_mul, add_neg, neg_add, add_neg_add, neg_add_add, add_neg_1, add_neg_1_more, add_neg_2, add_neg_2_more, add_neg_3, add_neg_3_more)

pub ruleset cancel = (mul_inv, mul_inv_mul, mul_mul_inv)

-- cancellation of a factor that is not zero
module _ {E : Type 0} (k : Operations E) (laws : Laws k) where
  open k use {zero as 𝟘, one as 𝟙, add as ◌⊕◌, mul as ◌⊗◌, neg, inv}

  infixl 65 ◌⊕◌
  infixl 70 ◌⊗◌
  pub inv_mul : (x : E) → ¬ (x ≡ 𝟘) → inv x ⊗ x ≡ 𝟙
  inv_mul x n = simp (ring, cancel, laws)

  pub mul_cancel : (x y z : E) → ¬ (x ≡ 𝟘) → x ⊗ y ≡ x ⊗ z → y ≡ z
  mul_cancel x y z n e =
      let back : (w : E) → inv x ⊗ (x ⊗ w) ≡ w = λ w. simp (ring, cancel, laws) in
      sym (back y) ∙ ap (λ w. inv x ⊗ w) e ∙ back z

  -- a product is zero only where a factor is
  pub zero_product : (x y : E) → x ⊗ y ≡ 𝟘 → ¬ (y ≡ 𝟘) → x ≡ 𝟘
  zero_product x y e n = mul_cancel y x 𝟘 n (mul_comm k laws y x ∙ e ∙ sym (mul_zero k laws y))

  -- x - (x / y) y = 0
  pub cleared : (x y : E) → ¬ (y ≡ 𝟘) → x ⊕ neg x ⊗ inv y ⊗ y ≡ 𝟘
  cleared x y n = simp (ring, cancel, laws)
