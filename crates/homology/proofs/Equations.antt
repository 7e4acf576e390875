-- Small equations in any field, for terms that are known to be 0 or 1.
use Rattle.std.proofs.Common.{◌≡◌, sym, ap, ◌∙◌, ap₂}
use Rattle.field.specs.Algebra.{Operations, Laws}
use Rattle.field.proofs.Rings.{ring, mul_zero, zero_mul, one_mul, zero_add, zero_product}

module _ {E : Type 0} (k : Operations E) (laws : Laws k) where
  open k use {zero as 𝟘, one as 𝟙, add as ◌⊕◌, mul as ◌⊗◌, neg, inv}

  infixl 65 ◌⊕◌
  infixl 70 ◌⊗◌
  pub zero_times : (x y : E) → x ≡ 𝟘 → x ⊗ y ≡ 𝟘
  zero_times x y e = ap (λ x. x ⊗ y) e ∙ zero_mul k laws y

  pub times_zero : (x y : E) → y ≡ 𝟘 → x ⊗ y ≡ 𝟘
  times_zero x y e = ap (λ y. x ⊗ y) e ∙ mul_zero k laws x

  pub one_times : (x y : E) → x ≡ 𝟙 → x ⊗ y ≡ y
  one_times x y e = ap (λ x. x ⊗ y) e ∙ one_mul k laws y

  pub plus_zero : (x y : E) → y ≡ 𝟘 → x ⊕ y ≡ x
  plus_zero x y e = ap (λ y. x ⊕ y) e ∙ laws.add_zero x

  pub zero_plus : (x y : E) → x ≡ 𝟘 → x ⊕ y ≡ y
  zero_plus x y e = ap (λ x. x ⊕ y) e ∙ zero_add k laws y

  pub minus_same : (x y : E) → x ≡ y → x ⊕ neg y ≡ 𝟘
  minus_same x y e = ap (λ z. z ⊕ neg y) e ∙ laws.add_neg y

  -- n = b + x gives x = n - b
  pub minus_left : (n b x : E) → n ≡ b ⊕ x → x ≡ n ⊕ neg b
  minus_left n b x e =
      let back : b ⊕ x ⊕ neg b ≡ x = simp (ring, laws) in
      sym (ap (λ z. z ⊕ neg b) e ∙ back)

  -- m = r - d gives d = r - m
  pub minus_swap : (m r d : E) → m ≡ r ⊕ neg d → d ≡ r ⊕ neg m
  minus_swap m r d e =
      let back : r ⊕ neg (r ⊕ neg d) ≡ d = simp (ring, laws) in
      sym (ap (λ z. r ⊕ neg z) e ∙ back)

  -- v + u = w + x gives x - u = v - w
  pub minus_across : (d v u w x : E) → d ≡ v ⊕ u → d ≡ w ⊕ x → x ⊕ neg u ≡ v ⊕ neg w
  minus_across d v u w x p q =
      let out : x ⊕ neg u ≡ w ⊕ x ⊕ (neg u ⊕ neg w) = simp (ring, laws) in
      let back : v ⊕ u ⊕ (neg u ⊕ neg w) ≡ v ⊕ neg w = simp (ring, laws) in
      out ∙ ap (λ z. z ⊕ (neg u ⊕ neg w)) (sym q ∙ p) ∙ back

  -- y v = w v and v is not 0
  pub minus_factor : (y w v : E) → y ⊗ v ≡ w ⊗ v → ¬ (v ≡ 𝟘) → y ⊕ neg w ≡ 𝟘
  minus_factor y w v e some =
      let spread : (y ⊕ neg w) ⊗ v ≡ y ⊗ v ⊕ neg (w ⊗ v) = simp (ring, laws) in
      zero_product k laws (y ⊕ neg w) v (spread ∙ minus_same (y ⊗ v) (w ⊗ v) e) some

  -- sums b + x and c + y with c = 0, the one plus a multiple of the other
  pub plus_multiple : (n p q b c x y z g : E) → n ≡ p ⊕ g ⊗ q → p ≡ b ⊕ x → q ≡ c ⊕ y → c ≡ 𝟘 → z ≡ x ⊕ g ⊗ y → n ≡ b ⊕ z
  plus_multiple n p q b c x y z g en ep eq ec ez =
      en ∙ ap₂ (λ u v. u ⊕ g ⊗ v) ep (eq ∙ zero_plus c y ec) ∙ laws.add_assoc b x (g ⊗ y) ∙ ap (λ w. b ⊕ w) (sym ez)
