-- Linear combinations of columns d 0, d 1, .. over rows of any type, their spans, and why coefficients that spare the dependent
-- columns are unique.
use Rattle.std.proofs.Common.{◌≡◌, ℕ, zero, suc, ◌<◌, ◌≤◌, cond, eqb, sym, refl, ap, ◌∙◌, subst, inl, inr, arith}
use Rattle.std.specs.List.{range_with_len}
use Rattle.std.proofs.lemmas.Bool.{cases_eq, ne_eqb, eq-eqb}
use Rattle.field.specs.Algebra.{Operations, Laws}
use Rattle.field.proofs.Rings.{ring, cancel, zero_mul, mul_zero, one_mul, add_mul, add_cancel, neg_mul, neg_neg, neg_zero, mul_left_comm}
use Rattle.homology.proofs.Sums.{sum, sum_same, sum_zero, sum_none, sum_add, sum_scale, sum_swap, sum_last, sum_below}

module _ {E R : Type 0} (k : Operations E) (d : ℕ → R → E) where
  -- the first n columns, weighted by c
  abbrev pub combine : ℕ → (ℕ → E) → R → E
  combine n c r = sum k (range_with_len 0 n) (λ i. k.mul (c i) (d i r))

  -- x is a combination of the first n columns
  abbrev pub Span : ℕ → (R → E) → Type 0
  Span n x = (c : ℕ → E) × ((r : R) → combine n c r ≡ x r)

  -- column j is a combination of those before it
  abbrev pub Dependent : ℕ → Type 0
  Dependent j = Span j (d j)

-- the row e is the last row of some combination of the first n columns that is not 0
pub record LastRow {E : Type 0} (k : Operations E) (d : ℕ → ℕ → E) (n e : ℕ) : Type 0 where
  pub vector : ℕ → E
  pub spanned : Span k d n vector
  pub here : ¬ (vector e ≡ k.zero)
  pub beyond : (i : ℕ) → e < i → vector i ≡ k.zero

-- c with a at j
abbrev pub put : {E : Type 0} → ℕ → E → (ℕ → E) → ℕ → E
put j a c i = cond (eqb i j) a (c i)

pub put_here : {E : Type 0} (j : ℕ) (a : E) (c : ℕ → E) → put j a c j ≡ a
put_here j a c = rw (eq-eqb j j refl) refl

module _ {E : Type 0} (k : Operations E) (laws : Laws k) where
  open k use {zero as 𝟘, one as 𝟙, add as ◌⊕◌, mul as ◌⊗◌, neg, inv}

  infixl 65 ◌⊕◌
  infixl 70 ◌⊗◌
  -- x + y = 0 gives x = - y
  opposite : (x y : E) → x ⊕ y ≡ 𝟘 → x ≡ neg y
  opposite x y e = add_cancel k laws y x (neg y) (laws.add_comm y x ∙ e ∙ sym (laws.add_neg y))

  pub same_from : (x y : E) → x ⊕ neg y ≡ 𝟘 → x ≡ y
  same_from x y e = opposite x (neg y) e ∙ neg_neg k laws y

  module _ {R : Type 0} (d : ℕ → R → E) where
    -- combinations are linear in the weights
    pub combine_last : (n : ℕ) (c : ℕ → E) (r : R) → combine k d (suc n) c r ≡ combine k d n c r ⊕ c n ⊗ d n r
    combine_last n c r = sum_last k laws n (λ i. c i ⊗ d i r)

    pub combine_add : (n : ℕ) (c e : ℕ → E) (r : R) → combine k d n (λ i. c i ⊕ e i) r ≡ combine k d n c r ⊕ combine k d n e r
    combine_add n c e r = sum_same k laws (range_with_len 0 n) _ _ (λ i. add_mul k laws (c i) (e i) (d i r)) ∙ sum_add k laws (range_with_len 0 n) _ _

    pub combine_scale : (n : ℕ) (s : E) (c : ℕ → E) (r : R) → combine k d n (λ i. s ⊗ c i) r ≡ s ⊗ combine k d n c r
    combine_scale n s c r = sum_same k laws (range_with_len 0 n) _ _ (λ i. laws.mul_assoc s (c i) (d i r)) ∙ sum_scale k laws (range_with_len 0 n) s _

    pub combine_neg : (n : ℕ) (c : ℕ → E) (r : R) → combine k d n (λ i. neg (c i)) r ≡ neg (combine k d n c r)
    combine_neg n c r =
        sum_same k laws (range_with_len 0 n) _ (λ i. neg 𝟙 ⊗ c i ⊗ d i r) (λ i. ap (λ w. w ⊗ d i r) (minus (c i))) ∙ combine_scale n (neg 𝟙) c r ∙ sym (minus (combine k d n c r))
      where
        minus : (x : E) → neg x ≡ neg 𝟙 ⊗ x
        minus x = sym (neg_mul k laws 𝟙 x ∙ ap neg (one_mul k laws x))

    pub combine_sub : (n : ℕ) (c e : ℕ → E) (r : R) → combine k d n (λ i. c i ⊕ neg (e i)) r ≡ combine k d n c r ⊕ neg (combine k d n e r)
    combine_sub n c e r = combine_add n c (λ i. neg (e i)) r ∙ ap (λ w. combine k d n c r ⊕ w) (combine_neg n e r)

    -- where every column is 0
    pub combine_none : (n : ℕ) (c : ℕ → E) (r : R) → ((i : ℕ) → d i r ≡ 𝟘) → combine k d n c r ≡ 𝟘
    combine_none n c r h = sum_none k laws 0 n (λ i. c i ⊗ d i r) (λ i _ _. ap (λ w. c i ⊗ w) (h i) ∙ mul_zero k laws (c i))

    -- weights that are 0 from n on
    pub combine_front : (n m : ℕ) (c : ℕ → E) (r : R) → n ≤ m → ((i : ℕ) → n ≤ i → i < m → c i ≡ 𝟘) → combine k d m c r ≡ combine k d n c r
    combine_front n zero c r l h = let e : n ≡ 0 = omega arith in ap (λ n. combine k d n c r) (sym e)
    combine_front n (suc m) c r l h = elim (cases_eq n (suc m)) [
      | inl e ↦ ap (λ n. combine k d n c r) (sym e)
      | inr o ↦
          combine_last m c r ∙ ap (λ w. combine k d m c r ⊕ w ⊗ d m r) (h m (omega arith) (omega arith)) ∙ ap (λ w. combine k d m c r ⊕ w) (zero_mul k laws (d m r))
          ∙ laws.add_zero (combine k d m c r) ∙ combine_front n m c r (omega arith) (λ i p q. h i p (omega arith))
    ]

    -- one column more, with the coefficient a
    pub combine_put : (n : ℕ) (a : E) (c : ℕ → E) (r : R) → combine k d (suc n) (put n a c) r ≡ combine k d n c r ⊕ a ⊗ d n r
    combine_put n a c r =
        let front : combine k d n (put n a c) r ≡ combine k d n c r = sum_below k laws n _ _ (λ i l. rw (ne_eqb i n (omega arith)) refl) in
        combine_last n (put n a c) r ∙ cc (front, put_here n a c)

    -- spans are closed under sums, multiples and combinations
    pub span_same : (n : ℕ) (x y : R → E) → ((r : R) → x r ≡ y r) → Span k d n x → Span k d n y
    span_same n x y e s = (s.0, λ r. s.1 r ∙ e r)

    pub span_zero : (n : ℕ) → Span k d n (λ r. 𝟘)
    span_zero n = ((λ i. 𝟘), λ r. sum_same k laws (range_with_len 0 n) _ _ (λ i. zero_mul k laws (d i r)) ∙ sum_zero k laws (range_with_len 0 n))

    pub span_add : (n : ℕ) (x y : R → E) → Span k d n x → Span k d n y → Span k d n (λ r. x r ⊕ y r)
    span_add n x y s t = ((λ i. s.0 i ⊕ t.0 i), λ r. combine_add n s.0 t.0 r ∙ cc (s.1 r, t.1 r))

    pub span_scale : (n : ℕ) (a : E) (x : R → E) → Span k d n x → Span k d n (λ r. a ⊗ x r)
    span_scale n a x s = ((λ i. a ⊗ s.0 i), λ r. combine_scale n a s.0 r ∙ cc (s.1 r))

    pub span_neg : (n : ℕ) (x : R → E) → Span k d n x → Span k d n (λ r. neg (x r))
    span_neg n x s = ((λ i. neg (s.0 i)), λ r. combine_neg n s.0 r ∙ cc (s.1 r))

    pub span_more : (n : ℕ) (a : E) (x : R → E) → Span k d n x → Span k d (suc n) (λ r. x r ⊕ a ⊗ d n r)
    span_more n a x s = (put n a s.0, λ r. combine_put n a s.0 r ∙ cc (s.1 r))

    pub span_wider : (n m : ℕ) (x : R → E) → n ≤ m → Span k d n x → Span k d m x
    span_wider n zero x l s = let e : n ≡ 0 = omega arith in subst (λ n. Span k d n x) e s
    span_wider n (suc m) x l s = elim (cases_eq n (suc m)) [
      | inl e ↦ subst (λ n. Span k d n x) e s
      | inr o ↦ span_same (suc m) _ x (λ r. simp (ring, laws)) (span_more m 𝟘 x (span_wider n m x (omega arith) s))
    ]

    pub span_combine : (n m : ℕ) (e : ℕ → R → E) (c : ℕ → E) → ((i : ℕ) → i < m → Span k d n (e i)) → Span k d n (combine k e m c)
    span_combine n zero e c h = span_zero n
    span_combine n (suc m) e c h =
        span_same n _ _ (λ r. sym (sum_last k laws m (λ i. c i ⊗ e i r)))
        (span_add n _ _ (span_combine n m e c (λ i l. h i (omega arith))) (span_scale n (c m) (e m) (h m (omega arith))))

    -- a combination that is 0 and whose last coefficient is not makes its last column dependent
    depends : (n : ℕ) (z : ℕ → E) → ((r : R) → combine k d (suc n) z r ≡ 𝟘) → ¬ (z n ≡ 𝟘) → Dependent k d n
    depends n z h some =
        let s = neg (inv (z n)) in (
          (λ i. s ⊗ z i),
          λ r.
              let e : combine k d n z r ≡ neg (z n ⊗ d n r) = opposite (combine k d n z r) (z n ⊗ d n r) (sym (combine_last n z r) ∙ h r) in
              let back : s ⊗ neg (z n ⊗ d n r) ≡ d n r = simp (ring, cancel, laws) in
              combine_scale n s z r ∙ ap (λ w. s ⊗ w) e ∙ back,
        )

    -- so one that spares the dependent columns has all its coefficients 0, the last first
    vanishing : (n : ℕ) (z : ℕ → E) → ((r : R) → combine k d n z r ≡ 𝟘) → ((j : ℕ) → j < n → Dependent k d j → z j ≡ 𝟘) → (j : ℕ) → j < n → z j ≡ 𝟘
    vanishing zero z h free j l = absurd (omega arith)
    vanishing (suc n) z h free j l =
        let last : z n ≡ 𝟘 = elim (laws.decide (z n) 𝟘) [ yes e ↦ e | no some ↦ free n (omega arith) (depends n z h some) ] in
        let rest : (r : R) → combine k d n z r ≡ 𝟘 = λ r. sym (laws.add_zero _) ∙ cc (combine_last n z r, h r, last, zero_mul k laws (d n r)) in
        elim (cases_eq j n) [ inl e ↦ ap z e ∙ last | inr o ↦ vanishing n z rest (λ i q. free i (omega arith)) j (omega arith) ]

    -- Two combinations that come to one vector and spare the dependent columns have the same coefficients: their difference vanishes.
    pub unique : (n : ℕ) (c e : ℕ → E) (x : R → E) → ((r : R) → combine k d n c r ≡ x r) → ((r : R) → combine k d n e r ≡ x r)
        → ((j : ℕ) → j < n → Dependent k d j → (c j ≡ 𝟘) × (e j ≡ 𝟘)) → (j : ℕ) → j < n → c j ≡ e j
    unique n c e x hc he free j l =
        same_from (c j) (e j) (vanishing n (λ i. c i ⊕ neg (e i))
        (λ r. combine_sub n c e r ∙ cc (hc r, he r, laws.add_neg (x r)))
        (λ i q dep. let z = free i q dep in cc (z.0, z.1, neg_zero k laws, laws.add_zero 𝟘)) j l)

  -- The value of weights w on a vector x with n rows.
  abbrev pub dot : ℕ → (ℕ → E) → (ℕ → E) → E
  dot n w x = combine k (λ i x. x i) n w x

  pub dot_same : (n : ℕ) (w x y : ℕ → E) → ((i : ℕ) → x i ≡ y i) → dot n w x ≡ dot n w y
  dot_same n w x y h = sum_same k laws (range_with_len 0 n) _ _ (λ i. ap (λ z. w i ⊗ z) (h i))

  pub dot_add : (n : ℕ) (w x y : ℕ → E) → dot n w (λ i. x i ⊕ y i) ≡ dot n w x ⊕ dot n w y
  dot_add n w x y = sum_same k laws (range_with_len 0 n) _ _ (λ i. laws.mul_add (w i) (x i) (y i)) ∙ sum_add k laws (range_with_len 0 n) _ _

  pub dot_sub : (n : ℕ) (v w x : ℕ → E) → dot n (λ i. v i ⊕ neg (w i)) x ≡ dot n v x ⊕ neg (dot n w x)
  dot_sub n v w x = combine_sub (λ i x. x i) n v w x

  -- the value on a combination is the combination of the values
  pub dot_combine : (n m : ℕ) (w : ℕ → E) (d : ℕ → ℕ → E) (c : ℕ → E) → dot n w (combine k d m c) ≡ sum k (range_with_len 0 m) (λ j. c j ⊗ dot n w (d j))
  dot_combine n m w d c =
      sum_same k laws (range_with_len 0 n) _ _ (λ i. sym (sum_scale k laws (range_with_len 0 m) (w i) (λ j. c j ⊗ d j i)))
      ∙ sum_swap k laws (range_with_len 0 n) (range_with_len 0 m) (λ i j. w i ⊗ (c j ⊗ d j i))
      ∙ sum_same k laws (range_with_len 0 m) _ _ (λ j. sum_same k laws (range_with_len 0 n) _ _ (λ i. mul_left_comm k laws (w i) (c j) (d j i)) ∙ sum_scale k laws (range_with_len 0 n) (c j) (λ i. w i ⊗ d j i))

  -- weights that are 0 on every column are 0 on their span
  pub dot_spanned : (n m : ℕ) (w : ℕ → E) (d : ℕ → ℕ → E) (c : ℕ → E) → ((j : ℕ) → j < m → dot n w (d j) ≡ 𝟘) → dot n w (combine k d m c) ≡ 𝟘
  dot_spanned n m w d c h =
      dot_combine n m w d c ∙ sum_none k laws 0 m (λ j. c j ⊗ dot n w (d j)) (λ j _ l. ap (λ z. c j ⊗ z) (h j (omega arith)) ∙ mul_zero k laws (c j))
