-- Finite sums in a field, over a list and over a run of numbers.
use Rattle.std.proofs.Common.{◌≡◌, ℕ, zero, suc, ◌+◌, ◌<◌, ◌≤◌, List, [], ◌∷◌, sym, refl, ap, ◌∙◌, inl, inr, add-zero as plus_zero, arith}
use Rattle.std.specs.List.{range_with_len}
use Rattle.std.proofs.lemmas.Bool.{cases_eq}
use Rattle.field.specs.Algebra.{Operations, Laws}
use Rattle.field.proofs.Rings.{add_left_comm, zero_add, mul_zero}

abbrev pub sum : {E X : Type 0} → Operations E → List X → (X → E) → E
sum k [] f = k.zero
sum k (x ∷ xs) f = k.add (f x) (sum k xs f)

module _ {E : Type 0} (k : Operations E) (laws : Laws k) where
  open k use {zero as 𝟘, add as ◌⊕◌, mul as ◌⊗◌}
  open laws use {add_comm, add_assoc, add_zero, mul_add}

  infixl 65 ◌⊕◌
  infixl 70 ◌⊗◌
  -- over any list
  module _ {X : Type 0} where
    pub sum_same : (xs : List X) (f g : X → E) → ((x : X) → f x ≡ g x) → sum k xs f ≡ sum k xs g
    sum_same [] f g e = refl
    sum_same (x ∷ xs) f g e = cc (e x, sum_same xs f g e)

    pub sum_zero : (xs : List X) → sum k xs (λ x. 𝟘) ≡ 𝟘
    sum_zero [] = refl
    sum_zero (x ∷ xs) = zero_add k laws (sum k xs (λ x. 𝟘)) ∙ sum_zero xs

    pub sum_add : (xs : List X) (f g : X → E) → sum k xs (λ x. f x ⊕ g x) ≡ sum k xs f ⊕ sum k xs g
    sum_add [] f g = sym (add_zero 𝟘)
    sum_add (x ∷ xs) f g = ap (λ w. f x ⊕ g x ⊕ w) (sum_add xs f g) ∙ simp (add_assoc, add_left_comm k laws)

    pub sum_scale : (xs : List X) (s : E) (f : X → E) → sum k xs (λ x. s ⊗ f x) ≡ s ⊗ sum k xs f
    sum_scale [] s f = sym (mul_zero k laws s)
    sum_scale (x ∷ xs) s f = ap (λ w. s ⊗ f x ⊕ w) (sum_scale xs s f) ∙ sym (mul_add s (f x) (sum k xs f))

  pub sum_swap : {X Y : Type 0} (xs : List X) (ys : List Y) (f : X → Y → E)
      → sum k xs (λ x. sum k ys (f x)) ≡ sum k ys (λ y. sum k xs (λ x. f x y))
  sum_swap [] ys f = sym (sum_zero ys)
  sum_swap (x ∷ xs) ys f = ap (λ w. sum k ys (f x) ⊕ w) (sum_swap xs ys f) ∙ sym (sum_add ys (f x) (λ y. sum k xs (λ x. f x y)))

  -- over a run of numbers: no term, one term, and the last split off
  pub sum_none : (a n : ℕ) (f : ℕ → E) → ((i : ℕ) → a ≤ i → i < a + n → f i ≡ 𝟘) → sum k (range_with_len a n) f ≡ 𝟘
  sum_none a zero f h = refl
  sum_none a (suc n) f h =
      let here : f a ≡ 𝟘 = h a (omega arith) (omega arith) in
      let later : sum k (range_with_len (a + 1) n) f ≡ 𝟘 = sum_none (a + 1) n f (λ i l m. h i (omega arith) (omega arith)) in
      cc (zero_add k laws 𝟘)

  pub sum_only : (a n j : ℕ) (f : ℕ → E) → a ≤ j → j < a + n → ((i : ℕ) → a ≤ i → i < a + n → ¬ (i ≡ j) → f i ≡ 𝟘) → sum k (range_with_len a n) f ≡ f j
  sum_only a zero j f l m h = absurd (omega arith)
  sum_only a (suc n) j f l m h = elim (cases_eq a j) [
    | inl e ↦
        let later : sum k (range_with_len (a + 1) n) f ≡ 𝟘 = sum_none (a + 1) n f (λ i l m. h i (omega arith) (omega arith) (omega arith)) in
        cc (e, add_zero (f j))
    | inr d ↦
        let here : f a ≡ 𝟘 = h a (omega arith) (omega arith) d in
        let later : sum k (range_with_len (a + 1) n) f ≡ f j = sum_only (a + 1) n j f (omega arith) (omega arith) (λ i l m. h i (omega arith) (omega arith)) in
        cc (zero_add k laws (f j))
  ]

  sum_end : (a n : ℕ) (f : ℕ → E) → sum k (range_with_len a (suc n)) f ≡ sum k (range_with_len a n) f ⊕ f (a + n)
  sum_end a zero f = rw (plus_zero a) (add_comm (f a) 𝟘)
  sum_end a (suc n) f =
      ap (λ w. f a ⊕ w) (sum_end (a + 1) n f) ∙ sym (add_assoc (f a) (sum k (range_with_len (a + 1) n) f) (f (a + 1 + n)))
      ∙ ap (λ i. f a ⊕ sum k (range_with_len (a + 1) n) f ⊕ f i) (omega arith)

  pub sum_last : (n : ℕ) (f : ℕ → E) → sum k (range_with_len 0 (suc n)) f ≡ sum k (range_with_len 0 n) f ⊕ f n
  sum_last n f = sum_end 0 n f ∙ ap (λ i. sum k (range_with_len 0 n) f ⊕ f i) (omega arith)

  pub sum_below : (n : ℕ) (f g : ℕ → E) → ((i : ℕ) → i < n → f i ≡ g i) → sum k (range_with_len 0 n) f ≡ sum k (range_with_len 0 n) g
  sum_below zero f g h = refl
  sum_below (suc n) f g h = sum_last n f ∙ cc (sum_below n f g (λ i l. h i (omega arith)), h n (omega arith)) ∙ sym (sum_last n g)
