-- Columns in echelon form: their lows differ, so the columns that are 0 are those that depend on earlier ones, and the lows are
-- the last rows of combinations.
use Rattle.std.proofs.Common.{◌≡◌, ℕ, zero, suc, ◌+◌, ◌<◌, ◌≤◌, Bool, true, false, ◌⊎◌, sym, ap, ◌∙◌, subst, inl, inr, arith}
use Rattle.std.proofs.lemmas.Bool.{cases_eq, cases_lt, cases_Bool, both_ways}
use Rattle.field.specs.Algebra.{Operations, Laws}
use Rattle.field.proofs.Rings.{ring, neg_neg, neg_zero, zero_product}
use Rattle.homology.proofs.Sums.{sum_none, sum_only}
use Rattle.homology.proofs.Spans.{combine, combine_put, put, put_here, Span, Dependent, LastRow, span_same, span_add, span_neg, span_more, span_wider, span_combine, dot, dot_same, dot_add, dot_spanned}
use Rattle.homology.proofs.Equations.{zero_times, times_zero, plus_zero}

-- Each of the columns r 0 .. r (m - 1) is 0 (not alive), or has a last row that is not 0 (its low), at which no other column has its own.
pub record Echelon {E : Type 0} (k : Operations E) (rows m : ℕ) (alive : ℕ → Bool) (low : ℕ → ℕ) (r : ℕ → ℕ → E) : Type 0 where
  pub dead : (j : ℕ) → j < m → alive j ≡ false → (i : ℕ) → r j i ≡ k.zero
  pub pivot : (j : ℕ) → j < m → alive j ≡ true → ¬ (r j (low j) ≡ k.zero)
  pub above : (j i : ℕ) → j < m → alive j ≡ true → low j < i → r j i ≡ k.zero
  pub inside : (j : ℕ) → j < m → alive j ≡ true → low j < rows
  pub apart : (i j : ℕ) → i < m → j < m → alive i ≡ true → alive j ≡ true → low i ≡ low j → i ≡ j

-- each column of r is that of d and a combination of those of d before it
abbrev pub Unitriangular : {E R : Type 0} → Operations E → ℕ → (d r : ℕ → R → E) → Type 0
Unitriangular k m d r = (j : ℕ) → j < m → Span k d j (λ i. k.add (r j i) (k.neg (d j i)))

pub echelon_fewer : {E : Type 0} (k : Operations E) (rows m n : ℕ) (alive : ℕ → Bool) (low : ℕ → ℕ) (r : ℕ → ℕ → E) → n ≤ m
    → Echelon k rows m alive low r → Echelon k rows n alive low r
echelon_fewer k rows m n alive low r l e = record {
  dead = λ j q. e.dead j (omega arith);
  pivot = λ j q. e.pivot j (omega arith);
  above = λ j i q. e.above j i (omega arith);
  inside = λ j q. e.inside j (omega arith);
  apart = λ i j q o. e.apart i j (omega arith) (omega arith);
}

module _ {E : Type 0} (k : Operations E) (laws : Laws k) (rows m : ℕ) (alive : ℕ → Bool) (low : ℕ → ℕ) (r : ℕ → ℕ → E) (ech : Echelon k rows m alive low r) where
  open k use {zero as 𝟘, one as 𝟙, add as ◌⊕◌, mul as ◌⊗◌, neg}

  infixl 65 ◌⊕◌
  infixl 70 ◌⊗◌
  -- A combination that is 0 from row `base` on has coefficient 0 at each column whose low is there. By the greatest low: in that row
  -- no other column counts, since a column with a lesser low is 0 there, and those with a greater low have coefficient 0.
  free : (base n p : ℕ) (y : ℕ → E) → p ≤ m → ((i : ℕ) → base ≤ i → combine k r p y i ≡ 𝟘)
      → ((j : ℕ) → j < p → alive j ≡ true → n ≤ low j → base ≤ low j → y j ≡ 𝟘) → (j : ℕ) → j < p → alive j ≡ true → base ≤ low j → y j ≡ 𝟘
  free base zero p y q h known j l a b = known j l a (omega arith) b
  free base (suc n) p y q h known j l a b = free base n p y q h more j l a b
    where
      others : (j : ℕ) → j < p → alive j ≡ true → low j ≡ n → base ≤ n → (i : ℕ) → 0 ≤ i → i < 0 + p → ¬ (i ≡ j) → y i ⊗ r i n ≡ 𝟘
      others j l a e b i _ u d = elim (cases_Bool (alive i)) [
        | inr f ↦ times_zero k laws (y i) (r i n) (ech.dead i (omega arith) f n)
        | inl t ↦
            let apart : ¬ (low i ≡ n) = λ f. d (ech.apart i j (omega arith) (omega arith) t a (f ∙ sym e)) in
            elim (cases_lt (low i) n) [
              | inl s ↦ times_zero k laws (y i) (r i n) (ech.above i n (omega arith) t s)
              | inr s ↦ zero_times k laws (y i) (r i n) (known i (omega arith) t (omega arith) (omega arith))
            ]
      ]

      more : (j : ℕ) → j < p → alive j ≡ true → n ≤ low j → base ≤ low j → y j ≡ 𝟘
      more j l a o b = elim (cases_eq (low j) n) [
        | inr d ↦ known j l a (omega arith) b
        | inl e ↦ zero_product k laws (y j) (r j n) (sym (sum_only k laws 0 p j (λ i. y i ⊗ r i n) (omega arith) (omega arith) (others j l a e (omega arith))) ∙ h n (omega arith)) (λ z. ech.pivot j (omega arith) a (ap (r j) e ∙ z))
      ]

  free_from : (base p : ℕ) (y : ℕ → E) → p ≤ m → ((i : ℕ) → base ≤ i → combine k r p y i ≡ 𝟘) → (j : ℕ) → j < p → alive j ≡ true → base ≤ low j → y j ≡ 𝟘
  free_from base p y l h = free base rows p y l h (λ i q a o b. absurd (omega (arith, ech.inside i (omega arith) a)))

  -- the column among the first p whose low is e
  find : (e p : ℕ) → ((j : ℕ) × (j < p) × (alive j ≡ true) × (low j ≡ e)) ⊎ ((j : ℕ) → j < p → alive j ≡ true → ¬ (low j ≡ e))
  find e zero = inr (λ j l. absurd (omega arith))
  find e (suc p) = elim (find e p) [
    | inl g ↦ inl (g.0, omega (arith, g.1), g.2, g.3)
    | inr none ↦ elim (cases_eq (low p) e) [
      | inr n ↦ inr (λ j l a f. elim (cases_eq j p) [ inl q ↦ n (sym (ap low q) ∙ f) | inr q ↦ none j (omega arith) a f ])
      | inl o ↦ elim (cases_Bool (alive p)) [
        | inl t ↦ inl (p, omega arith, t, o)
        | inr d ↦ inr (λ j l a f. elim (cases_eq j p) [ inl q ↦ both_ways (alive p) d (sym (ap alive q) ∙ a) | inr q ↦ none j (omega arith) a f ])
      ]
    ]
  ]

  module _ (d : ℕ → ℕ → E) (reduces : Unitriangular k m d r) where
    -- the columns of d are combinations of those of r
    carried : (j : ℕ) (x : ℕ → E) → ((i : ℕ) → i < j → Span k r j (d i)) → Span k d j x → Span k r j x
    carried j x each s = span_same k laws r j _ x s.1 (span_combine k laws r j j d s.0 each)

    back : (j : ℕ) → j ≤ m → (i : ℕ) → i < j → Span k r j (d i)
    back zero l i b = absurd (omega arith)
    back (suc j) l i b =
        let before : (i : ℕ) → i < j → Span k r j (d i) = back j (omega arith) in
        elim (cases_eq i j) [
          | inr n ↦ span_wider k laws r j (suc j) (d i) (omega arith) (before i (omega arith))
          | inl e ↦
              let change = span_neg k laws r j _ (carried j _ before (reduces j l)) in
              let here : Span k r (suc j) (d j) = span_same k laws r (suc j) _ (d j) (λ i. simp (ring, laws)) (span_more k laws r j 𝟙 _ change) in
              subst (λ p. Span k r (suc j) (d p)) (sym e) here
        ]

    -- Where d j depends on the columns before it, so does r j on those of r; then its coefficient -1 is 0 unless r j is.
    pub dependent_dead : (j : ℕ) → j < m → Dependent k d j → alive j ≡ false
    dependent_dead j l dep =
        let own : Span k d j (r j) = span_same k laws d j _ (r j) (λ i. simp (ring, laws)) (span_add k laws d j _ _ (reduces j l) dep) in
        let s : Span k r j (r j) = carried j (r j) (back j (omega arith)) own in
        let y = put j (neg 𝟙) s.0 in
        let none : (i : ℕ) → combine k r (suc j) y i ≡ 𝟘 = λ i. combine_put k laws r j (neg 𝟙) s.0 i ∙ ap (λ w. w ⊕ neg 𝟙 ⊗ r j i) (s.1 i) ∙ simp (ring, laws) in
        elim (cases_Bool (alive j)) [
          | inr f ↦ f
          | inl t ↦
              let gone : neg 𝟙 ≡ 𝟘 = sym (put_here j (neg 𝟙) s.0) ∙ free_from 0 (suc j) y l (λ i b. none i) j (omega arith) t (omega arith) in
              absurd (laws.apart (sym (sym (neg_neg k laws 𝟙) ∙ ap neg gone ∙ neg_zero k laws)))
        ]

    -- The last row of a combination is the low of a column: if e is none, the columns with a lesser low are 0 there, and those with a
    -- greater one have coefficient 0.
    pub last_row_low : (e : ℕ) → LastRow k d m e → (j : ℕ) × (j < m) × (alive j ≡ true) × (low j ≡ e)
    last_row_low e last =
        let s : Span k r m last.vector = carried m last.vector (back m (omega arith)) last.spanned in
        elim (find e m) [
          | inl g ↦ g
          | inr none ↦ absurd (last.here (sym (s.1 e) ∙ sum_none k laws 0 m (λ j. s.0 j ⊗ r j e) (λ j _ l.
              elim (cases_Bool (alive j)) [
                | inr f ↦ times_zero k laws (s.0 j) (r j e) (ech.dead j (omega arith) f e)
                | inl t ↦ elim (cases_lt (low j) e) [
                  | inl o ↦ times_zero k laws (s.0 j) (r j e) (ech.above j e (omega arith) t o)
                  | inr o ↦
                      let apart : ¬ (low j ≡ e) = none j (omega arith) t in
                      zero_times k laws (s.0 j) (r j e) (free_from (suc e) m s.0 (omega arith) (λ i b. s.1 i ∙ last.beyond i b) j (omega arith) t (omega arith))
                ]
              ])))
        ]

    pub low_last_row : (j : ℕ) → j < m → alive j ≡ true → LastRow k d m (low j)
    low_last_row j l a = record {
      vector = r j;
      spanned = span_wider k laws d (suc j) m (r j) (omega arith) (span_same k laws d (suc j) _ (r j) (λ i. simp (ring, laws)) (span_more k laws d j 𝟙 _ (reduces j l)));
      here = ech.pivot j l a;
      beyond = λ i b. ech.above j i l a b;
    }

    -- weights that are 0 on the columns of r before j and 1 on r j are so on those of d
    pub dot_through : (j : ℕ) (w : ℕ → E) → j < m → ((i : ℕ) → i < j → dot k laws rows w (r i) ≡ 𝟘) → dot k laws rows w (r j) ≡ 𝟙
        → ((i : ℕ) → i < j → dot k laws rows w (d i) ≡ 𝟘) × (dot k laws rows w (d j) ≡ 𝟙)
    dot_through j w l each hit =
        let spanned : (x : ℕ → E) → Span k r j x → dot k laws rows w x ≡ 𝟘 = λ x s.
        dot_same k laws rows w x (combine k r j s.0) (λ i. sym (s.1 i)) ∙ dot_spanned k laws rows j w r s.0 each in
        let from-d = back j (omega arith) in
        let change : dot k laws rows w (λ i. r j i ⊕ neg (d j i)) ≡ 𝟘 = spanned _ (carried j _ from-d (reduces j l)) in (
          (λ i b. spanned (d i) (from-d i b)),
          sym (sym hit ∙ dot_same k laws rows w (r j) (λ i. d j i ⊕ (r j i ⊕ neg (d j i))) (λ i. simp (ring, laws))
              ∙ dot_add k laws rows w (d j) (λ i. r j i ⊕ neg (d j i)) ∙ plus_zero k laws (dot k laws rows w (d j)) (dot k laws rows w (λ i. r j i ⊕ neg (d j i))) change),
        )
