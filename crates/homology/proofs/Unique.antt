-- The given solution and the given separator of a system are the only ones.
use Rattle.std.proofs.Common.{◌≡◌, ℕ, zero, suc, ◌-◌, ◌<◌, ◌≤◌, ◌⊎◌, sym, refl, ap, ◌∙◌, subst, ap₂, inl, inr, arith}
use native.Mathlib.Fin.{val_path as by_code}
use Rattle.std.proofs.lemmas.Bool.{cases_eq, cases_lt, cases_Bool}
use Rattle.field.specs.Algebra.{Operations, Laws}
use Rattle.field.specs.Arithmetic.{Arithmetic, FieldLaws}
use Rattle.field.proofs.Rings.{zero_product}
use Rattle.field.proofs.Elements.{Element, elements, element_laws, product_zero, zero_product_code}
use Rattle.complex.specs.Systems.{Vector, System, starting}
use Rattle.homology.specs.Linear.{Agree, Greatest, Capped, Remainder, GivenSolution, GivenSeparator}
use Rattle.homology.specs.Theorems.{OneSolution, OneSeparator}
use Rattle.homology.proofs.Sums.{sum_only}
use Rattle.homology.proofs.Spans.{combine, combine_sub, combine_none, unique, same_from, dot, dot_same, dot_add, dot_sub, dot_spanned}
use Rattle.homology.proofs.Equations.{zero_times, times_zero, zero_plus, plus_zero, minus_same, minus_across, minus_factor}
use Rattle.homology.proofs.Totals.{total_only, lifted}
use Rattle.homology.proofs.Columns.{Coded, starting_codes, in_rows, row_bounds, cut, cut_in, cut_out, column, column_of, column_entry, column_target, column_out, combine_out, combine_codes, weights, dot_codes, dependent_down, capped_up, capped_down}

module _ (F : Arithmetic) (f : FieldLaws F) (S : System) (coded : Coded F (starting S)) where
  abbrev K : Operations (Element F)
  K = elements F f

  abbrev laws : Laws K
  laws = element_laws F f

  abbrev E : ℕ
  E = S.rows

  abbrev T : ℕ
  T = S.columns

  abbrev D : ℕ → ℕ → Element F
  D = column F f S coded

  -- Both solutions combine the columns to the target, and both spare the dependent columns.
  solved : (x : Vector) (g : GivenSolution F S x) (r : ℕ) → combine K D T (lifted F x g.solves.codes) r ≡ D T r
  solved x g r = elim (cases_Bool (in_rows S r)) [
    | inl i ↦
        let p = row_bounds S r i in
        by_code (combine_codes F f S coded T (omega arith) x g.solves.codes r p.0 p.1 ∙ g.solves.reaches r p.0 p.1 ∙ sym (column_target F f S coded r p.0 p.1))
    | inr o ↦ combine_out F f S coded T (lifted F x g.solves.codes) r o ∙ sym (column_out F f S coded T r o)
  ]

  one_solution : (x y : Vector) → GivenSolution F S x → GivenSolution F S y → Agree T x y
  one_solution x y g h zero l m = absurd (omega arith)
  one_solution x y g h (suc t) l m = ap (λ z. z.0) (
      unique K laws D T (lifted F x g.solves.codes) (lifted F y h.solves.codes) (D T) (solved x g) (solved y h)
      (λ j q dep.
      let spared : (u : Vector) (k : GivenSolution F S u) → u (suc j) ≡ 0 = λ u k. k.spare (suc j) (omega arith) (omega arith) (λ ind. ind (dependent_down F f S coded j q dep)) in
      (by_code (spared x g), by_code (spared y h)))
      t (omega arith))

  -- A remainder as a column: the target is it and a combination of the columns.
  split : (v : Vector) (h : Remainder F S v) (r : ℕ)
      → D T r ≡ K.add (column_of F f S v h.codes r) (combine K D T (lifted F h.weights h.weight_codes) r)
  split v h r =
      let c = lifted F h.weights h.weight_codes in
      elim (cases_Bool (in_rows S r)) [
        | inl i ↦
            let p = row_bounds S r i in
            by_code (column_target F f S coded r p.0 p.1 ∙ h.differs r p.0 p.1
            ∙ ap₂ F.sum (ap (λ z. z.0) (sym (cut_in F f S (v r, h.codes r) r p.0 p.1))) (sym (combine_codes F f S coded T (omega arith) h.weights h.weight_codes r p.0 p.1)))
        | inr o ↦
            column_out F f S coded T r o
            ∙ sym (zero_plus K laws (column_of F f S v h.codes r) (combine K D T c r) (cut_out F f S (v r, h.codes r) r o) ∙ combine_out F f S coded T c r o)
      ]

  -- Two remainders differ by a combination of the columns. Its greatest row that is not 0 would be capped, and there both are 0:
  -- so they agree, the greatest row first.
  module _ (v w : Vector) (g : Remainder F S v) (h : Remainder F S w) where
    abbrev V : ℕ → Element F
    V = column_of F f S v g.codes

    abbrev W : ℕ → Element F
    W = column_of F f S w h.codes

    abbrev difference : ℕ → Element F
    difference t = K.add (lifted F h.weights h.weight_codes t) (K.neg (lifted F g.weights g.weight_codes t))

    differ : (r : ℕ) → combine K D T difference r ≡ K.add (V r) (K.neg (W r))
    differ r =
        let cg = lifted F g.weights g.weight_codes in
        let ch = lifted F h.weights h.weight_codes in
        combine_sub K laws D T ch cg r ∙ minus_across K laws (D T r) (V r) (combine K D T cg r) (W r) (combine K D T ch r) (split v g r) (split w h r)

    same_column : (r : ℕ) → (v r ≡ w r) ⊎ (E < r) → V r ≡ W r
    same_column r (inl e) = let q : (v r, g.codes r) ≡ (w r, h.codes r) = by_code e in ap (λ z. cut F f S z r) q
    same_column r (inr b) = elim (cases_Bool (in_rows S r)) [
      | inl t ↦ absurd (omega (arith, (row_bounds S r t).1))
      | inr o ↦ cut_out F f S (v r, g.codes r) r o ∙ sym (cut_out F f S (w r, h.codes r) r o)
    ]

    capped_where_apart : (r : ℕ) → 1 ≤ r → r ≤ E → ¬ (v r ≡ w r) → ((i : ℕ) → r < i → (v i ≡ w i) ⊎ (E < i)) → Capped F S r
    capped_where_apart r l m n above = capped_down F f S coded r l m (record {
      vector = combine K D T difference;
      spanned = (difference, λ i. refl);
      here = λ z.
          let s : V r ≡ W r = same_from K laws (V r) (W r) (sym (differ r) ∙ z) in
          n (ap (λ z. z.0) (sym (cut_in F f S (v r, g.codes r) r l m) ∙ s ∙ cut_in F f S (w r, h.codes r) r l m));
      beyond = λ i u. differ i ∙ minus_same K laws (V i) (W i) (same_column i (above i u));
    })

    one_remainder : (k r : ℕ) → E - k < r → 1 ≤ r → r ≤ E → v r ≡ w r
    one_remainder zero r o l m = absurd (omega arith)
    one_remainder (suc k) r o l m = elim (cases_lt (E - k) r) [
      | inl q ↦ one_remainder k r q l m
      | inr q ↦ elim (cases_eq (v r) (w r)) [
        | inl e ↦ e
        | inr n ↦
            let cap = capped_where_apart r l m n (λ i u. elim (cases_lt E i) [ inl b ↦ inr b | inr b ↦ inl (one_remainder k i (omega arith) (omega arith) b) ]) in
            g.clear r l m cap ∙ sym (h.clear r l m cap)
      ]
    ]

  one_greatest : (v w : Vector) (s t : ℕ) → Agree E v w → Greatest E v s → Greatest E w t → s ≡ t
  one_greatest v w s t same g h = elim (cases_lt s t) [
    | inl l ↦ absurd (h.nonzero (sym (same t h.from h.to) ∙ g.above t l h.to))
    | inr l ↦ elim (cases_lt t s) [
      | inl m ↦ absurd (g.nonzero (same s g.from g.to ∙ h.above s m g.to))
      | inr m ↦ omega arith
    ]
  ]

  -- A given separator is 0 on the columns and 1 on the target, so 1 on the remainder; there only the greatest row counts.
  module _ (y : Vector) (g : GivenSeparator F S y) where
    abbrev Y : ℕ → Element F
    Y = weights F f S y g.separates.codes

    on_column : (t : ℕ) → t < T → dot K laws (suc E) Y (D t) ≡ K.zero
    on_column t l = by_code (dot_codes F f S y g.separates.codes (D t) (λ r. S.matrix r (suc t)) refl (λ r o p. column_entry F f S coded t r l o p) ∙ g.separates.closed (suc t) (omega arith) (omega arith))

    on_target : dot K laws (suc E) Y (D T) ≡ K.one
    on_target = by_code (dot_codes F f S y g.separates.codes (D T) S.target refl (column_target F f S coded) ∙ g.separates.one)

    abbrev rest : ℕ → Element F
    rest = column_of F f S g.rest g.remainder.codes

    on_rest : dot K laws (suc E) Y rest ≡ K.one
    on_rest =
        let c = lifted F g.remainder.weights g.remainder.weight_codes in
        sym (plus_zero K laws (dot K laws (suc E) Y rest) (dot K laws (suc E) Y (combine K D T c)) (dot_spanned K laws (suc E) T Y D c on_column))
        ∙ sym (dot_same K laws (suc E) Y (D T) (λ r. K.add (rest r) (combine K D T c r)) (split g.rest g.remainder) ∙ dot_add K laws (suc E) Y rest (combine K D T c))
        ∙ on_target

    other_rows : (r : ℕ) → 1 ≤ r → r ≤ E → ¬ (r ≡ g.top) → F.product (y r) (g.rest r) ≡ 0
    other_rows r l m n = elim (cases_eq (g.rest r) 0) [
      | inl z ↦ ap (F.product (y r)) z ∙ product_zero F f (y r)
      | inr z ↦ ap (λ a. F.product a (g.rest r)) (g.spare r l m (λ cap. z (g.remainder.clear r l m cap)) n) ∙ zero_product_code F f (g.rest r)
    ]

    at_top : F.product (y g.top) (g.rest g.top) ≡ 1
    at_top =
        sym (total_only F f E g.top (λ r. F.product (y r) (g.rest r)) (f.product_code _ _) g.greatest.from g.greatest.to other_rows)
        ∙ sym (dot_codes F f S y g.separates.codes rest g.rest refl (λ r l m. ap (λ z. z.0) (cut_in F f S (g.rest r, g.remainder.codes r) r l m)))
        ∙ ap (λ z. z.0) on_rest

  -- The difference of two given separators is 0 on every column, in the greatest row of the remainder, and in the other uncapped
  -- rows. In a capped row it is 0 if it is so in every row before: of a combination that ends there only that row counts.
  module _ (x y : Vector) (g : GivenSeparator F S x) (h : GivenSeparator F S y) where
    rests_agree : Agree E g.rest h.rest
    rests_agree r l m = one_remainder g.rest h.rest g.remainder h.remainder E r (omega arith) l m

    tops : g.top ≡ h.top
    tops = one_greatest g.rest h.rest g.top h.top rests_agree g.greatest h.greatest

    abbrev apart : ℕ → Element F
    apart r = K.add (Y x g r) (K.neg (Y y h r))

    apart_top : apart g.top ≡ K.zero
    apart_top =
        let v : Element F = (g.rest g.top, g.remainder.codes g.top) in
        let other : F.product (y g.top) (g.rest g.top) ≡ 1 =
        ap (F.product (y g.top)) (rests_agree g.top g.greatest.from g.greatest.to) ∙ subst (λ t. F.product (y t) (h.rest t) ≡ 1) (sym tops) (at_top y h) in
        minus_factor K laws (Y x g g.top) (Y y h g.top) v (by_code (at_top x g ∙ sym other)) (λ e. g.greatest.nonzero (ap (λ z. z.0) e))

    apart_column : (t : ℕ) → t < T → dot K laws (suc E) apart (D t) ≡ K.zero
    apart_column t l =
        dot_sub K laws (suc E) (Y x g) (Y y h) (D t) ∙ minus_same K laws (dot K laws (suc E) (Y x g) (D t)) (dot K laws (suc E) (Y y h) (D t)) (on_column x g t l ∙ sym (on_column y h t l))

    apart_spare : (r : ℕ) → 1 ≤ r → r ≤ E → (Capped F S r → ⊥) → ¬ (r ≡ g.top) → apart r ≡ K.zero
    apart_spare r l m cap n = minus_same K laws (Y x g r) (Y y h r) (by_code (g.spare r l m cap n ∙ sym (h.spare r l m cap (λ e. n (e ∙ sym tops)))))

    apart_capped : (r : ℕ) → 1 ≤ r → r ≤ E → ((i : ℕ) → 1 ≤ i → i < r → apart i ≡ K.zero) → Capped F S r → apart r ≡ K.zero
    apart_capped r l m before cap =
        let c = capped_up F f S coded r cap in
        let v = c.vector in
        let spanned : dot K laws (suc E) apart v ≡ K.zero =
        dot_same K laws (suc E) apart v (combine K D T c.spanned.0) (λ i. sym (c.spanned.1 i)) ∙ dot_spanned K laws (suc E) T apart D c.spanned.0 apart_column in
        let only : dot K laws (suc E) apart v ≡ K.mul (apart r) (v r) =
        sum_only K laws 0 (suc E) r (λ i. K.mul (apart i) (v i)) (omega arith) (omega arith) (λ i _ _ d. elim (cases_lt r i) [
          | inl a ↦ times_zero K laws (apart i) (v i) (c.beyond i a)
          | inr a ↦ elim (cases_eq i 0) [
            | inl e ↦ times_zero K laws (apart i) (v i) (sym (c.spanned.1 i) ∙ combine_none K laws D T c.spanned.0 i (λ t. ap (D t) e))
            | inr b ↦ zero_times K laws (apart i) (v i) (before i (omega arith) (omega arith))
          ]
        ]) in
        zero_product K laws (apart r) (v r) (sym only ∙ spanned) c.here

    apart_zero : (n : ℕ) → n ≤ E → (r : ℕ) → 1 ≤ r → r ≤ n → apart r ≡ K.zero
    apart_zero zero o r l m = absurd (omega arith)
    apart_zero (suc n) o r l m = elim (cases_eq r (suc n)) [
      | inr q ↦ apart_zero n (omega arith) r l (omega arith)
      | inl q ↦ elim (laws.decide (apart r) K.zero) [
        | yes e ↦ e
        | no some ↦ elim (cases_eq r g.top) [
          | inl t ↦ ap apart t ∙ apart_top
          | inr t ↦ apart_spare r l (omega arith) (λ cap. some (apart_capped r l (omega arith) (λ i a b. apart_zero n (omega arith) i a (omega arith)) cap)) t
        ]
      ]
    ]

    one_separator_lem : Agree E x y
    one_separator_lem r l m = ap (λ z. z.0) (same_from K laws (Y x g r) (Y y h r) (apart_zero E (omega arith) r l m))

pub only_solution : OneSolution
only_solution F f S coded x y g h = one_solution F f S (starting_codes F f S coded) x y g h

pub only_separator : OneSeparator
only_separator F f S coded x y g h = one_separator_lem F f S (starting_codes F f S coded) x y g h
