-- What is read off a reduced matrix: the given solution where the last column is 0, and the given separator where it is not.
use Rattle.std.proofs.Common.{◌≡◌, ℕ, zero, suc, pred, ◌+◌, ◌<◌, ◌≤◌, cond, eqb, None, sym, refl, ap, ◌∙◌, subst, ap₂, inl, inr, arith}
use native.Mathlib.Fin.{val_path as by_code}
use Rattle.std.proofs.lemmas.Bool.{cases_eq, ne_eqb, eq-eqb, cond-true, cond-false, cond_both}
use Rattle.field.specs.Algebra.{Operations, Laws}
use Rattle.field.specs.Arithmetic.{Arithmetic, FieldLaws, Code}
use Rattle.field.proofs.Rings.{neg_zero, cleared, inv_mul}
use Rattle.field.proofs.Elements.{Element, elements, element_laws, zero_code, product_zero, zero_product_code, zero_sum}
use Rattle.matrix.specs.Matrix.{Entries}
use Rattle.complex.specs.Systems.{Vector, System, starting}
use Rattle.homology.specs.Linear.{total, combination, Independent, Capped, GivenSolution, GivenSeparator}
use Rattle.homology.specs.Reduction.{low, owner, due, reduction}
use Rattle.homology.specs.Certificate.{vector, values, filling_codes, block_codes}
use Rattle.homology.specs.Theorems.{ReductionAnswers}
use Rattle.homology.proofs.Sums.{sum_below}
use Rattle.homology.proofs.Spans.{combine, combine_neg, dot}
use Rattle.homology.proofs.Equations.{minus_swap}
use Rattle.homology.proofs.Totals.{total_same, total_code, total_front, total_zero, total_only}
use Rattle.homology.proofs.Columns.{Coded, starting_codes, column, column_entry, column_target, combine_codes, weights, dot_codes}
use Rattle.homology.proofs.Echelon.{dot_through}
use Rattle.homology.proofs.Lows.{low_most, low_nonzero, low_above, owner_cases, one_owner, none_apart, none_quiet}
use Rattle.homology.proofs.Additions.{Invariant}
use Rattle.homology.proofs.Reduced.{reduced_column, reduced_entry, lows, alive, echelon, recorded_weights, recorded, unitriangular, alive_independent, capped_low, low_capped}
use Rattle.homology.proofs.Ending.{reduction_ends_lem, reduction_kept}
use Rattle.homology.proofs.Listing.{vector_listed, vector_each}

module _ (F : Arithmetic) (f : FieldLaws F) (S : System) (coded : Coded F (starting S)) (N : Entries) (inv : Invariant F f S coded S.columns N) (ended : due S.rows S.columns N ≡ None) where
  abbrev K : Operations (Element F)
  K = elements F f

  abbrev laws : Laws K
  laws = element_laws F f

  abbrev E : ℕ
  E = S.rows

  abbrev T : ℕ
  T = S.columns

  abbrev D : ℕ → ℕ → Element F
  D = column F f S coded

  abbrev R : ℕ → ℕ → Element F
  R = reduced_column F f S coded N inv ended

  abbrev C : ℕ → Element F
  C = recorded_weights F f S coded N inv ended T

  one_more : T + 1 ≡ suc T
  one_more = omega arith

  -- The rows below E say how the target came to the last column; minus that is how the columns make up the difference.
  abbrev coefficients : Vector
  coefficients t = F.negative (N (E + t) (T + 1))

  coefficient_codes : (t : ℕ) → Code F (coefficients t)
  coefficient_codes t = f.negative_code (N (E + t) (T + 1))

  coefficient_is : (t : ℕ) → K.neg (C t) ≡ (coefficients (suc t), coefficient_codes (suc t))
  coefficient_is t = by_code (ap (λ c. F.negative (N (E + suc t) c)) (sym one_more))

  combined : (r : ℕ) → 1 ≤ r → r ≤ E → (combine K D T (λ t. K.neg (C t)) r).0 ≡ combination F T S.matrix coefficients r
  combined r l m =
      ap (λ z. z.0) (sum_below K laws T _ (λ t. K.mul (coefficients (suc t), coefficient_codes (suc t)) (D t r)) (λ t _. ap (λ z. K.mul z (D t r)) (coefficient_is t)))
      ∙ combine_codes F f S coded T (omega arith) coefficients coefficient_codes r l m

  differs : (r : ℕ) → 1 ≤ r → r ≤ E → S.target r ≡ F.sum (N r (T + 1)) (combination F T S.matrix coefficients r)
  differs r l m =
      sym (column_target F f S coded r l m)
      ∙ ap (λ z. z.0) (minus_swap K laws (combine K D T C r) (R T r) (D T r) (recorded F f S coded N inv ended T (omega arith) r))
      ∙ ap₂ F.sum (reduced_entry F f S coded N inv ended T r l m ∙ ap (N r) (sym one_more)) (ap (λ z. z.0) (sym (combine_neg K laws D T C r)) ∙ combined r l m)

  -- a coefficient that is not 0 stands at a column that has a low
  spare_coefficient : (t : ℕ) → 1 ≤ t → t ≤ T → (Independent F S t → ⊥) → coefficients t ≡ 0
  spare_coefficient zero l m h = absurd (omega arith)
  spare_coefficient (suc t) l m h = elim (cases_eq (N (E + suc t) (suc T)) 0) [
    | inl z ↦ ap (λ c. F.negative (N (E + suc t) c)) one_more ∙ ap F.negative z ∙ ap (λ z. z.0) (neg_zero K laws)
    | inr z ↦ absurd (h (alive_independent F f S coded N inv ended t (omega arith) (inv.support (suc T) (suc t) l m (omega arith) (omega arith) (omega arith) z).2))
  ]

  given_solution : low E N (T + 1) ≡ 0 → GivenSolution F S (vector (filling_codes F E T N))
  given_solution none = record {
    solves = record {
      codes = vector_each (Code F) (zero_code F f) T coefficients coefficient_codes;
      reaches = λ r l m.
          total_same F f T _ _ (λ t o p. ap (λ x. F.product x (S.matrix r t)) (vector_listed T coefficients t o p))
          ∙ sym (differs r l m ∙ ap (λ a. F.sum a (combination F T S.matrix coefficients r)) (low_above N E (T + 1) r (omega arith) m) ∙ zero_sum F f (combination F T S.matrix coefficients r) (total_code F f T _));
    };
    spare = λ t l m h. vector_listed T coefficients t l m ∙ spare_coefficient t l m h;
  }

  -- The values of a block, row by row: each is fixed once it is made.
  abbrev V : ℕ → Vector
  V = values F E T N

  abbrev Y : Vector
  Y = V E

  -- what row e + 1 gets, where i has it for its low
  value : ℕ → ℕ → ℕ
  value e i =
      cond (eqb i 0)
      (cond (eqb (low E N (T + 1)) (suc e)) (F.inverse (N (suc e) (T + 1))) 0)
      (F.product (F.negative (total F e (λ r. F.product (V e r) (N r i)))) (F.inverse (N (suc e) i)))

  value_code : (e r : ℕ) → Code F (V e r)
  value_code zero r = zero_code F f
  value_code (suc e) r = cond_both (eqb r (suc e)) _ (V e r) (Code F)
      (λ _. cond_both (eqb (owner E N T (suc e)) 0) _ _ (Code F)
      (λ _. cond_both (eqb (low E N (T + 1)) (suc e)) _ _ (Code F) (λ _. f.inverse_code _) (λ _. zero_code F f))
      (λ _. f.product_code _ _))
      (λ _. value_code e r)

  value_fixed : (m e r : ℕ) → e ≤ m → r ≤ e → V m r ≡ V e r
  value_fixed zero e r l o = let z : e ≡ 0 = omega arith in ap (λ e. V e r) (sym z)
  value_fixed (suc m) e r l o = elim (cases_eq e (suc m)) [
    | inl q ↦ ap (λ e. V e r) (sym q)
    | inr q ↦ cond-false _ _ _ (ne_eqb r (suc m) (omega arith)) ∙ value_fixed m e r (omega arith) o
  ]

  value_at_of : (e : ℕ) → suc e ≤ E → Y (suc e) ≡ value e (owner E N T (suc e))
  unfolding value
  value_at_of e l = value_fixed E (suc e) (suc e) l (omega arith) ∙ cond-true _ _ _ (eq-eqb (suc e) (suc e) refl)

  unowned : (e : ℕ) → suc e ≤ E → owner E N T (suc e) ≡ 0 → Y (suc e) ≡ cond (eqb (low E N (T + 1)) (suc e)) (F.inverse (N (suc e) (T + 1))) 0
  unfolding value
  unowned e l z = value_at_of e l ∙ cond-true _ _ _ (eq-eqb (owner E N T (suc e)) 0 z)

  owned : (e i : ℕ) → suc e ≤ E → 1 ≤ i → owner E N T (suc e) ≡ i → Y (suc e) ≡ F.product (F.negative (total F e (λ r. F.product (Y r) (N r i)))) (F.inverse (N (suc e) i))
  unfolding value
  owned e i l o q =
      value_at_of e l ∙ ap (value e) q ∙ cond-false _ _ _ (ne_eqb i 0 (omega arith))
      ∙ ap (λ s. F.product (F.negative s) (F.inverse (N (suc e) i))) (total_same F f e _ _ (λ r o p. ap (λ y. F.product y (N r i)) (sym (value_fixed E e r (omega arith) p))))

  -- They are 0 on every reduced column: above its low the column is 0, and the value at its low clears the sum up to there.
  on_reduced : (i : ℕ) → 1 ≤ i → i ≤ T → total F E (λ r. F.product (Y r) (N r i)) ≡ 0
  on_reduced i l m = go (low E N i) refl
    where
      go : (e : ℕ) → low E N i ≡ e → total F E (λ r. F.product (Y r) (N r i)) ≡ 0
      go zero q = total_zero F f E _ (λ r o p. ap (F.product (Y r)) (low_above N E i r (omega arith) p) ∙ product_zero F f (Y r))
      go (suc e) q =
          let rows : suc e ≤ E = omega (arith, low_most N E i) in
          let some : ¬ (N (suc e) i ≡ 0) = subst (λ r. ¬ (N r i ≡ 0)) q (low_nonzero N E i (omega arith)) in
          let s = total F e (λ r. F.product (Y r) (N r i)) in
          let mine : owner E N T (suc e) ≡ i = elim (owner_cases E N T (suc e)) [
            | inl g ↦ one_owner E N T i (owner E N T (suc e)) (none_apart E T N ended) l m g.0 g.1 (omega arith) (g.2 ∙ sym q)
            | inr g ↦ absurd (g.1 i l m q)
          ] in
          total_front F f (suc e) E (λ r. F.product (Y r) (N r i)) rows (λ r o p. ap (F.product (Y r)) (low_above N E i r (omega arith) p) ∙ product_zero F f (Y r))
          ∙ ap (λ y. F.sum s (F.product y (N (suc e) i))) (owned e i rows l mine)
          ∙ ap (λ z. z.0) (cleared K laws (s, total_code F f e _) (N (suc e) i, inv.codes (suc e) i) (λ z. some (ap (λ z. z.0) z)))

  module _ (some : ¬ (low E N (T + 1) ≡ 0)) where
    abbrev top : ℕ
    top = low E N (T + 1)

    top_nonzero : ¬ (N top (T + 1) ≡ 0)
    top_nonzero = low_nonzero N E (T + 1) (omega arith)

    -- They are 1 on the last reduced column: in a row that is a low it is 0, and in other rows the values are, but for the top.
    other_row : (r : ℕ) → 1 ≤ r → r ≤ E → ¬ (r ≡ top) → F.product (Y r) (N r (T + 1)) ≡ 0
    other_row zero l m n = absurd (omega arith)
    other_row (suc e) l m n = elim (owner_cases E N T (suc e)) [
      | inl g ↦ ap (F.product (Y (suc e))) (none_quiet E T N ended (suc e) l m (owner E N T (suc e)) g.0 g.1 g.2) ∙ product_zero F f (Y (suc e))
      | inr g ↦ ap (λ y. F.product y (N (suc e) (T + 1))) (unowned e m g.0 ∙ cond-false _ _ _ (ne_eqb top (suc e) (λ q. n (sym q)))) ∙ zero_product_code F f (N (suc e) (T + 1))
    ]

    top_row : (t : ℕ) → top ≡ t → F.product (Y t) (N t (T + 1)) ≡ 1
    top_row zero q = absurd (some q)
    top_row (suc e) q =
        let here : ¬ (N (suc e) (T + 1) ≡ 0) = subst (λ r. ¬ (N r (T + 1) ≡ 0)) q top_nonzero in
        let rows : suc e ≤ E = omega (arith, low_most N E (T + 1)) in
        elim (owner_cases E N T (suc e)) [
          | inl g ↦ absurd (here (none_quiet E T N ended (suc e) (omega arith) rows (owner E N T (suc e)) g.0 g.1 g.2))
          | inr g ↦
              ap (λ y. F.product y (N (suc e) (T + 1))) (unowned e rows g.0 ∙ cond-true _ _ _ (eq-eqb top (suc e) q))
              ∙ ap (λ z. z.0) (inv_mul K laws (N (suc e) (T + 1), inv.codes (suc e) (T + 1)) (λ z. here (ap (λ z. z.0) z)))
        ]

    on_last : total F E (λ r. F.product (Y r) (N r (T + 1))) ≡ 1
    on_last = total_only F f E top _ (f.product_code _ _) (omega arith) (low_most N E (T + 1)) other_row ∙ top_row top refl

    -- so they are on the columns of the system and on its target
    abbrev w : ℕ → Element F
    w = weights F f S Y (value_code E)

    on_start : ((t : ℕ) → t < T → dot K laws (suc E) w (D t) ≡ K.zero) × (dot K laws (suc E) w (D T) ≡ K.one)
    on_start =
        dot_through K laws (suc E) (suc T) (alive F f S coded N inv ended) (lows F f S coded N inv ended) R (echelon F f S coded N inv ended) D (unitriangular F f S coded N inv ended) T w (omega arith)
        (λ t l. by_code (dot_codes F f S Y (value_code E) (R t) (λ r. N r (suc t)) refl (reduced_entry F f S coded N inv ended t) ∙ on_reduced (suc t) (omega arith) (omega arith)))
        (by_code (dot_codes F f S Y (value_code E) (R T) (λ r. N r (T + 1)) refl (λ r l m. reduced_entry F f S coded N inv ended T r l m ∙ ap (N r) (sym one_more)) ∙ on_last))

    on_column : (t : ℕ) → 1 ≤ t → t ≤ T → total F E (λ r. F.product (Y r) (S.matrix r t)) ≡ 0
    on_column zero l m = absurd (omega arith)
    on_column (suc t) l m =
        sym (dot_codes F f S Y (value_code E) (D t) (λ r. S.matrix r (suc t)) refl (λ r o p. column_entry F f S coded t r (omega arith) o p)) ∙ ap (λ z. z.0) (on_start.0 t (omega arith))

    on_target : total F E (λ r. F.product (Y r) (S.target r)) ≡ 1
    on_target = sym (dot_codes F f S Y (value_code E) (D T) S.target refl (column_target F f S coded)) ∙ ap (λ z. z.0) on_start.1

    spare_value : (e : ℕ) → 1 ≤ e → e ≤ E → (Capped F S e → ⊥) → ¬ (e ≡ top) → Y e ≡ 0
    spare_value zero l m h n = absurd (omega arith)
    spare_value (suc e) l m h n = elim (owner_cases E N T (suc e)) [
      | inl g ↦
          let i = pred (owner E N T (suc e)) in
          let same : suc i ≡ owner E N T (suc e) = omega (arith, g.0) in
          let here : low E N (suc i) ≡ suc e = ap (low E N) same ∙ g.2 in
          absurd (h (subst (Capped F S) here (low_capped F f S coded N inv ended i (omega (arith, g.0, g.1)) (omega arith))))
      | inr g ↦ unowned e m g.0 ∙ cond-false _ _ _ (ne_eqb top (suc e) (λ q. n (sym q)))
    ]

    given_separator : GivenSeparator F S (vector (block_codes F E T N))
    given_separator = record {
      separates = record {
        codes = vector_each (Code F) (zero_code F f) E Y (value_code E);
        closed = λ t l m. total_same F f E _ _ (λ r o p. ap (λ y. F.product y (S.matrix r t)) (vector_listed E Y r o p)) ∙ on_column t l m;
        one = total_same F f E _ _ (λ r o p. ap (λ y. F.product y (S.target r)) (vector_listed E Y r o p)) ∙ on_target;
      };
      rest = λ r. N r (T + 1);
      remainder = record {
        codes = λ r. inv.codes r (T + 1);
        weights = coefficients;
        weight_codes = coefficient_codes;
        differs = differs;
        clear = λ e l m h. let g = capped_low F f S coded N inv ended e h in none_quiet E T N ended e l m (suc g.0) (omega arith) (omega (arith, g.1)) g.2;
      };
      top = top;
      greatest = record { from = omega arith; to = low_most N E (T + 1); nonzero = top_nonzero; above = λ r l m. low_above N E (T + 1) r l m };
      spare = λ e l m h n. vector_listed E Y e l m ∙ spare_value e l m h n;
    }

pub reduction_answers_lem : ReductionAnswers
reduction_answers_lem F f S coded =
    let codes = starting_codes F f S coded in
    let N = (reduction F S).matrix in
    let kept = reduction_kept F f S codes in
    let none = (reduction_ends_lem F f S coded).none_due in
    record { filling = given_solution F f S codes N kept none; block = given_separator F f S codes N kept none }
