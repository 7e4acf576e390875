-- The columns of a system as columns of elements: combinations, dependence and capped rows, over codes and over elements.
use Rattle.std.proofs.Common.{◌≡◌, ℕ, suc, ◌+◌, ◌-◌, ◌<◌, ◌≤◌, Bool, true, false, cond, ◌&&◌, eqb, ltb, leb, sym, refl, ap, ◌∙◌, inl, inr, arith}
use native.Mathlib.Fin.{val_path as by_code}
use Rattle.std.proofs.lemmas.Bool.{cases_Bool, cond-true, cond-false, cond_both, and_parts, and_from, leb-true, le-leb}
use Rattle.std.proofs.lemmas.Bool.Decides.{nat_tests}
use Rattle.field.specs.Algebra.{Operations, Laws}
use Rattle.field.specs.Arithmetic.{Arithmetic, FieldLaws, Code}
use Rattle.field.proofs.Elements.{Element, elements, element_laws, zero_code, one_code}
use Rattle.matrix.specs.Matrix.{Entries}
use Rattle.complex.specs.Systems.{Vector, System, starting}
use Rattle.homology.specs.Linear.{Codes, total, combination, CodedSystem, Dependent, Capped}
use Rattle.homology.proofs.Spans.{combine, combine_none, dot, LastRow}
use Rattle.homology.proofs.Spans as spans
use Rattle.homology.proofs.Equations.{times_zero}
use Rattle.homology.proofs.Totals.{total_sum, total_sum_0, total_same, lifted, lowered, lowered_codes}

-- every entry is a code
abbrev pub Coded : Arithmetic → Entries → Type 0
Coded F M = (r c : ℕ) → Code F (M r c)

-- an entry as an element
abbrev pub at : (F : Arithmetic) (M : Entries) → Coded F M → ℕ → ℕ → Element F
at F M codes r c = (M r c, codes r c)

-- what the starting matrix of a system holds
module _ (S : System) where
  abbrev E : ℕ
  E = S.rows

  abbrev T : ℕ
  T = S.columns

  in_matrix : (r t m v : ℕ) → 1 ≤ r → r ≤ E → 1 ≤ t → t ≤ T → cond (leb 1 r && leb r E && leb 1 t && leb t T) m v ≡ m
  in_matrix r t m v a b c d = grind (arith, nat_tests)

  pub starting_entry : (r t : ℕ) → 1 ≤ r → r ≤ E → 1 ≤ t → t ≤ T → starting S r t ≡ S.matrix r t
  starting_entry r t a b c d = in_matrix r t _ _ a b c d

  in_target : (r c m v x : ℕ) → 1 ≤ r → r ≤ E → c ≡ suc T → cond (leb 1 r && leb r E && leb 1 c && leb c T) m (cond (leb 1 r && leb r E && eqb c (T + 1)) v x) ≡ v
  in_target r c m v x a b e = grind (arith, nat_tests)

  pub starting_target : (r : ℕ) → 1 ≤ r → r ≤ E → starting S r (suc T) ≡ S.target r
  starting_target r a b = in_target r (suc T) _ _ _ a b refl

  in_record : (t c m v : ℕ) → 1 ≤ t → t ≤ T
      → cond (leb 1 (E + t) && leb (E + t) E && leb 1 c && leb c T) m
      (cond (leb 1 (E + t) && leb (E + t) E && eqb c (T + 1)) v (cond (ltb E (E + t) && leb (E + t) (E + T) && eqb (E + t - E) c) 1 0)) ≡ cond (eqb t c) 1 0
  in_record t c m v a b = grind (arith, nat_tests)

  -- the rows below are the unit matrix
  pub starting_record : (t c : ℕ) → 1 ≤ t → t ≤ T → starting S (E + t) c ≡ cond (eqb t c) 1 0
  starting_record t c a b = in_record t c _ _ a b

pub starting_codes : (F : Arithmetic) → FieldLaws F → (S : System) → CodedSystem F S → Coded F (starting S)
starting_codes F f S h r c =
    cond_both (leb 1 r && leb r S.rows && leb 1 c && leb c S.columns) _ _ (Code F)
    (λ t. let p = and_parts _ _ t in let q = and_parts _ _ p.0 in let s = and_parts _ _ q.0 in
    h.entries r c (leb-true 1 r s.0) (leb-true r S.rows s.1) (leb-true 1 c q.1) (leb-true c S.columns p.1))
    (λ _. cond_both (leb 1 r && leb r S.rows && eqb c (S.columns + 1)) _ _ (Code F)
    (λ t. let p = and_parts _ _ t in let q = and_parts _ _ p.0 in h.aims r (leb-true 1 r q.0) (leb-true r S.rows q.1))
    (λ _. cond_both (ltb S.rows r && leb r (S.rows + S.columns) && eqb (r - S.rows) c) 1 0 (Code F) (λ _. one_code F f) (λ _. zero_code F f)))

-- the rows 1 to E
module _ (S : System) where
  abbrev pub in_rows : ℕ → Bool
  in_rows r = leb 1 r && leb r S.rows

  is_in_rows : (r : ℕ) → 1 ≤ r → r ≤ S.rows → in_rows r ≡ true
  is_in_rows r l m = and_from _ _ (le-leb 1 r l) (le-leb r S.rows m)

  pub row_bounds : (r : ℕ) → in_rows r ≡ true → (1 ≤ r) × (r ≤ S.rows)
  row_bounds r t = let p = and_parts _ _ t in (leb-true 1 r p.0, leb-true r S.rows p.1)

-- Over elements columns are counted from 0, the target is the last of them, and rows from 1: row 0 and the rows from E + 1 on are
-- 0, so that equations hold in every row.
module _ (F : Arithmetic) (f : FieldLaws F) (S : System) where
  abbrev K : Operations (Element F)
  K = elements F f

  abbrev laws : Laws K
  laws = element_laws F f

  -- x in the rows 1 to E, and 0 elsewhere
  abbrev pub cut : Element F → ℕ → Element F
  cut x r = cond (in_rows S r) x K.zero

  pub cut_in : (x : Element F) (r : ℕ) → 1 ≤ r → r ≤ S.rows → cut x r ≡ x
  cut_in x r l m = cond-true _ _ _ (is_in_rows S r l m)

  pub cut_out : (x : Element F) (r : ℕ) → in_rows S r ≡ false → cut x r ≡ K.zero
  cut_out x r o = cond-false _ _ _ o

  -- a vector of codes as a column
  abbrev pub column_of : (v : Vector) → Codes F v → ℕ → Element F
  column_of v codes r = cut (v r, codes r) r

  -- a sum of products over the rows 1 to E, with weights y
  abbrev pub weights : (y : Vector) → Codes F y → ℕ → Element F
  weights y cy r = (y r, cy r)

  pub dot_codes : (y : Vector) (cy : Codes F y) (x : ℕ → Element F) (v : Vector) → x 0 ≡ K.zero → ((r : ℕ) → 1 ≤ r → r ≤ S.rows → (x r).0 ≡ v r)
      → (dot K laws (suc S.rows) (weights y cy) x).0 ≡ total F S.rows (λ r. F.product (y r) (v r))
  dot_codes y cy x v z h =
      sym (total_sum_0 F f S.rows (λ r. K.mul (weights y cy r) (x r)) (times_zero K laws (weights y cy 0) (x 0) z))
      ∙ total_same F f S.rows _ _ (λ r l m. ap (F.product (y r)) (h r l m))

  module _ (coded : Coded F (starting S)) where
    abbrev pub column : ℕ → ℕ → Element F
    column t r = cut (at F (starting S) coded r (suc t)) r

    pub column_entry : (t r : ℕ) → t < S.columns → 1 ≤ r → r ≤ S.rows → (column t r).0 ≡ S.matrix r (suc t)
    column_entry t r q l m = ap (λ z. z.0) (cut_in (at F (starting S) coded r (suc t)) r l m) ∙ starting_entry S r (suc t) l m (omega arith) (omega arith)

    pub column_target : (r : ℕ) → 1 ≤ r → r ≤ S.rows → (column S.columns r).0 ≡ S.target r
    column_target r l m = ap (λ z. z.0) (cut_in (at F (starting S) coded r (suc S.columns)) r l m) ∙ starting_target S r l m

    pub column_out : (t r : ℕ) → in_rows S r ≡ false → column t r ≡ K.zero
    column_out t r o = cut_out (at F (starting S) coded r (suc t)) r o

    pub combine_out : (n : ℕ) (c : ℕ → Element F) (r : ℕ) → in_rows S r ≡ false → combine K column n c r ≡ K.zero
    combine_out n c r o = combine_none K laws column n c r (λ t. column_out t r o)

    -- a combination of codes is the combination of their elements
    pub combine_codes : (n : ℕ) → n ≤ S.columns → (x : Vector) (cx : Codes F x) (r : ℕ) → 1 ≤ r → r ≤ S.rows
        → (combine K column n (lifted F x cx) r).0 ≡ combination F n S.matrix x r
    combine_codes n q x cx r l m =
        sym (total_sum F f n (λ i. K.mul (x i, cx i) (cut (at F (starting S) coded r i) r)))
        ∙ total_same F f n _ _ (λ i o p. ap (F.product (x i)) (ap (λ z. z.0) (cut_in (at F (starting S) coded r i) r l m) ∙ starting_entry S r i l m o (omega arith)))

    -- dependence and capped rows
    pub dependent_up : (t : ℕ) → t < S.columns → Dependent F S (suc t) → spans.Dependent K column t
    dependent_up t l h = (
      lifted F h.0 h.1,
      λ r. elim (cases_Bool (in_rows S r)) [
        | inl i ↦
            let p = row_bounds S r i in
            by_code (combine_codes t (omega arith) h.0 h.1 r p.0 p.1 ∙ h.2 r p.0 p.1 ∙ sym (column_entry t r l p.0 p.1))
        | inr o ↦ combine_out t (lifted F h.0 h.1) r o ∙ sym (column_out t r o)
      ],
    )

    pub dependent_down : (t : ℕ) → t < S.columns → spans.Dependent K column t → Dependent F S (suc t)
    dependent_down t l h = (
      lowered F h.0,
      lowered_codes F f h.0,
      λ r p q. sym (combine_codes t (omega arith) (lowered F h.0) (lowered_codes F f h.0) r p q) ∙ ap (λ z. z.0) (h.1 r) ∙ column_entry t r l p q,
    )

    pub capped_up : (e : ℕ) → Capped F S e → LastRow K column S.columns e
    capped_up e h =
        let c = lifted F h.0 h.1 in
        let value : (r : ℕ) → 1 ≤ r → r ≤ S.rows → (combine K column S.columns c r).0 ≡ combination F S.columns S.matrix h.0 r =
        combine_codes S.columns (omega arith) h.0 h.1 in
        record {
          vector = combine K column S.columns c;
          spanned = (c, λ r. refl);
          here = λ z. h.2.nonzero (sym (value e h.2.from h.2.to) ∙ ap (λ z. z.0) z);
          beyond = λ r l. elim (cases_Bool (in_rows S r)) [
            | inl i ↦ let p = row_bounds S r i in by_code (value r p.0 p.1 ∙ h.2.above r l p.1)
            | inr o ↦ combine_out S.columns c r o
          ];
        }

    pub capped_down : (e : ℕ) → 1 ≤ e → e ≤ S.rows → LastRow K column S.columns e → Capped F S e
    capped_down e l m h =
        let x = lowered F h.spanned.0 in
        let codes = lowered_codes F f h.spanned.0 in
        let value : (r : ℕ) → 1 ≤ r → r ≤ S.rows → combination F S.columns S.matrix x r ≡ (h.vector r).0 = λ r p q.
        sym (combine_codes S.columns (omega arith) x codes r p q) ∙ ap (λ z. z.0) (h.spanned.1 r) in (
          x,
          codes,
          record {
            from = l;
            to = m;
            nonzero = λ z. h.here (by_code (sym (value e l m) ∙ z));
            above = λ r p q. value r (omega arith) q ∙ ap (λ z. z.0) (h.beyond r p);
          },
        )
