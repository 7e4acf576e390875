-- A reduced matrix is in echelon form: its columns with a low are the independent ones, and its lows are the capped rows.
use Rattle.std.proofs.Common.{◌≡◌, ℕ, suc, ◌+◌, ◌<◌, ◌≤◌, Bool, true, false, not, eqb, None, sym, ap, ◌∙◌, ap₂, inl, inr, arith}
use native.Mathlib.Fin.{val_path as by_code}
use Rattle.std.proofs.lemmas.Bool.{cases_eq, cases_lt, cases_Bool, ne_eqb, eq-eqb, cond-true, cond-false, not_from_true, not_from_false, both_ways}
use Rattle.field.specs.Algebra.{Operations, Laws}
use Rattle.field.specs.Arithmetic.{Arithmetic, FieldLaws}
use Rattle.field.proofs.Elements.{Element, elements, element_laws}
use Rattle.matrix.specs.Matrix.{Entries}
use Rattle.complex.specs.Systems.{System, starting}
use Rattle.homology.specs.Linear.{Independent, Capped}
use Rattle.homology.specs.Reduction.{low, due}
use Rattle.homology.proofs.Sums.{sum_below}
use Rattle.homology.proofs.Spans.{combine, combine_last, combine_front}
use Rattle.homology.proofs.Equations.{one_times, zero_plus, minus_same, minus_left}
use Rattle.homology.proofs.Columns.{Coded, at, in_rows, row_bounds, cut_in, cut_out, column, column_of, column_out, combine_out, dependent_up, capped_up, capped_down}
use Rattle.homology.proofs.Echelon.{Echelon, Unitriangular, echelon_fewer, dependent_dead, last_row_low, low_last_row}
use Rattle.homology.proofs.Lows.{low_most, low_nonzero, low_above, none_apart, none_quiet}
use Rattle.homology.proofs.Additions.{Invariant, starts, base}

module _ (F : Arithmetic) (f : FieldLaws F) (S : System) (coded : Coded F (starting S)) (N : Entries) (inv : Invariant F f S coded S.columns N) (ended : due S.rows S.columns N ≡ None) where
  abbrev K : Operations (Element F)
  K = elements F f

  abbrev laws : Laws K
  laws = element_laws F f

  abbrev E : ℕ
  E = S.rows

  abbrev T : ℕ
  T = S.columns

  abbrev D : ℕ → ℕ → Element F
  D = column F f S coded

  -- the columns of N, their lows, and which of them have one; columns from 0
  abbrev pub reduced_column : ℕ → ℕ → Element F
  reduced_column j = column_of F f S (λ r. N r (suc j)) (λ r. inv.codes r (suc j))

  abbrev pub lows : ℕ → ℕ
  lows j = low E N (suc j)

  abbrev pub alive : ℕ → Bool
  alive j = not (eqb (lows j) 0)

  alive_low : (j : ℕ) → alive j ≡ true → 1 ≤ lows j
  alive_low j a = elim (cases_eq (lows j) 0) [ inl z ↦ absurd (both_ways _ (not_from_true _ (eq-eqb (lows j) 0 z)) a) | inr z ↦ omega arith ]

  dead_low : (j : ℕ) → alive j ≡ false → lows j ≡ 0
  dead_low j a = elim (cases_eq (lows j) 0) [ inl z ↦ z | inr z ↦ absurd (both_ways _ a (not_from_false _ (ne_eqb (lows j) 0 z))) ]

  low_alive : (j : ℕ) → 1 ≤ lows j → alive j ≡ true
  low_alive j l = not_from_false _ (ne_eqb (lows j) 0 (omega arith))

  pub reduced_entry : (j r : ℕ) → 1 ≤ r → r ≤ E → (reduced_column j r).0 ≡ N r (suc j)
  reduced_entry j r l m = ap (λ z. z.0) (cut_in F f S (N r (suc j), inv.codes r (suc j)) r l m)

  above_zero : (j r : ℕ) → lows j < r → reduced_column j r ≡ K.zero
  above_zero j r l = elim (cases_Bool (in_rows S r)) [
    | inl i ↦ let p = row_bounds S r i in by_code (reduced_entry j r p.0 p.1 ∙ low_above N E (suc j) r l p.1)
    | inr o ↦ cut_out F f S (N r (suc j), inv.codes r (suc j)) r o
  ]

  -- where none is due, no two lows are equal, that of the last column included
  last_apart : (i : ℕ) → i < T → 1 ≤ lows i → ¬ (lows i ≡ lows T)
  last_apart i l a e =
      let one : T + 1 ≡ suc T = omega arith in
      low_nonzero N E (suc T) (omega arith)
      (ap (N (lows T)) (sym one) ∙ none_quiet E T N ended (lows T) (omega arith) (low_most N E (suc T)) (suc i) (omega arith) (omega arith) e)

  lows_apart : (i j : ℕ) → i < j → j < suc T → 1 ≤ lows i → 1 ≤ lows j → ¬ (lows i ≡ lows j)
  lows_apart i j u m a b e = elim (cases_eq j T) [
    | inl q ↦ last_apart i (omega arith) a (e ∙ ap lows q)
    | inr q ↦ none_apart E T N ended (suc i) (suc j) (omega arith) (omega arith) (omega arith) b e
  ]

  pub echelon : Echelon K (suc E) (suc T) alive lows reduced_column
  echelon = record {
    dead = λ j l a r. elim (cases_eq r 0) [
      | inl z ↦ ap (reduced_column j) z
      | inr z ↦ above_zero j r (omega (arith, dead_low j a))
    ];
    pivot = λ j l a z. low_nonzero N E (suc j) (alive_low j a) (sym (reduced_entry j (lows j) (alive_low j a) (low_most N E (suc j))) ∙ ap (λ z. z.0) z);
    above = λ j r l a b. above_zero j r b;
    inside = λ j l a. omega (arith, low_most N E (suc j));
    apart = λ i j l m a b e. elim (cases_eq i j) [
      | inl o ↦ o
      | inr o ↦ absurd (elim (cases_lt i j) [
        | inl u ↦ lows_apart i j u m (alive_low i a) (alive_low j b) e
        | inr u ↦ lows_apart j i (omega arith) l (alive_low j b) (alive_low i a) (sym e)
      ])
    ];
  }

  -- The rows below E say which earlier columns were added up: column j of N is that of the system with this combination.
  abbrev pub recorded_weights : ℕ → ℕ → Element F
  recorded_weights j t = at F N inv.codes (E + suc t) (suc j)

  -- the recorded combination of the starting columns, in the rows of the system
  recorded_inside : (j : ℕ) → j < suc T → (r : ℕ) → 1 ≤ r → r ≤ E
      → combine K (starts F f S coded) j (recorded_weights j) r ≡ K.add (at F N inv.codes r (suc j)) (K.neg (at F (starting S) coded r (suc j)))
  recorded_inside j l r p q =
      let s = starts F f S coded in
      let n = at F N inv.codes r (suc j) in
      let b = base F f S coded r (suc j) in
      let c = recorded_weights j in
      let rec : n ≡ K.add b (combine K s T c r) = inv.recorded r (suc j) p q (omega arith) (omega arith) in
      elim (cases_eq j T) [
        | inl e ↦
            let here : b ≡ s j r = cond-true _ _ _ (eq-eqb (suc j) (suc T) (ap suc e)) in
            minus_left K laws n (s j r) (combine K s j c r) (rec ∙ ap₂ K.add here (ap (λ n. combine K s n c r) (sym e)))
        | inr e ↦
            let here : b ≡ K.zero = cond-false _ _ _ (ne_eqb (suc j) (suc T) (omega arith)) in
            let none : (t : ℕ) → suc j ≤ t → t < T → c t ≡ K.zero = λ t u v. elim (cases_eq (N (E + suc t) (suc j)) 0) [
              | inl z ↦ by_code z
              | inr z ↦ absurd (omega (arith, (inv.support (suc j) (suc t) (omega arith) (omega arith) (omega arith) (omega arith) (omega arith) z).0))
            ] in
            let own : c j ≡ K.one = by_code (inv.own (suc j) (omega arith) (omega arith)) in
            minus_left K laws n (s j r) (combine K s j c r)
            (rec ∙ zero_plus K laws b (combine K s T c r) here ∙ combine_front K laws s (suc j) T c r (omega arith) none ∙ combine_last K laws s j c r
            ∙ ap (K.add (combine K s j c r)) (one_times K laws (c j) (s j r) own) ∙ laws.add_comm (combine K s j c r) (s j r))
      ]

  pub recorded : (j : ℕ) → j < suc T → (r : ℕ) → combine K D j (recorded_weights j) r ≡ K.add (reduced_column j r) (K.neg (D j r))
  recorded j l r = elim (cases_Bool (in_rows S r)) [
    | inr o ↦
        combine_out F f S coded j (recorded_weights j) r o
        ∙ sym (minus_same K laws (reduced_column j r) (D j r) (cut_out F f S (N r (suc j), inv.codes r (suc j)) r o ∙ sym (column_out F f S coded j r o)))
    | inl i ↦
        let p = row_bounds S r i in
        sum_below K laws j _ _ (λ t _. ap (K.mul (recorded_weights j t)) (cut_in F f S (at F (starting S) coded r (suc t)) r p.0 p.1))
        ∙ recorded_inside j l r p.0 p.1
        ∙ ap₂ (λ u v. K.add u (K.neg v)) (sym (cut_in F f S (N r (suc j), inv.codes r (suc j)) r p.0 p.1)) (sym (cut_in F f S (at F (starting S) coded r (suc j)) r p.0 p.1))
  ]

  pub unitriangular : Unitriangular K (suc T) D reduced_column
  unitriangular j l = (recorded_weights j, recorded j l)

  -- a column with a low is independent of those before it
  pub alive_independent : (t : ℕ) → t < T → 1 ≤ lows t → Independent F S (suc t)
  alive_independent t l a dep =
      both_ways _ (dependent_dead K laws (suc E) (suc T) alive lows reduced_column echelon D unitriangular t (omega arith) (dependent_up F f S coded t l dep)) (low_alive t a)

  -- without the last column
  echelon_columns : Echelon K (suc E) T alive lows reduced_column
  echelon_columns = echelon_fewer K (suc E) (suc T) T alive lows reduced_column (omega arith) echelon

  pub capped_low : (e : ℕ) → Capped F S e → (j : ℕ) × (j < T) × (lows j ≡ e)
  capped_low e h =
      let g = last_row_low K laws (suc E) T alive lows reduced_column echelon_columns D (λ j l. unitriangular j (omega arith)) e (capped_up F f S coded e h) in
      (g.0, g.1, g.3)

  pub low_capped : (j : ℕ) → j < T → 1 ≤ lows j → Capped F S (lows j)
  low_capped j l a =
      capped_down F f S coded (lows j) a (low_most N E (suc j)) (low_last_row K laws (suc E) T alive lows reduced_column echelon_columns D (λ j l. unitriangular j (omega arith)) j l (low_alive j a))
