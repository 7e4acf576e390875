-- One addition, and what every addition of a reduction keeps.
use Rattle.std.proofs.Common.{◌≡◌, ℕ, suc, pred, ◌+◌, ◌<◌, ◌≤◌, cond, eqb, Some, None, Option, sym, refl, ap, ◌∙◌, subst, inl, inr, arith}
use native.Mathlib.Fin.{val_path as by_code}
use Rattle.std.specs.List.{range_with_len}
use Rattle.std.proofs.lemmas.Bool.{cases_eq, ne_eqb, eq-eqb, cond-true, cond-false, cond_both, and_left, and_right, and_from, not_from_true, not_from_false}
use Rattle.field.specs.Algebra.{Operations, Laws}
use Rattle.field.specs.Arithmetic.{Arithmetic, FieldLaws, Code}
use Rattle.field.proofs.Rings.{cleared}
use Rattle.field.proofs.Elements.{Element, elements, element_laws}
use Rattle.matrix.specs.Matrix.{Entries}
use Rattle.complex.specs.Systems.{System, starting}
use Rattle.homology.specs.Reduction.{low, factor, added, addition_puts, Addition, Course, before, still, course}
use Rattle.homology.proofs.Sums.{sum_same, sum_none, sum_only}
use Rattle.homology.proofs.Spans.{combine, combine_add, combine_scale}
use Rattle.homology.proofs.Equations.{zero_times, times_zero, one_times, plus_zero, zero_plus, plus_multiple}
use Rattle.homology.proofs.Columns.{Coded, at, starting_record}
use Rattle.homology.proofs.Lows.{low_same}

-- a course, by the addition that is due
abbrev pub turn : Arithmetic → ℕ → ℕ → ℕ → Entries → Option Addition → Course
turn F E T fuel M r = elim r [ None ↦ still M | Some a ↦ before 1 (addition_puts F (E + T) M a) (course F E T fuel (added F M a)) ]

-- what an addition leaves as it was
module _ (F : Arithmetic) (M : Entries) (a : Addition) where
  pub added_other : (r c : ℕ) → ¬ (c ≡ a.to) → added F M a r c ≡ M r c
  added_other r c n = cond-false _ _ _ (and_left _ _ (ne_eqb c a.to n))

  pub added_zero : (r c : ℕ) → M r a.from ≡ 0 → added F M a r c ≡ M r c
  added_zero r c z = cond-false _ _ _ (and_right _ _ (not_from_true _ (eq-eqb (M r a.from) 0 z)))

module _ (F : Arithmetic) (f : FieldLaws F) where
  abbrev K : Operations (Element F)
  K = elements F f

  abbrev laws : Laws K
  laws = element_laws F f

  -- what it changes
  module _ (M : Entries) (codes : Coded F M) (a : Addition) where
    pub added_codes : Coded F (added F M a)
    added_codes r c = cond_both _ _ _ (Code F) (λ _. f.sum_code _ _) (λ _. codes r c)

    abbrev multiplier : Element F
    multiplier = (factor F M a, f.product_code _ _)

    added_is : (r : ℕ) → at F (added F M a) added_codes r a.to ≡ K.add (at F M codes r a.to) (K.mul multiplier (at F M codes r a.from))
    added_is r = elim (cases_eq (M r a.from) 0) [
      | inl z ↦
          let none : at F M codes r a.from ≡ K.zero = by_code z in
          let same : at F (added F M a) added_codes r a.to ≡ at F M codes r a.to = by_code (added_zero F M a r a.to z) in
          same ∙ sym (plus_zero K laws (at F M codes r a.to) (K.mul multiplier (at F M codes r a.from)) (times_zero K laws multiplier (at F M codes r a.from) none))
      | inr n ↦ by_code (cond-true _ _ _ (and_from _ _ (eq-eqb a.to a.to refl) (not_from_false _ (ne_eqb (M r a.from) 0 n))))
    ]

    pub added_clear : ¬ (M a.row a.from ≡ 0) → added F M a a.row a.to ≡ 0
    added_clear n =
        let x = at F M codes a.row a.to in
        let y = at F M codes a.row a.from in
        ap (λ z. z.0) (added_is a.row ∙ cleared K laws x y (λ e. n (ap (λ z. z.0) e)))

  module _ (S : System) (coded : Coded F (starting S)) where
    abbrev E : ℕ
    E = S.rows

    abbrev T : ℕ
    T = S.columns

    abbrev start : ℕ → ℕ → Element F
    start = at F (starting S) coded

    -- the columns that the reduction starts from, counted from 0
    abbrev pub starts : ℕ → ℕ → Element F
    starts t r = start r (suc t)

    -- the target, in column T + 1 alone
    abbrev pub base : ℕ → ℕ → Element F
    base r c = cond (eqb c (suc T)) (start r c) K.zero

    -- The invariant while column j + 1 is worked at. Later columns are as they were. The rows below E record which columns were
    -- added up: each column is the combination of the first columns with these weights, column T + 1 is that and the target.
    -- A column counts itself once, and otherwise only earlier ones that have a low.
    pub record Invariant (j : ℕ) (M : Entries) : Type 0 where
      pub codes : Coded F M
      pub untouched : (r c : ℕ) → suc j < c → M r c ≡ starting S r c
      pub recorded : (r c : ℕ) → 1 ≤ r → r ≤ E → 1 ≤ c → c ≤ suc T
          → at F M codes r c ≡ K.add (base r c) (combine K starts T (λ t. at F M codes (E + suc t) c) r)
      pub own : (c : ℕ) → 1 ≤ c → c ≤ T → M (E + c) c ≡ 1
      pub support : (c t : ℕ) → 1 ≤ t → t ≤ T → 1 ≤ c → c ≤ suc T → ¬ (t ≡ c) → ¬ (M (E + t) c ≡ 0) → (t < c) × (t ≤ j) × (1 ≤ low E M t)

    pub invariant_start : Invariant 0 (starting S)
    invariant_start = record {
      codes = coded;
      untouched = λ r c l. refl;
      recorded = recorded_start;
      own = λ c l m. starting_record S c c l m ∙ cond-true _ _ _ (eq-eqb c c refl);
      support = λ c t l m o p n z. absurd (z (starting_record S t c l m ∙ cond-false _ _ _ (ne_eqb t c n)));
    }
      where
        entry : (c t : ℕ) → t < T → ¬ (suc t ≡ c) → start (E + suc t) c ≡ K.zero
        entry c t l n = by_code (starting_record S (suc t) c (omega arith) (omega arith) ∙ cond-false _ _ _ (ne_eqb (suc t) c n))

        recorded_start : (r c : ℕ) → 1 ≤ r → r ≤ E → 1 ≤ c → c ≤ suc T → start r c ≡ K.add (base r c) (combine K starts T (λ t. start (E + suc t) c) r)
        recorded_start r c l m o p =
            let x = combine K starts T (λ t. start (E + suc t) c) r in
            elim (cases_eq c (suc T)) [
              | inl q ↦
                  let none : x ≡ K.zero = sum_none K laws 0 T _ (λ t _ b. zero_times K laws (start (E + suc t) c) (starts t r) (entry c t (omega arith) (omega arith))) in
                  let here : base r c ≡ start r c = cond-true _ _ _ (eq-eqb c (suc T) q) in
                  sym (plus_zero K laws (base r c) x none ∙ here)
              | inr n ↦
                  let here : base r c ≡ K.zero = cond-false _ _ _ (ne_eqb c (suc T) n) in
                  let same : suc (pred c) ≡ c = omega arith in
                  let one : start (E + suc (pred c)) c ≡ K.one = by_code (starting_record S (suc (pred c)) c (omega arith) (omega arith) ∙ cond-true _ _ _ (eq-eqb (suc (pred c)) c same)) in
                  let only : x ≡ start r c =
                  sum_only K laws 0 T (pred c) _ (omega arith) (omega arith) (λ t _ b d. zero_times K laws (start (E + suc t) c) (starts t r) (entry c t (omega arith) (omega arith)))
                  ∙ one_times K laws (start (E + suc (pred c)) c) (starts (pred c) r) one ∙ ap (start r) same in
                  sym (zero_plus K laws (base r c) x here ∙ only)
            ]

    -- the next column may be begun at any time
    pub invariant_later : (j : ℕ) (M : Entries) → Invariant j M → Invariant (suc j) M
    invariant_later j M inv = record {
      codes = inv.codes;
      untouched = λ r c l. inv.untouched r c (omega arith);
      recorded = inv.recorded;
      own = inv.own;
      support = λ c t l m o p n z. let h = inv.support c t l m o p n z in (h.0, omega (arith, h.1), h.2);
    }

    -- an addition to column j + 1 of an earlier column that has a low
    module _ (j : ℕ) (M : Entries) (a : Addition) (within : j ≤ T) (inv : Invariant j M) (to : a.to ≡ suc j) (least : 1 ≤ a.from) (most : a.from ≤ j) (alive : 1 ≤ low E M a.from) where
      abbrev N : Entries
      N = added F M a

      pub lows_kept : (c : ℕ) → c ≤ j → low E N c ≡ low E M c
      lows_kept c l = low_same E N M E c (λ r. added_other F M a r c (omega arith))

      abbrev m : ℕ → ℕ → Element F
      m = at F M inv.codes

      abbrev n : ℕ → ℕ → Element F
      n = at F N (added_codes M inv.codes a)

      abbrev g : Element F
      g = multiplier M inv.codes a

      recorded_added : (r c : ℕ) → 1 ≤ r → r ≤ E → 1 ≤ c → c ≤ suc T → n r c ≡ K.add (base r c) (combine K starts T (λ t. n (E + suc t) c) r)
      recorded_added r c l o p q = elim (cases_eq c a.to) [
        | inr d ↦
            let same : (r : ℕ) → n r c ≡ m r c = λ r. by_code (added_other F M a r c d) in
            same r ∙ inv.recorded r c l o p q ∙ ap (K.add (base r c)) (sum_same K laws (range_with_len 0 T) _ _ (λ t. ap (λ z. K.mul z (starts t r)) (sym (same (E + suc t)))))
        | inl e ↦ subst (λ c. n r c ≡ K.add (base r c) (combine K starts T (λ t. n (E + suc t) c) r)) (sym e) (
            let x = combine K starts T (λ t. m (E + suc t) a.to) r in
            let y = combine K starts T (λ t. m (E + suc t) a.from) r in
            let mixed : combine K starts T (λ t. n (E + suc t) a.to) r ≡ K.add x (K.mul g y) =
            sum_same K laws (range_with_len 0 T) _ _ (λ t. ap (λ z. K.mul z (starts t r)) (added_is M inv.codes a (E + suc t)))
            ∙ combine_add K laws starts T (λ t. m (E + suc t) a.to) (λ t. K.mul g (m (E + suc t) a.from)) r
            ∙ ap (K.add x) (combine_scale K laws starts T g (λ t. m (E + suc t) a.from) r) in
            plus_multiple K laws (n r a.to) (m r a.to) (m r a.from) (base r a.to) (base r a.from) x y (combine K starts T (λ t. n (E + suc t) a.to) r) g
            (added_is M inv.codes a r) (inv.recorded r a.to l o (omega arith) (omega arith)) (inv.recorded r a.from l o (omega arith) (omega arith))
            (cond-false _ _ _ (ne_eqb a.from (suc T) (omega arith))) mixed)
      ]

      own_added : (c : ℕ) → 1 ≤ c → c ≤ T → N (E + c) c ≡ 1
      own_added c l o = elim (cases_eq c a.to) [
        | inr d ↦ added_other F M a (E + c) c d ∙ inv.own c l o
        | inl e ↦ elim (cases_eq (M (E + c) a.from) 0) [
          | inl z ↦ added_zero F M a (E + c) c z ∙ inv.own c l o
          | inr z ↦ absurd (omega (arith, (inv.support a.from c l o least (omega arith) (omega arith) z).0))
        ]
      ]

      support_kept : (t c : ℕ) → (t < c) × (t ≤ j) × (1 ≤ low E M t) → (t < c) × (t ≤ j) × (1 ≤ low E N t)
      support_kept t c h = (h.0, h.1, subst (λ n. 1 ≤ n) (sym (lows_kept t h.1)) h.2)

      support_added : (c t : ℕ) → 1 ≤ t → t ≤ T → 1 ≤ c → c ≤ suc T → ¬ (t ≡ c) → ¬ (N (E + t) c ≡ 0) → (t < c) × (t ≤ j) × (1 ≤ low E N t)
      support_added c t l o p q d z = elim (cases_eq (M (E + t) c) 0) [
        | inr s ↦ support_kept t c (inv.support c t l o p q d s)
        | inl s ↦ elim (cases_eq c a.to) [
          | inr u ↦ absurd (z (added_other F M a (E + t) c u ∙ s))
          | inl u ↦ elim (cases_eq (M (E + t) a.from) 0) [
            | inl v ↦ absurd (z (added_zero F M a (E + t) c v ∙ s))
            | inr v ↦ elim (cases_eq t a.from) [
              | inl w ↦ support_kept t c (omega arith, omega arith, subst (λ n. 1 ≤ low E M n) (sym w) alive)
              | inr w ↦ let h = inv.support a.from t l o least (omega arith) w v in support_kept t c (omega (arith, h.0), h.1, h.2)
            ]
          ]
        ]
      ]

      pub invariant_added : Invariant j N
      invariant_added = record {
        codes = added_codes M inv.codes a;
        untouched = λ r c l. added_other F M a r c (omega arith) ∙ inv.untouched r c l;
        recorded = recorded_added;
        own = own_added;
        support = support_added;
      }
