-- The table of pivots, column by column: what is due to the next column, and how the table grows.
use Rattle.std.proofs.Common.{◌≡◌, ℕ, zero, suc, ◌-◌, ◌<◌, ◌≤◌, cond, eqb, ◌≢◌, List, length, get_or, set, replicate, Some, None, Option, sym, refl, ap, ◌∙◌, subst, inl, inr, arith, length-set, get_or-set_other, get_or-set_same}
use Rattle.std.proofs.lemmas.Bool.{cases_eq, cond-true, eq-eqb, ne_eqb}
use Rattle.std.proofs.lemmas.Bool.Decides.{nat_tests}
use Rattle.field.specs.Arithmetic.{Arithmetic, FieldLaws, Code}
use Rattle.matrix.specs.Matrix.{Entries}
use Rattle.homology.specs.Reduction.{Addition, low, owner, due, added}
use Rattle.homology.specs.Theorems.{Apart}
use Rattle.homology.proofs.Due.{what_is_due_lem}
use Rattle.homology.proofs.Lows.{low_same, low_most, low_above, low_nonzero, owner_cases, owner_same}
use Rattle.homology.proofs.Additions.{added_other, added_zero, added_clear}
use Rattle.reduction.specs.Pivots.{Table, unless_zero}

-- columns that stay keep their lows, and so the table
pub table_same : (E : ℕ) (M N : Entries) (j : ℕ) (table : List ℕ) → ((r c : ℕ) → c ≤ j → N r c ≡ M r c) → Table E M j table → Table E N j table
table_same E M N j table same h =
    let lows : (c : ℕ) → c ≤ j → low E N c ≡ low E M c = λ c l. low_same E N M E c (λ r. same r c l) in
    record {
      apart = λ i k a b c d e. h.apart i k a b c (subst (λ n. 1 ≤ n) (lows k c) d) (sym (lows i (omega arith)) ∙ e ∙ lows k c);
      long = h.long;
      none = h.none;
      owners = λ e a b. h.owners e a b ∙ sym (owner_same E N M j e (λ c l m. lows c m));
    }

pub zeros : (n i : ℕ) → ◌≡◌ {A = ℕ} (get_or (replicate n 0) i 0) 0
zeros zero i = refl
zeros (suc n) zero = refl
zeros (suc n) (suc i) = zeros n i

-- what is behind such a number
pub told_some : (x o : ℕ) → Some o ≡ unless_zero x → o ≡ x
told_some zero o e = absurd (cc e)
told_some (suc x) o e = cc e

pub told_not : (x o : ℕ) → Some o ≡ unless_zero x → o ≢ 0
told_not zero o e z = absurd (cc e)
told_not (suc x) o e z = let same : o ≡ suc x = cc e in omega arith

pub told_none : (x : ℕ) → ◌≡◌ {A = Option ℕ} None (unless_zero x) → x ≡ 0
told_none zero e = refl
told_none (suc x) e = absurd (cc e)

-- no column yet
pub table_none : (E : ℕ) (M : Entries) (table : List ℕ) → E < length table → ((i : ℕ) → get_or table i 0 ≡ 0) → Table E M 0 table
table_none E M table long zeros = record {
  apart = λ i k a b c. absurd (omega arith);
  long = long;
  none = zeros 0;
  owners = λ e a b. zeros e;
}

-- 0 in the rows behind e
pub low_front : (M : Entries) (n e j : ℕ) → e ≤ n → ((r : ℕ) → e < r → r ≤ n → M r j ≡ 0) → low n M j ≡ low e M j
low_front M zero e j l h = let z : e ≡ 0 = omega arith in ap (λ e. low e M j) (sym z)
low_front M (suc n) e j l h = elim (cases_eq e (suc n)) [
  | inl q ↦ ap (λ e. low e M j) (sym q)
  | inr d ↦ cc (h (suc n) (omega arith) (omega arith), low_front M n e j (omega arith) (λ r a b. h r a (omega arith)))
]

-- an owner that the table tells
pub record Owned (E : ℕ) (M : Entries) (j e i : ℕ) : Type 0 where
  pub least : 1 ≤ i
  pub most : i ≤ j
  pub low_is : low E M i ≡ e

pub table_owned : (E : ℕ) (M : Entries) (j : ℕ) (table : List ℕ) (e i : ℕ) → Table E M j table → 1 ≤ e → e ≤ E → i ≡ get_or table e 0 → i ≢ 0 → Owned E M j e i
table_owned E M j table e i h a b is d =
    let same : i ≡ owner E M j e = is ∙ h.owners e a b in
    elim (owner_cases E M j e) [
      | inl g ↦ record { least = omega (arith, g.0); most = omega (arith, g.1); low_is = ap (low E M) same ∙ g.2 }
      | inr g ↦ absurd (d (same ∙ g.0))
    ]

pub table_free : (E : ℕ) (M : Entries) (j : ℕ) (table : List ℕ) (e : ℕ) → Table E M j table → 1 ≤ e → e ≤ E → get_or table e 0 ≡ 0 → (i : ℕ) → 1 ≤ i → i ≤ j → low E M i ≢ e
table_free E M j table e h a b free =
    let none : owner E M j e ≡ 0 = sym (h.owners e a b) ∙ free in
    elim (owner_cases E M j e) [
      | inl g ↦ absurd (omega (arith, g.0))
      | inr g ↦ g.1
    ]

-- one column more: its low gets an owner if it had none, and no other row does
same_or : (x : ℕ) → cond (eqb x 0) 0 x ≡ x
same_or x = grind (arith, nat_tests)

owner_old : (E : ℕ) (M : Entries) (j x : ℕ) → low E M (suc j) ≢ x → owner E M (suc j) x ≡ owner E M j x
owner_old E M j x d = ap (λ b. cond (eqb (owner E M j x) 0) (cond b (suc j) 0) (owner E M j x)) (ne_eqb (low E M (suc j)) x d) ∙ same_or (owner E M j x)

owner_new : (E : ℕ) (M : Entries) (j x : ℕ) → owner E M j x ≡ 0 → low E M (suc j) ≡ x → owner E M (suc j) x ≡ suc j
owner_new E M j x none here = cond-true _ _ _ (eq-eqb (owner E M j x) 0 none) ∙ cond-true _ _ _ (eq-eqb (low E M (suc j)) x here)

module _ (E T : ℕ) (M : Entries) (j c : ℕ) (at : c ≡ suc j) (table : List ℕ) (pivots : Table E M j table) (e : ℕ) (is_low : e ≡ low E M c) where
  pub low_inside : e ≤ E
  low_inside = omega (arith, low_most M E c)

  -- a low that has an owner is no row 0
  pub low_row : (i : ℕ) → i ≡ get_or table e 0 → i ≢ 0 → 1 ≤ e
  low_row i is d = elim (cases_eq e 0) [ inl z ↦ absurd (d (is ∙ ap (λ e. get_or table e 0) z ∙ pivots.none)) | inr n ↦ omega arith ]

  -- the owner of its low is due to the next column
  pub column_due : (i : ℕ) → j < T → i ≡ get_or table e 0 → i ≢ 0 → due E T M ≡ Some (record { from = i; to = c; row = e })
  column_due i l is d =
      let o = table_owned E M j table e i pivots (low_row i is d) low_inside is d in
      let to : low E M i ≡ low E M (suc j) = o.low_is ∙ is_low ∙ ap (low E M) at in
      (what_is_due_lem E T M).in_column i j pivots.apart l o.least o.most (omega (arith, o.low_is, low_row i is d)) to
      ∙ (λ x. Some (record { from = i; to = sym at x; row = o.low_is x }))

  -- a low that nobody has leaves the lows apart, and is entered
  apart_more : get_or table e 0 ≡ 0 → Apart E M (suc j)
  apart_more free i k a b c d q = elim (cases_eq k (suc j)) [
    | inr n ↦ pivots.apart i k a b (omega arith) d q
    | inl s ↦
        let here : low E M k ≡ e = ap (low E M) (s ∙ sym at) ∙ sym is_low in
        table_free E M j table e pivots (omega arith) low_inside free i a (omega arith) (q ∙ here)
  ]

  pub table_dead : e ≡ 0 → Table E M c table
  table_dead z = subst (λ n. Table E M n table) (sym at) (record {
    apart = apart_more (ap (λ e. get_or table e 0) z ∙ pivots.none);
    long = pivots.long;
    none = pivots.none;
    owners = λ x a b. pivots.owners x a b ∙ sym (owner_old E M j x (λ h. omega (arith, ap (low E M) at)));
  })

  pub table_more : e ≢ 0 → get_or table e 0 ≡ 0 → Table E M c (set table e c)
  table_more d free = subst (λ n. Table E M n (set table e c)) (sym at) (record {
    apart = apart_more free;
    long = omega (arith, pivots.long, length-set table e c);
    none = (let ne : 0 ≢ e = λ h. d (sym h) in rw get_or-set_other pivots.none);
    owners = λ x a b. elim (cases_eq x e) [
      | inl q ↦ entered x q a b
      | inr ne ↦ rw get_or-set_other (pivots.owners x a b ∙ sym (owner_old E M j x (λ h. ne (sym h ∙ ap (low E M) (sym at) ∙ sym is_low))))
    ];
  })
    where
      entered : (x : ℕ) → x ≡ e → 1 ≤ x → x ≤ E → get_or (set table e c) x 0 ≡ owner E M (suc j) x
      entered x q a b =
          let inside : e < length table = omega (arith, pivots.long) in
          let none : owner E M j x ≡ 0 = sym (pivots.owners x a b) ∙ ap (λ y. get_or table y 0) q ∙ free in
          let here : low E M (suc j) ≡ x = ap (low E M) (sym at) ∙ sym is_low ∙ sym q in
          ap (λ y. get_or (set table e c) y 0) q ∙ rw get_or-set_same (at ∙ sym (owner_new E M j x none here))

-- an addition clears its row, and leaves those behind it 0
module _ (F : Arithmetic) (f : FieldLaws F) (E : ℕ) (M N : Entries) (i c e : ℕ) (codes : (r c : ℕ) → Code F (M r c)) (is : N ≡ added F M (record { from = i; to = c; row = e })) where
  abbrev a : Addition
  a = record { from = i; to = c; row = e }

  pub others_stay : (r d : ℕ) → d ≢ c → N r d ≡ M r d
  others_stay r d n = ap (λ M. M r d) is ∙ added_other F M a r d n

  module _ (row : 1 ≤ e) (inside : e ≤ E) (low_from : low E M i ≡ e) where
    pub behind_stay : (r : ℕ) → e < r → r ≤ E → N r c ≡ M r c
    behind_stay r l m = ap (λ M. M r c) is ∙ added_zero F M a r c (low_above M E i r (omega arith) m)

    pub row_cleared : N e c ≡ 0
    row_cleared =
        ap (λ M. M e c) is
        ∙ added_clear F f M codes a (λ z. low_nonzero M E i (omega arith) (ap (λ r. M r i) low_from ∙ z))

    -- so the low falls
    pub low_falls : ((r : ℕ) → e < r → r ≤ E → M r c ≡ 0) → low E N c ≡ low (e - 1) N c
    low_falls zeros = low_front N E (e - 1) c (omega arith) (λ r l m. elim (cases_eq r e) [
      | inl q ↦ ap (λ r. N r c) q ∙ row_cleared
      | inr n ↦ behind_stay r (omega arith) m ∙ zeros r (omega arith) m
    ])
