-- The lows of a matrix's columns: which column has a low, where two clash, and what is left over in the last column.
use Rattle.std.proofs.Common.{◌≡◌, ℕ, zero, suc, ◌+◌, ◌<◌, ◌≤◌, Bool, true, false, cond, eqb, ◌⊎◌, Some, None, Option, sym, refl, ap, ◌∙◌, subst, inl, inr, arith}
use Rattle.std.proofs.lemmas.Bool.{cases_eq, cases_lt, ne_eqb, eq-eqb, cond-true, cond-false}
use Rattle.matrix.specs.Matrix.{Entries}
use Rattle.homology.specs.Reduction.{low, owner, clash, leftover, due, first, addition_at, Addition}
use Rattle.homology.specs.Theorems.{Apart, Quiet}

-- an addition is not none, and is the one that it is
pub some_not_none : {A : Type 0} (a : A) → ◌≡◌ {A = Option A} (Some a) None → ⊥
some_not_none a e = let z : ◌≡◌ {A = ℕ} 0 1 = cc in omega arith

pub some_same : {A : Type 0} (a b : A) → ◌≡◌ {A = Option A} (Some a) (Some b) → a ≡ b
some_same a b e = cc

-- what is due, where a column clashes and where none does
module _ (E T : ℕ) (M : Entries) where
  pub due_clash : (a : Addition) → clash E M T ≡ Some a → due E T M ≡ Some a
  due_clash a e = ap (λ r. first r (leftover E T M E)) e

  pub due_leftover : clash E M T ≡ None → due E T M ≡ leftover E T M E
  due_leftover e = ap (λ r. first r (leftover E T M E)) e

  pub none_clashes : due E T M ≡ None → clash E M T ≡ None
  none_clashes e = go (clash E M T) refl
    where
      go : (r : Option Addition) → clash E M T ≡ r → r ≡ None
      go None q = refl
      go (Some a) q = sym (due_clash a q) ∙ e

-- the low is the greatest row that is not 0
module _ (M : Entries) where
  low_zero : (e j : ℕ) → M (suc e) j ≡ 0 → low (suc e) M j ≡ low e M j
  low_zero e j z = cond-true _ _ _ (eq-eqb (M (suc e) j) 0 z)

  low_here : (e j : ℕ) → ¬ (M (suc e) j ≡ 0) → low (suc e) M j ≡ suc e
  low_here e j n = cond-false _ _ _ (ne_eqb (M (suc e) j) 0 n)

  pub low_most : (e j : ℕ) → low e M j ≤ e
  low_most zero j = omega arith
  low_most (suc e) j = elim (cases_eq (M (suc e) j) 0) [
    | inl z ↦ omega (arith, low_zero e j z, low_most e j)
    | inr n ↦ omega (arith, low_here e j n)
  ]

  pub low_nonzero : (e j : ℕ) → 1 ≤ low e M j → ¬ (M (low e M j) j ≡ 0)
  low_nonzero zero j l = absurd (omega arith)
  low_nonzero (suc e) j l = elim (cases_eq (M (suc e) j) 0) [
    | inl z ↦ subst (λ r. ¬ (M r j ≡ 0)) (sym (low_zero e j z)) (low_nonzero e j (omega (arith, low_zero e j z)))
    | inr n ↦ subst (λ r. ¬ (M r j ≡ 0)) (sym (low_here e j n)) n
  ]

  pub low_above : (e j r : ℕ) → low e M j < r → r ≤ e → M r j ≡ 0
  low_above zero j r l m = absurd (omega arith)
  low_above (suc e) j r l m = elim (cases_eq (M (suc e) j) 0) [
    | inl z ↦ elim (cases_eq r (suc e)) [ inl o ↦ ap (λ r. M r j) o ∙ z | inr o ↦ low_above e j r (omega (arith, low_zero e j z)) (omega arith) ]
    | inr n ↦ absurd (omega (arith, low_here e j n))
  ]

  -- 0 in the rows above e, so not above e
  pub low_upper : (n e j : ℕ) → ((r : ℕ) → e < r → r ≤ n → M r j ≡ 0) → low n M j ≤ e
  low_upper n e j h = elim (cases_lt e (low n M j)) [
    | inr o ↦ o
    | inl o ↦ absurd (low_nonzero n j (omega arith) (h (low n M j) o (low_most n j)))
  ]

module _ (E : ℕ) (M : Entries) where
  abbrev Low : ℕ → ℕ
  Low = low E M

  -- The owner of a row is a column with that low, and 0 where there is none.
  abbrev Owns : ℕ → ℕ → ℕ → Type 0
  Owns j e i = (1 ≤ i) × (i ≤ j) × (Low i ≡ e)

  pub owner_cases : (j e : ℕ) → Owns j e (owner E M j e) ⊎ ((owner E M j e ≡ 0) × ((i : ℕ) → 1 ≤ i → i ≤ j → ¬ (Low i ≡ e)))
  owner_cases zero e = inr (refl, λ i l m. absurd (omega arith))
  owner_cases (suc j) e = elim (owner_cases j e) [
    | inl g ↦
        let same : owner E M (suc j) e ≡ owner E M j e = cond-false _ _ _ (ne_eqb (owner E M j e) 0 (omega (arith, g.0))) in
        inl (subst (Owns (suc j) e) (sym same) (g.0, omega (arith, g.1), g.2))
    | inr g ↦
        let new : owner E M (suc j) e ≡ cond (eqb (Low (suc j)) e) (suc j) 0 = cond-true _ _ _ (eq-eqb (owner E M j e) 0 g.0) in
        elim (cases_eq (Low (suc j)) e) [
          | inl q ↦ inl (subst (Owns (suc j) e) (sym (new ∙ cond-true _ _ _ (eq-eqb (Low (suc j)) e q))) (omega arith, omega arith, q))
          | inr n ↦
              let same : owner E M (suc j) e ≡ 0 = new ∙ cond-false _ _ _ (ne_eqb (Low (suc j)) e n) in
              inr (same, λ i l m. elim (cases_eq i (suc j)) [ inl o ↦ λ h. n (sym (ap Low o) ∙ h) | inr o ↦ g.1 i l (omega arith) ])
        ]
  ]

  -- where lows differ, one column has a low
  pub one_owner : (j i k : ℕ) → Apart E M j → 1 ≤ i → i ≤ j → 1 ≤ k → k ≤ j → 1 ≤ Low i → Low k ≡ Low i → k ≡ i
  one_owner j i k apart a b c d e q = elim (cases_eq k i) [
    | inl s ↦ s
    | inr s ↦ absurd (elim (cases_lt k i) [
      | inl l ↦ apart k i c l b e q
      | inr l ↦ apart i k a (omega arith) d (omega arith) (sym q)
    ])
  ]

  -- A clash: an addition to a column from an earlier one with the same low.
  pub record Clashing (a : Addition) : Type 0 where
    pub least : 1 ≤ a.from
    pub earlier : a.from < a.to
    pub row : 1 ≤ a.row
    pub low_from : Low a.from ≡ a.row
    pub low_to : Low a.to ≡ a.row

  -- what column j + 1 finds among those before it
  abbrev found : ℕ → Option Addition
  found j = addition_at (Low (suc j)) (owner E M j (Low (suc j))) (suc j)

  pub clash_next : (j : ℕ) → clash E M j ≡ None → clash E M (suc j) ≡ found j
  clash_next j e = ap (λ r. first r (found j)) e

  pub clash_first : (j k : ℕ) (a : Addition) → clash E M j ≡ Some a → clash E M (j + k) ≡ Some a
  clash_first j zero a e = let n : j + 0 ≡ j = omega arith in ap (clash E M) n ∙ e
  clash_first j (suc k) a e = let n : j + suc k ≡ suc (j + k) = omega arith in ap (clash E M) n ∙ ap (λ r. first r (found (j + k))) (clash_first j k a e)

  pub found_cases : (j : ℕ) → ((found j ≡ None) × ((i : ℕ) → 1 ≤ i → i ≤ j → 1 ≤ Low (suc j) → ¬ (Low i ≡ Low (suc j))))
      ⊎ ((a : Addition) × (found j ≡ Some a) × (a.to ≡ suc j) × Clashing a)
  found_cases j = elim (cases_eq (Low (suc j)) 0) [
    | inl z ↦ inl (cond-true _ _ _ (eq-eqb (Low (suc j)) 0 z), λ i l m o. absurd (omega arith))
    | inr z ↦
        let i = owner E M j (Low (suc j)) in
        let a : Addition = record { from = i; to = suc j; row = Low (suc j) } in
        let past : found j ≡ cond (eqb i 0) None (Some a) = cond-false _ _ _ (ne_eqb (Low (suc j)) 0 z) in
        elim (owner_cases j (Low (suc j))) [
          | inr g ↦ inl (past ∙ cond-true _ _ _ (eq-eqb i 0 g.0), λ i l m o. g.1 i l m)
          | inl g ↦ inr (
            a,
            past ∙ cond-false _ _ _ (ne_eqb i 0 (omega (arith, g.0))),
            refl,
            record { least = g.0; earlier = omega (arith, g.1); row = omega arith; low_from = g.2; low_to = refl },
          )
        ]
  ]

  -- no clash exactly if the lows differ
  pub clash_apart : (j : ℕ) → clash E M j ≡ None → Apart E M j
  clash_apart zero e i k l m n o = absurd (omega arith)
  clash_apart (suc j) e i k l m n o = go (clash E M j) refl (λ q. clash_apart j q)
    where
      go : (r : Option Addition) → clash E M j ≡ r → (clash E M j ≡ None → Apart E M j) → ¬ (Low i ≡ Low k)
      go (Some a) q before =
          let up : j + 1 ≡ suc j = omega arith in
          absurd (some_not_none a (sym (clash_first j 1 a q) ∙ ap (clash E M) up ∙ e))
      go None q before = elim (found_cases j) [
        | inl g ↦ elim (cases_eq k (suc j)) [
          | inl s ↦ λ h. g.1 i l (omega arith) (subst (λ n. 1 ≤ Low n) s o) (h ∙ ap Low s)
          | inr s ↦ before q i k l m (omega arith) o
        ]
        | inr g ↦ absurd (some_not_none g.0 (sym g.1 ∙ sym (clash_next j q) ∙ e))
      ]

  pub apart_clash : (j : ℕ) → Apart E M j → clash E M j ≡ None
  apart_clash zero h = refl
  apart_clash (suc j) h = clash_next j (apart_clash j (λ i k a b c. h i k a b (omega arith))) ∙ elim (found_cases j) [
    | inl g ↦ g.0
    | inr g ↦
        let c = g.3 in
        let to : Low g.0.to ≡ Low (suc j) = ap Low g.2 in
        absurd (h g.0.from (suc j) c.least (omega (arith, c.earlier, g.2)) (omega arith) (omega (arith, c.row, c.low_to)) (c.low_from ∙ sym c.low_to ∙ to))
  ]

-- A leftover: an addition to the last column, from one whose low is a row in which the last is not 0.
module _ (E T : ℕ) (M : Entries) where
  pub record Left (a : Addition) : Type 0 where
    pub to : a.to ≡ T + 1
    pub least : 1 ≤ a.from
    pub most : a.from ≤ T
    pub row : 1 ≤ a.row
    pub low_from : low E M a.from ≡ a.row
    pub nonzero : ¬ (M a.row (T + 1) ≡ 0)

  abbrev NoneLeft : ℕ → Type 0
  NoneLeft r = (leftover E T M r ≡ None) × ((q : ℕ) → 1 ≤ q → q ≤ r → Quiet E T M q)

  abbrev OneLeft : ℕ → Type 0
  OneLeft r = (a : Addition) × (leftover E T M r ≡ Some a) × (a.row ≤ r) × Left a × ((q : ℕ) → a.row < q → q ≤ r → Quiet E T M q)

  first_or : (b : Bool) (a : Addition) (o : Option Addition) → first (cond b None (Some a)) o ≡ cond b o (Some a)
  first_or true a o = refl
  first_or false a o = refl

  at_or : (r i j : ℕ) (o : Option Addition) → first (addition_at (suc r) i j) o ≡ cond (eqb i 0) o (Some (record { from = i; to = j; row = suc r }))
  at_or r i j o =
      ap (λ b. first (cond b None (cond (eqb i 0) None (Some (record { from = i; to = j; row = suc r })))) o) (ne_eqb (suc r) 0 (omega arith))
      ∙ first_or (eqb i 0) (record { from = i; to = j; row = suc r }) o

  quiet_more : (P : ℕ → Type 0) (r : ℕ) → ((q : ℕ) → P q → q ≤ r → Quiet E T M q) → Quiet E T M (suc r) → (q : ℕ) → P q → q ≤ suc r → Quiet E T M q
  quiet_more P r before here q l m = elim (cases_eq q (suc r)) [ inl o ↦ subst (Quiet E T M) (sym o) here | inr o ↦ before q l (omega arith) ]

  -- a row that is quiet is passed over
  passed : (r : ℕ) → NoneLeft r ⊎ OneLeft r → leftover E T M (suc r) ≡ leftover E T M r → Quiet E T M (suc r) → NoneLeft (suc r) ⊎ OneLeft (suc r)
  passed r before same here = elim before [
    | inl g ↦ inl (same ∙ g.0, quiet_more (λ q. 1 ≤ q) r g.1 here)
    | inr g ↦ inr (g.0, same ∙ g.1, omega (arith, g.2), g.3, quiet_more (λ q. g.0.row < q) r g.4 here)
  ]

  pub leftover_cases : (r : ℕ) → NoneLeft r ⊎ OneLeft r
  leftover_cases zero = inl (refl, λ q l m. absurd (omega arith))
  leftover_cases (suc r) = elim (cases_eq (M (suc r) (T + 1)) 0) [
    | inl z ↦ passed r (leftover_cases r) (cond-true _ _ _ (eq-eqb (M (suc r) (T + 1)) 0 z)) (λ i l m h. z)
    | inr z ↦
        let i = owner E M T (suc r) in
        let a : Addition = record { from = i; to = T + 1; row = suc r } in
        let past : leftover E T M (suc r) ≡ cond (eqb i 0) (leftover E T M r) (Some a) = cond-false _ _ _ (ne_eqb (M (suc r) (T + 1)) 0 z) ∙ at_or r i (T + 1) (leftover E T M r) in
        elim (owner_cases E M T (suc r)) [
          | inr g ↦ passed r (leftover_cases r) (past ∙ cond-true _ _ _ (eq-eqb i 0 g.0)) (λ i l m h. absurd (g.1 i l m h))
          | inl g ↦ inr (
            a,
            past ∙ cond-false _ _ _ (ne_eqb i 0 (omega (arith, g.0))),
            omega arith,
            record { to = refl; least = g.0; most = g.1; row = omega arith; low_from = g.2; nonzero = z },
            λ q l m. absurd (omega arith),
          )
        ]
  ]

  -- where none is due, lows differ and the last column is 0 in their rows
  pub none_quiet : due E T M ≡ None → (q : ℕ) → 1 ≤ q → q ≤ E → Quiet E T M q
  none_quiet e q l m = elim (leftover_cases E) [
    | inl g ↦ g.1 q l m
    | inr g ↦ absurd (some_not_none g.0 (sym g.1 ∙ sym (due_leftover E T M (none_clashes E T M e)) ∙ e))
  ]

  pub none_apart : due E T M ≡ None → Apart E M T
  none_apart e = clash_apart E M T (none_clashes E T M e)

-- what is due goes to one of the columns
module _ (E : ℕ) (M : Entries) where
  clash_to : (j : ℕ) (a : Addition) → clash E M j ≡ Some a → (1 ≤ a.to) × (a.to ≤ j)
  clash_to zero a e = absurd (some_not_none a (sym e))
  clash_to (suc j) a e = go (clash E M j) refl (λ b. clash_to j b)
    where
      go : (r : Option Addition) → clash E M j ≡ r → ((b : Addition) → clash E M j ≡ Some b → (1 ≤ b.to) × (b.to ≤ j)) → (1 ≤ a.to) × (a.to ≤ suc j)
      go (Some b) q more =
          let up : j + 1 ≡ suc j = omega arith in
          let h = more b q in
          subst (λ c. (1 ≤ c.to) × (c.to ≤ suc j)) (some_same b a (sym (clash_first E M j 1 b q) ∙ ap (clash E M) up ∙ e)) (h.0, omega (arith, h.1))
      go None q more = elim (found_cases E M j) [
        | inl g ↦ absurd (some_not_none a (sym e ∙ clash_next E M j q ∙ g.0))
        | inr g ↦ let to : a.to ≡ suc j = ap (λ c. c.to) (some_same a g.0 (sym e ∙ clash_next E M j q ∙ g.1)) ∙ g.2 in (omega arith, omega arith)
      ]

pub due_to : (E T : ℕ) (M : Entries) (a : Addition) → due E T M ≡ Some a → (1 ≤ a.to) × (a.to ≤ T + 1)
due_to E T M a e = go (clash E M T) refl
  where
    go : (r : Option Addition) → clash E M T ≡ r → (1 ≤ a.to) × (a.to ≤ T + 1)
    go (Some b) q =
        let h = clash_to E M T b q in
        subst (λ c. (1 ≤ c.to) × (c.to ≤ T + 1)) (some_same b a (sym (due_clash E T M b q) ∙ e)) (h.0, omega (arith, h.1))
    go None q = elim (leftover_cases E T M E) [
      | inl g ↦ absurd (some_not_none a (sym e ∙ due_leftover E T M q ∙ g.0))
      | inr g ↦ let to : a.to ≡ T + 1 = ap (λ c. c.to) (some_same a g.0 (sym e ∙ due_leftover E T M q ∙ g.1)) ∙ g.3.to in (omega arith, omega arith)
    ]

-- matrices that agree in columns have the same lows there, and the same clashes
module _ (E : ℕ) (M N : Entries) where
  pub low_same : (e j : ℕ) → ((r : ℕ) → M r j ≡ N r j) → low e M j ≡ low e N j
  low_same zero j h = refl
  low_same (suc e) j h = cc (h (suc e), low_same e j h)

  pub owner_same : (j e : ℕ) → ((c : ℕ) → 1 ≤ c → c ≤ j → low E M c ≡ low E N c) → owner E M j e ≡ owner E N j e
  owner_same zero e h = refl
  owner_same (suc j) e h = cc (owner_same j e (λ c l m. h c l (omega arith)), h (suc j) (omega arith) (omega arith))

  pub clash_same : (j : ℕ) → ((c : ℕ) → 1 ≤ c → c ≤ j → low E M c ≡ low E N c) → clash E M j ≡ clash E N j
  clash_same zero h = refl
  clash_same (suc j) h =
      let l : low E M (suc j) ≡ low E N (suc j) = h (suc j) (omega arith) (omega arith) in
      let o : owner E M j (low E M (suc j)) ≡ owner E N j (low E N (suc j)) = owner_same j (low E M (suc j)) (λ c l m. h c l (omega arith)) ∙ ap (owner E N j) l in
      ap (λ r. first r (found E M j)) (clash_same j (λ c l m. h c l (omega arith))) ∙ ap (first (clash E N j)) cc
