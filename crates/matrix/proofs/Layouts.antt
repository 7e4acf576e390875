-- Entries column by column: a place that changes is one entry of the matrix that changes.
use Rattle.std.proofs.Common.{◌≡◌, ℕ, ◌+◌, ◌-◌, ◌*◌, ◌/◌, ◌%◌, ◌^◌, ◌<◌, ◌≤◌, true, false, cond, ◌&&◌, eqb, leb, List, ◌++◌, length, get_or, Option, Some, None, sym, ap, ◌∙◌, ⊎_elim, mul_comm, arith}
use lib.Arith.{digits_lt, digits_div, digits_mod}
use Rattle.std.proofs.lemmas.Bool.{eq-eqb, ne_eqb, cases_Bool, cases_eq, cond-true, cond-false, and_parts, leb-true, eqb-true, and_from, le-leb}
use Rattle.std.proofs.lemmas.Nat.{mul-le}
use Rattle.std.proofs.lemmas.List.{get_or_append_left}
use Rattle.refusal.specs.Outcomes.{accepted}
use Rattle.matrix.specs.Matrix.{inside, blank, count, one_if_not_zero, put_at, put_into}
use Rattle.matrix.specs.Layout.{place, place_in, laid}
use Rattle.matrix.specs.Terms.{Terms, limit_of, put_outcome, put_after}
use Rattle.matrix.proofs.Counts.{count_put, count_le, one_if_not_zero_le}
use Rattle.matrix.proofs.Matrices.{same_entries}
use Rattle.matrix.proofs.Puts.{roomy_put, put_done}

-- what `inside` says
pub record In (n k i j : ℕ) : Type 0 where
  pub row_from : 1 ≤ i
  pub row_to : i ≤ n
  pub column_from : 1 ≤ j
  pub column_to : j ≤ k

-- as code tests it
pub in_from : (n k i j : ℕ) → (i ≡ 0 → ⊥) → i ≤ n → (j ≡ 0 → ⊥) → j ≤ k → In n k i j
in_from n k i j a b c d = record { row_from = omega (arith, a); row_to = b; column_from = omega (arith, c); column_to = d }

pub is_in : (n k i j : ℕ) → inside n k i j ≡ true → In n k i j
is_in n k i j e =
    let ps = and_parts (leb 1 i && leb i n) (leb 1 j && leb j k) e in
    let rs = and_parts (leb 1 i) (leb i n) ps.0 in
    let cs = and_parts (leb 1 j) (leb j k) ps.1 in
    record { row_from = leb-true 1 i rs.0; row_to = leb-true i n rs.1; column_from = leb-true 1 j cs.0; column_to = leb-true j k cs.1 }

pub in_is : (n k i j : ℕ) → In n k i j → inside n k i j ≡ true
in_is n k i j h = and_from _ _ (and_from _ _ (le-leb 1 i h.row_from) (le-leb i n h.row_to)) (and_from _ _ (le-leb 1 j h.column_from) (le-leb j k h.column_to))

-- the place that code finds
pub place_some : (n k i j p : ℕ) → Some p ≡ place_in n k i j → In n k i j × (p ≡ place n i j)
place_some n k i j p e = ⊎_elim
    (λ (y : inside n k i j ≡ true). let at : p ≡ place n i j = cc (cond-true (inside n k i j) (Some (place n i j)) None y) in (is_in n k i j y, at))
    (λ (z : inside n k i j ≡ false). let no' : ◌≡◌ {A = Option ℕ} (Some p) None = e ∙ cond-false (inside n k i j) _ _ z in absurd cc)
    (cases_Bool (inside n k i j))

pub place_none : (n k i j : ℕ) → None ≡ place_in n k i j → inside n k i j ≡ false
place_none n k i j e = ⊎_elim
    (λ (y : inside n k i j ≡ true). let no' : ◌≡◌ {A = Option ℕ} None (Some (place n i j)) = e ∙ cond-true (inside n k i j) _ _ y in absurd cc)
    (λ (z : inside n k i j ≡ false). z)
    (cases_Bool (inside n k i j))

pub place_lt : (n k i j : ℕ) → In n k i j → place n i j < n * k
place_lt n k i j h =
    let q : j - 1 < k = omega (arith, h) in
    let r : i - 1 < n = omega (arith, h) in
    omega (arith, digits_lt {q = j - 1} {m = k} {r = i - 1} {c = n} q r, mul_comm n k)

-- the place that code finds lies in memory that holds the shape
pub place_below : (n k i j : ℕ) {p s : ℕ} → Some p ≡ place_in n k i j → n * k ≤ s → p < s
place_below n k i j {p} e fits = let f = place_some n k i j p e in omega (arith, f.1, place_lt n k i j f.0, fits)

pub place_apart : (n k i j r c : ℕ) → In n k i j → In n k r c → place n r c ≡ place n i j → (r ≡ i) × (c ≡ j)
place_apart n k i j r c h g e =
    let a : i - 1 < n = omega (arith, h) in
    let b : r - 1 < n = omega (arith, g) in
    let mods : r - 1 ≡ i - 1 = sym (digits_mod (c - 1) b) ∙ ap (λ x. x % n) e ∙ digits_mod (j - 1) a in
    let divs : c - 1 ≡ j - 1 = sym (digits_div (c - 1) b) ∙ ap (λ x. x / n) e ∙ digits_div (j - 1) a in
    (omega (arith, mods, h, g), omega (arith, divs, h, g))

-- two places inside are the same exactly if row and column are
same_place : (n k i j r c : ℕ) → In n k i j → In n k r c → eqb (place n r c) (place n i j) ≡ (eqb r i && eqb c j)
same_place n k i j r c h g = ⊎_elim
    (λ (e : place n r c ≡ place n i j).
    let p = place_apart n k i j r c h g e in
    eq-eqb _ _ e ∙ sym (and_from (eqb r i) (eqb c j) (eq-eqb r i p.0) (eq-eqb c j p.1)))
    (λ (d : place n r c ≡ place n i j → ⊥). ⊎_elim
    (λ (y : (eqb r i && eqb c j) ≡ true).
    let ps = and_parts (eqb r i) (eqb c j) y in
    absurd (d (ap (λ x. place n x c) (eqb-true r i ps.0) ∙ ap (place n i) (eqb-true c j ps.1))))
    (λ (z : (eqb r i && eqb c j) ≡ false). ne_eqb _ _ d ∙ sym z)
    (cases_Bool (eqb r i && eqb c j)))
    (cases_eq (place n r c) (place n i j))

elsewhere : (n k i j r c : ℕ) → In n k i j → inside n k r c ≡ false → (eqb r i && eqb c j) ≡ false
elsewhere n k i j r c h no' = ⊎_elim
    (λ (y : (eqb r i && eqb c j) ≡ true).
    let ps = and_parts (eqb r i) (eqb c j) y in
    let hit : inside n k r c ≡ true = ap (λ x. inside n k x c) (eqb-true r i ps.0) ∙ ap (inside n k i) (eqb-true c j ps.1) ∙ in_is n k i j h in
    let z : ◌≡◌ {A = ℕ} 0 1 = cc in absurd (omega arith))
    (λ (z : (eqb r i && eqb c j) ≡ false). z)
    (cases_Bool (eqb r i && eqb c j))

-- one place changed
pub laid_put : (n k : ℕ) (f g : ℕ → ℕ) (i j v : ℕ) → In n k i j → ((q : ℕ) → q < n * k → g q ≡ cond (eqb q (place n i j)) v (f q))
    → laid n k g ≡ put_into (laid n k f) (put_at i j v)
laid_put n k f g i j v h e = same_entries (laid n k f) _ _ (λ r c. ⊎_elim
    (λ (yes' : inside n k r c ≡ true).
    let there = is_in n k r c yes' in
    cond-true (inside n k r c) _ _ yes' ∙ e (place n r c) (place_lt n k r c there) ∙ ap (λ b. cond b v (f (place n r c))) (same_place n k i j r c h there)
    ∙ ap (λ x. cond (eqb r i && eqb c j) v x) (sym (cond-true (inside n k r c) _ _ yes')))
    (λ (no' : inside n k r c ≡ false).
    cond-false (inside n k r c) _ _ no' ∙ sym (cond-false (eqb r i && eqb c j) _ _ (elsewhere n k i j r c h no') ∙ cond-false (inside n k r c) _ _ no'))
    (cases_Bool (inside n k r c)))

-- every place zero
pub laid_blank : (n k : ℕ) (f : ℕ → ℕ) → ((q : ℕ) → q < n * k → f q ≡ 0) → laid n k f ≡ blank n k
laid_blank n k f z = same_entries (blank n k) _ _ (λ r c. ⊎_elim
    (λ (yes' : inside n k r c ≡ true). cond-true (inside n k r c) _ _ yes' ∙ z (place n r c) (place_lt n k r c (is_in n k r c yes')))
    (λ (no' : inside n k r c ≡ false). cond-false (inside n k r c) _ _ no')
    (cases_Bool (inside n k r c)))

-- what a fill of the first places leaves
pub cleared : (zs rest : List ℕ) (n k : ℕ) → length zs ≡ n → n ≡ k → ((i : ℕ) (d : ℕ) → i < n → get_or zs i d ≡ 0) → (i : ℕ) → i < k → get_or (zs ++ rest) i 0 ≡ 0
cleared zs rest n k long e z i l = get_or_append_left zs rest 0 i (omega arith) ∙ z i 0 (omega arith)

-- what stands at an entry
pub laid_at : (n k : ℕ) (f : ℕ → ℕ) (i j : ℕ) → In n k i j → (laid n k f).at i j ≡ f (place n i j)
laid_at n k f i j h = cond-true (inside n k i j) _ _ (in_is n k i j h)

-- A put as code makes it: g is f, but for v at the place p of row i and column j.
pub record Changed (n k : ℕ) (f g : ℕ → ℕ) (i j v p : ℕ) : Type 0 where
  pub inside : In n k i j
  pub at : p ≡ place n i j
  pub places : (q : ℕ) → q < n * k → g q ≡ cond (eqb q p) v (f q)

-- where code found the place
pub changed_from : {n k : ℕ} {f g : ℕ → ℕ} {i j v p : ℕ} → Some p ≡ place_in n k i j → ((q : ℕ) → q < n * k → g q ≡ cond (eqb q p) v (f q)) → Changed n k f g i j v p
changed_from {n} {k} {i = i} {j = j} {p = p} e h = let s = place_some n k i j p e in record { inside = s.0; at = s.1; places = h }

changed_put : (n k : ℕ) (f g : ℕ → ℕ) (i j v p : ℕ) → Changed n k f g i j v p → laid n k g ≡ put_into (laid n k f) (put_at i j v)
changed_put n k f g i j v p h = laid_put n k f g i j v h.inside (λ q l. h.places q l ∙ ap (λ x. cond (eqb q x) v (f q)) h.at)

-- in a store with room for every entry of its shape
pub laid_accepts : (t : Terms) (n k : ℕ) (f : ℕ → ℕ) (i j v : ℕ) → limit_of t (laid n k f) ≡ n * k → In n k i j → v < t.bound → put_outcome t (laid n k f) (put_at i j v) ≡ accepted tt
laid_accepts t n k f i j v limit h code = roomy_put t (laid n k f) (put_at i j v) limit (record { place = in_is n k i j h; code = code })

pub changed_leaves : (t : Terms) {n k : ℕ} {f g : ℕ → ℕ} {i j v p : ℕ} → limit_of t (laid n k f) ≡ n * k → v < t.bound → Changed n k f g i j v p → laid n k g ≡ put_after t (laid n k f) (put_at i j v)
changed_leaves t {n} {k} {f} {g} {i} {j} {v} {p} limit code h =
    put_done t (laid n k f) (laid n k g) (put_at i j v) (laid_accepts t n k f i j v limit h.inside code) (changed_put n k f g i j v p h)

-- the same, with every argument named
pub changed_leaves_at : (t : Terms) (n k : ℕ) (f g : ℕ → ℕ) (i j v p : ℕ) → limit_of t (laid n k f) ≡ n * k → v < t.bound → Changed n k f g i j v p → laid n k g ≡ put_after t (laid n k f) (put_at i j v)
changed_leaves_at t n k f g i j v p limit code h = changed_leaves t limit code h

-- the count that code keeps: the new code counted, and no more the old
pub changed_counts : {n k : ℕ} {f g : ℕ → ℕ} {i j v p used new old : ℕ} → Changed n k f g i j v p → used ≡ count (laid n k f) → new ≡ one_if_not_zero v → old ≡ one_if_not_zero (f p)
    → (old ≤ used + new) × (used + new - old ≡ count (laid n k g))
changed_counts {n} {k} {f} {g} {i} {j} {v} {p} {used} h e is was =
    let there : (laid n k f).at i j ≡ f p = laid_at n k f i j h.inside ∙ ap f (sym h.at) in
    let both : count (laid n k g) + one_if_not_zero (f p) ≡ used + one_if_not_zero v =
    ap (λ m. count m + one_if_not_zero (f p)) (changed_put n k f g i j v p h)
    ∙ ap (λ x. count (put_into (laid n k f) (put_at i j v)) + one_if_not_zero x) (sym there)
    ∙ count_put (laid n k f) (put_at i j v) (in_is n k i j h.inside)
    ∙ ap (λ u. u + one_if_not_zero v) (sym e) in
    (omega (arith, both), omega (arith, both))

-- the same, with every argument named
pub changed_counts_at : (n k : ℕ) (f g : ℕ → ℕ) (i j v p used new old : ℕ) → Changed n k f g i j v p → used ≡ count (laid n k f) → new ≡ one_if_not_zero v → old ≡ one_if_not_zero (f p)
    → (old ≤ used + new) × (used + new - old ≡ count (laid n k g))
changed_counts_at n k f g i j v p used new old h e is was = changed_counts h e is was

-- and the sum on the way fits
pub counts_fit : (n k : ℕ) (f : ℕ → ℕ) (v used new : ℕ) → n < 2 ^ 32 → k < 2 ^ 32 → used ≡ count (laid n k f) → new ≡ one_if_not_zero v → used + new < 2 ^ 64
counts_fit n k f v used new p q e is =
    omega (arith, e, is, one_if_not_zero_le v, count_le (laid n k f), mul-le n k 4294967295 4294967295 (omega arith) (omega arith))
