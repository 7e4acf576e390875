-- The columns of the starting matrix: where they can be nonzero, and searches that look only there.
use Rattle.std.proofs.Common.{◌≡◌, ℕ, ◌+◌, ◌-◌, ◌<◌, ◌≤◌, Bool, true, false, cond, not, ◌&&◌, ◌||◌, eqb, ltb, leb, List, [], ◌∷◌, length, get_or, take, drop, suc, length-drop, Some, None, Option, inl, inr, sym, refl, ap, ◌∙◌, subst, ap₂, ⊎_elim, true≢false, arith}
use Rattle.std.proofs.lemmas.List.{get_or_default, get_or-drop, take_all}
use Rattle.std.proofs.lemmas.Bool.{cases_lt, cases_eq, cases_order, cases_Bool, and_parts, and_from, or_parts, or_from, or_left, or_right, eqb-true, eq-eqb, not-false, cond-false}
use Rattle.std.proofs.lemmas.Bool.Decides.{nat_tests}
use Rattle.matrix.specs.Matrix.{inside}
use Rattle.matrix.specs.Nonzero.{First, next_in}
use Rattle.matrix.proofs.Nonzeros.{next_by}
use Rattle.survey.specs.declared.edge.Edge.{Edge}
use Rattle.survey.specs.declared.edge.Triangle.{Triangle}
use Rattle.survey.specs.Surveys.{edge, steps}
use Rattle.complex.specs.declared.boundary_grid.BoundaryGrid.{BoundaryGrid}
use Rattle.complex.specs.Boundaries.{boundary_code_of, fence_code_of, has_step_of, listed_system, no_edge, no_triangle}
use Rattle.complex.specs.Grids.{matrix_of, Before, HasRow, Meets, Nearer, starting_outside}
use Rattle.complex.specs.OrderLaws.{edge_apart, edge_chained}
use Rattle.complex.specs.Orders.{ascends, edge_less, Stands}
use Rattle.complex.specs.Systems.{System, starting}
use Rattle.complex.proofs.Orders.{ascends_far, steps_ascend}

-- an edge below that of a place stands at none from there on
pub past_none : (es : List Edge) → ascends edge_less es ≡ true → (e : Edge) (p : ℕ) (d : Edge) → edge_less e (get_or es p d) ≡ true → (i : ℕ) → p ≤ i → Stands es i e → ⊥
past_none es up e p d h i l s = ⊎_elim
    (λ (lt : p < i).
    true≢false (sym (edge_chained e (get_or es p d) e h (subst (λ y. edge_less (get_or es p d) y ≡ true) (s.1 d) (ascends_far edge_less edge_chained es up p i d lt s.0))) ∙ edge_apart e))
    (λ (ge : i ≤ p).
    let at : p ≡ i = omega arith in
    true≢false (sym (subst (λ y. edge_less e y ≡ true) (ap (λ k. get_or es k d) at ∙ s.1 d) h) ∙ edge_apart e))
    (cases_lt p i)

-- an edge that is not below that of a place stands at none before it
pub behind_none : (es : List Edge) → ascends edge_less es ≡ true → (e : Edge) (p : ℕ) (d : Edge) → p < length es → edge_less e (get_or es p d) ≡ false → (i : ℕ) → i < p → Stands es i e → ⊥
behind_none es up e p d l h i k s = true≢false (sym (subst (λ y. edge_less y (get_or es p d) ≡ true) (s.1 d) (ascends_far edge_less edge_chained es up i p d k l)) ∙ h)

-- from a place on a list that ascends does so too, and holds what stands there
ascends_drop : (es : List Edge) → ascends edge_less es ≡ true → (p : ℕ) → ascends edge_less (drop p es) ≡ true
ascends_drop es up p = steps_ascend edge_less (drop p es) (λ k d l.
    let n : suc (p + k) ≡ p + suc k = omega arith in
    rw (get_or-drop p es k d, get_or-drop p es (suc k) d) (ascends_far edge_less edge_chained es up (p + k) (p + suc k) d (omega arith) (omega (arith, length-drop p es))))

-- the list from a place on, as it is lent
abbrev pub rest : List Edge → ℕ → List Edge
rest es p = take (length es - p) (drop p es)

rest_is : (es : List Edge) (p : ℕ) → rest es p ≡ drop p es
rest_is es p = take_all (length es - p) (drop p es) (omega (arith, length-drop p es))

pub row_found : (es : List Edge) (first p k : ℕ) (e : Edge) → p ≡ first - 1 → Stands (rest es p) k e → HasRow es first e (Some (p + k + 1))
row_found es first p k e is h =
    let s = subst (λ xs. Stands xs k e) (rest_is es p) h in
    let low = s.0 in
    let at : p + k ≡ p + k + 1 - 1 = omega arith in
    (omega arith, omega arith, subst (λ i. Stands es i e) at (omega (arith, length-drop p es), λ d. sym (get_or-drop p es k d) ∙ s.1 d))

pub row_none : (es : List Edge) → ascends edge_less es ≡ true → (first p : ℕ) (e : Edge) → p ≡ first - 1
    → (ascends edge_less (rest es p) ≡ true → (k : ℕ) → Stands (rest es p) k e → ⊥) → HasRow es first e None
row_none es up first p e is h i l k s =
    let n = subst (λ xs. ascends edge_less xs ≡ true → (k : ℕ) → Stands xs k e → ⊥) (rest_is es p) h in
    let lt = s.0 in
    let at : p + (i - 1 - p) ≡ i - 1 = omega arith in
    n (ascends_drop es up p) (i - 1 - p) (omega (arith, length-drop p es), λ d. get_or-drop p es (i - 1 - p) d ∙ ap (λ j. get_or es j d) at ∙ s.1 d)

-- what the answer to a test for 0 says
pub not_zero : (b : Bool) (x : ℕ) → b ≡ not (eqb x 0) → b ≡ true → x ≡ 0 → ⊥
not_zero b x e t z = true≢false (sym t ∙ e ∙ ap (λ y. not (eqb y 0)) z)

pub is_zero : (b : Bool) (x : ℕ) → b ≡ not (eqb x 0) → b ≡ false → x ≡ 0
is_zero b x e f = eqb-true x 0 (not-false (eqb x 0) (sym e ∙ f))

-- where a search stands: at a nonzero row from `first` on
abbrev At : (ℕ → ℕ) → ℕ → ℕ → Type 0
At f first r = (first ≤ r) × (f r ≡ 0 → ⊥)

before_less : (i j : ℕ) (o : Option ℕ) → i < j → Before j o → Before i o
before_less i j None l b = tt
before_less i j (Some r) l b = omega arith

-- a search comes to the row of an edge that was looked up

module _ (f : ℕ → ℕ) (es : List Edge) (up : ascends edge_less es ≡ true) (first : ℕ) (e : Edge) (so_far : Option ℕ) where
  apart_places : (i j : ℕ) → i < j → Stands es i e → Stands es j e → ⊥
  apart_places i j l s t =
      true≢false (sym (ascends_far edge_less edge_chained es up i j e l t.0) ∙ ap₂ edge_less (s.1 e) (t.1 e) ∙ edge_apart e)

  -- an edge stands at one place at most
  one_place : (i j : ℕ) → Stands es i e → Stands es j e → i ≡ j
  one_place i j s t = ⊎_elim (λ q. q) (⊎_elim (λ l. absurd (apart_places i j l s t)) (λ l. absurd (apart_places j i l t s))) (cases_order i j)

  pub nearer_none : HasRow es first e None → Nearer f es first e so_far so_far
  nearer_none n = record { sooner = λ i b. b; chosen = λ r h. inl h; passed = λ i l m k s. absurd (n i l k s) }

  pub nearer_behind : ((i : ℕ) → 1 ≤ i → Before i so_far → Stands es (i - 1) e → ⊥) → Nearer f es first e so_far so_far
  nearer_behind n = record { sooner = λ i b. b; chosen = λ r h. inl h; passed = λ i l b m s. absurd (n i m b s) }

  pub nearer_come : (row : ℕ) → HasRow es first e (Some row) → Before row so_far → (f row ≡ 0 → ⊥) → Nearer f es first e so_far (Some row)
  nearer_come row h m d = record {
    sooner = λ i b. before_less i row so_far b m;
    chosen = λ r is. let at : row ≡ r = cc in inr (subst (At f first) at (h.0, d));
    passed = λ i l b k s. let same = one_place (i - 1) (row - 1) s h.2 in let pos = h.1 in absurd (omega arith);
  }

  pub row_meets : (minus row : ℕ) → HasRow es first e (Some row) → Meets f minus es e → (minus ≡ 0 → ⊥) → f row ≡ 0 → ⊥
  row_meets minus row h m n z = m n row h.1 h.2 z

  pub nearer_stay : (row : ℕ) → HasRow es first e (Some row) → (Before row so_far → f row ≡ 0) → Nearer f es first e so_far so_far
  nearer_stay row h z = record {
    sooner = λ i b. b;
    chosen = λ r is. inl is;
    passed = λ i l b k s.
        let same = one_place (i - 1) (row - 1) s h.2 in
        let pos = h.1 in
        let at : row ≡ i = omega arith in
        ap f (sym at) ∙ z (subst (λ j. Before j so_far) (sym at) b);
  }

-- the entries, said with plain values

abbrev entry : ℕ → ℕ → ℕ → ℕ → ℕ → ℕ → ℕ
entry E T r c m t =
    cond (leb 1 r && leb r E && leb 1 c && leb c T) m
    (cond (leb 1 r && leb r E && eqb c (T + 1)) t
    (cond (ltb E r && leb r (E + T) && eqb (r - E) c) 1 0))

entry_top : (E T r c m t : ℕ) → r ≡ 0 → entry E T r c m t ≡ 0
entry_top E T r c m t h = grind (arith, nat_tests)

entry_other : (E T r c m t : ℕ) → E < r → (r ≡ E + c → ⊥) → entry E T r c m t ≡ 0
entry_other E T r c m t l d = grind (arith, nat_tests)

entry_own : (E T c m t : ℕ) → 1 ≤ c → c ≤ T → entry E T (E + c) c m t ≡ 1
entry_own E T c m t l h = grind (arith, nat_tests)

entry_edge : (E T r c m t : ℕ) → 1 ≤ r → r ≤ E → 1 ≤ c → c ≤ T → entry E T r c m t ≡ m
entry_edge E T r c m t a b l h = grind (arith, nat_tests)

entry_fence : (E T r m t : ℕ) → 1 ≤ r → r ≤ E → entry E T r (T + 1) m t ≡ t
entry_fence E T r m t a b = grind (arith, nat_tests)

entry_past : (E T r m t : ℕ) → E < r → entry E T r (T + 1) m t ≡ 0
entry_past E T r m t l = grind (arith, nat_tests)

edge_is : (e : Edge) (u v : ℕ) → (eqb e.a u && eqb e.b v) ≡ true → e ≡ edge u v
edge_is e u v h = let p = and_parts _ _ h in ap₂ edge (eqb-true e.a u p.0) (eqb-true e.b v p.1)

-- a boundary is 0 off the three edges
code_zero : (minus : ℕ) (t : Triangle) (e : Edge) (x : ℕ) → x ≡ boundary_code_of minus t e
    → (e ≡ edge t.b t.c → x ≡ 0) → (e ≡ edge t.a t.c → x ≡ 0) → (e ≡ edge t.a t.b → x ≡ 0) → x ≡ 0
code_zero minus t e x is p q r =
    ⊎_elim (λ y. p (edge_is e t.b t.c y)) (λ n₁.
    ⊎_elim (λ y. q (edge_is e t.a t.c y)) (λ n₂.
    ⊎_elim (λ y. r (edge_is e t.a t.b y)) (λ n₃.
    is ∙ cond-false _ _ _ n₁ ∙ cond-false _ _ _ n₂ ∙ cond-false _ _ _ n₃)
    (cases_Bool (eqb e.a t.a && eqb e.b t.b)))
    (cases_Bool (eqb e.a t.a && eqb e.b t.c)))
    (cases_Bool (eqb e.a t.b && eqb e.b t.c))

-- where a step goes along an edge, either way, so is the fence
along_some : (minus : ℕ) (p q : Bool) → (p || q) ≡ true → (minus ≡ 0 → ⊥) → cond p 1 (cond q minus 0) ≡ 0 → ⊥
along_some minus true q h n z = let w : ◌≡◌ {A = ℕ} 1 0 = z in absurd (omega arith)
along_some minus false true h n z = n z
along_some minus false false h n z = true≢false (sym h)

at_nearer : (f : ℕ → ℕ) (es : List Edge) (first : ℕ) (e : Edge) (so_far nearest : Option ℕ) → Nearer f es first e so_far nearest
    → ((r : ℕ) → so_far ≡ Some r → At f first r) → (r : ℕ) → nearest ≡ Some r → At f first r
at_nearer f es first e so_far nearest n h r is = ⊎_elim (h r) (λ a. a) (n.chosen r is)

module _ (minus : ℕ) (es : List Edge) (ts : List Triangle) (fence : List ℕ) where
  abbrev S : System
  S = listed_system minus es ts fence

  -- the edge of a row
  abbrev edge_at : ℕ → Edge
  edge_at i = get_or es (i - 1) no_edge

  stands : (i : ℕ) (e : Edge) → 1 ≤ i → i ≤ length es → edge_at i ≡ e → Stands es (i - 1) e
  stands i e l m h = (omega arith, λ d. get_or_default es (i - 1) d no_edge (omega arith) ∙ h)

  -- a triangle's column
  module _ (c : ℕ) (low : 1 ≤ c) (high : c ≤ length ts) (first : ℕ) where
    abbrev f : ℕ → ℕ
    f i = starting S i c

    abbrev t : Triangle
    t = get_or ts (c - 1) no_triangle

    pub boundary_none : length es + c < first → First f first None
    boundary_none l i h = entry_other (length es) (length ts) i c (S.matrix i c) (S.target i) (omega arith) (λ e. absurd (omega arith))

    pub boundary_first : (o₁ o₂ o₃ : Option ℕ) → first ≤ length es + c → Nearer f es first (edge t.a t.b) (Some (length es + c)) o₁
        → Nearer f es first (edge t.a t.c) o₁ o₂ → Nearer f es first (edge t.b t.c) o₂ o₃ → First f first o₃
    boundary_first o₁ o₂ o₃ l n₁ n₂ n₃ = found o₃ refl
      where
        before₂ : (i : ℕ) → Before i o₃ → Before i o₂
        before₂ = n₃.sooner

        before₁ : (i : ℕ) → Before i o₃ → Before i o₁
        before₁ i b = n₂.sooner i (before₂ i b)

        before_own : (i : ℕ) → Before i o₃ → i < length es + c
        before_own i b = n₁.sooner i (before₁ i b)

        own : (r : ℕ) → Some (length es + c) ≡ Some r → At f first r
        own r e =
            let at : length es + c ≡ r = cc in
            let one : f (length es + c) ≡ 1 = entry_own (length es) (length ts) c (S.matrix (length es + c) c) (S.target (length es + c)) low high in
            subst (At f first) at (l, λ z. let w : ◌≡◌ {A = ℕ} 1 0 = sym one ∙ z in absurd (omega arith))

        end : (r : ℕ) → o₃ ≡ Some r → At f first r
        end = at_nearer f es first _ o₂ o₃ n₃ (at_nearer f es first _ o₁ o₂ n₂ (at_nearer f es first _ (Some (length es + c)) o₁ n₁ own))

        edge_row : (i : ℕ) → first ≤ i → Before i o₃ → 1 ≤ i → i ≤ length es → f i ≡ 0
        edge_row i h k a b =
            code_zero minus t (edge_at i) (f i) (entry_edge (length es) (length ts) i c (S.matrix i c) (S.target i) a b low high)
            (λ e. n₃.passed i h k a (stands i _ a b e))
            (λ e. n₂.passed i h (before₂ i k) a (stands i _ a b e))
            (λ e. n₁.passed i h (before₁ i k) a (stands i _ a b e))

        below : (i : ℕ) → first ≤ i → Before i o₃ → f i ≡ 0
        below i h k =
            let lower = before_own i k in
            ⊎_elim
            (λ (z : i ≡ 0). entry_top (length es) (length ts) i c (S.matrix i c) (S.target i) z)
            (λ (d : i ≡ 0 → ⊥). ⊎_elim
            (λ (g : length es < i). entry_other (length es) (length ts) i c (S.matrix i c) (S.target i) g (λ e. absurd (omega arith)))
            (λ (g : i ≤ length es). edge_row i h k (omega (arith, d)) g)
            (cases_lt (length es) i))
            (cases_eq i 0)

        found : (o : Option ℕ) → o₃ ≡ o → First f first o
        found None e = absurd (let k = before_own (length es + c) (subst (Before (length es + c)) (sym e) tt) in omega arith)
        found (Some r) e = ((end r e).0, (end r e).1, λ i h k. below i h (subst (Before i) (sym e) k))

  -- the fence's column
  module _ (first : ℕ) where
    abbrev g : ℕ → ℕ
    g i = starting S i (length ts + 1)

    -- does a step go along the edge, either way?
    abbrev along : Edge → List Edge → Bool
    along e rest = has_step_of e.a e.b rest || has_step_of e.b e.a rest

    -- a search has come to the nearest row so far, with these steps still to come
    pub record Passing (nearest : Option ℕ) (rest : List Edge) : Type 0 where
      pub chosen : (r : ℕ) → nearest ≡ Some r → At g first r
      pub passed : (i : ℕ) → first ≤ i → Before i nearest → 1 ≤ i → i ≤ length es → along (edge_at i) rest ≡ false → g i ≡ 0
      pub among : (u v : ℕ) → has_step_of u v rest ≡ true → has_step_of u v (steps fence) ≡ true

    -- the column meets the edges of the next step, both ways
    fence_meets : (e : Edge) → along e (steps fence) ≡ true → Meets g minus es e
    fence_meets e y n i l s z =
        let in' = s.0 in
        along_some minus (has_step_of e.a e.b (steps fence)) (has_step_of e.b e.a (steps fence)) y n
        (sym (entry_fence (length es) (length ts) i (S.matrix i (length ts + 1)) (S.target i) l (omega arith) ∙ ap (fence_code_of minus fence) (s.1 no_edge)) ∙ z)

    module _ (u v : ℕ) (o : Option ℕ) (rest : List Edge) (h : Passing o (edge u v ∷ rest)) where
      goes : has_step_of u v (steps fence) ≡ true
      goes = h.among u v (or_left _ _ (and_from _ _ (eq-eqb u u refl) (eq-eqb v v refl)))

      pub passing_back : Meets g minus es (edge v u)
      passing_back = fence_meets (edge v u) (or_right (has_step_of v u (steps fence)) _ goes)

    fence_zero : (i : ℕ) → 1 ≤ i → i ≤ length es → along (edge_at i) (steps fence) ≡ false → g i ≡ 0
    fence_zero i a b n =
        let e = edge_at i in
        let p = or_parts (has_step_of e.a e.b (steps fence)) (has_step_of e.b e.a (steps fence)) n in
        entry_fence (length es) (length ts) i (S.matrix i (length ts + 1)) (S.target i) a b ∙ cond-false _ 1 _ p.0 ∙ cond-false _ minus 0 p.1

    pub passing_none : Passing None (steps fence)
    passing_none = record { chosen = λ r e. cc; passed = λ i h k a b n. fence_zero i a b n; among = λ u v h. h }

    pub passing_more : (u v : ℕ) (o o₁ o₂ : Option ℕ) (rest : List Edge) → Passing o (edge u v ∷ rest)
        → Nearer g es first (edge u v) o o₁ → Nearer g es first (edge v u) o₁ o₂ → Passing o₂ rest
    passing_more u v o o₁ o₂ rest h n₁ n₂ = record { chosen = at_nearer g es first _ o₁ o₂ n₂ (at_nearer g es first _ o o₁ n₁ h.chosen); passed = passed; among = λ a b s. h.among a b (or_right _ _ s) }
      where
        edge_back : (e : Edge) (u v : ℕ) → (eqb e.b u && eqb e.a v) ≡ true → e ≡ edge v u
        edge_back e u v y = let p = and_parts _ _ y in ap₂ edge (eqb-true e.a v p.1) (eqb-true e.b u p.0)

        passed : (i : ℕ) → first ≤ i → Before i o₂ → 1 ≤ i → i ≤ length es → along (edge_at i) rest ≡ false → g i ≡ 0
        passed i l k a b n =
            let k₁ = n₂.sooner i k in
            let e = edge_at i in
            let p = or_parts _ _ n in
            ⊎_elim (λ y. n₁.passed i l k₁ a (stands i _ a b (edge_is e u v y))) (λ x.
            ⊎_elim (λ y. n₂.passed i l k a (stands i _ a b (edge_back e u v y))) (λ z.
            h.passed i l (n₁.sooner i k₁) a b (or_from _ _ (or_from _ _ x p.0) (or_from _ _ z p.1)))
            (cases_Bool (eqb e.b u && eqb e.a v)))
            (cases_Bool (eqb e.a u && eqb e.b v))

    -- all steps are passed
    quiet : (o : Option ℕ) → Passing o [] → (i : ℕ) → first ≤ i → Before i o → g i ≡ 0
    quiet o h i l k =
        ⊎_elim
        (λ (z : i ≡ 0). entry_top (length es) (length ts) i (length ts + 1) (S.matrix i (length ts + 1)) (S.target i) z)
        (λ (d : i ≡ 0 → ⊥). ⊎_elim
        (λ (m : length es < i). entry_past (length es) (length ts) i (S.matrix i (length ts + 1)) (S.target i) m)
        (λ (m : i ≤ length es). h.passed i l k (omega (arith, d)) m refl)
        (cases_lt (length es) i))
        (cases_eq i 0)

    pub passing_all : (o : Option ℕ) → Passing o [] → First g first o
    passing_all None h = λ i l. quiet None h i l tt
    passing_all (Some r) h = let at = h.chosen r refl in (at.0, at.1, quiet (Some r) h)

  -- outside the columns
  pub column_outside : (c first : ℕ) → (1 ≤ c → c ≤ length ts + 1 → ⊥) → First (λ i. starting S i c) first None
  column_outside c first d i h = starting_outside S i c (out (length es + length ts) (length ts + 1) i c d)
    where
      out : (n k r c : ℕ) → (1 ≤ c → c ≤ k → ⊥) → inside n k r c ≡ false
      out n k r c d = grind (arith, nat_tests)

-- what a search in the boundary grid found is what the definition says
pub next_found : (g : BoundaryGrid) (c first : ℕ) (o : Option ℕ) → First (λ i. (matrix_of g).at i c) first o → o ≡ next_in (matrix_of g) c first
next_found g c first o = next_by (matrix_of g) c first o (starting_outside (listed_system g.minus g.edges.now g.triangles.now g.fence.now))
