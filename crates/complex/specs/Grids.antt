-- The boundary grid in memory as the starting matrix, and a search in one of its columns.
use Rattle.std.specs.Prelude.{◌≡◌, ℕ, ◌+◌, ◌-◌, ◌<◌, ◌≤◌, Bool, true, false, cond, ◌&&◌, ◌⊎◌, List, [], length, Some, None, Option, IfSome, ◌≢◌, nat_le, refl}
use Rattle.std.proofs.Common.{◌∙◌, arith}
use Rattle.std.proofs.lemmas.Bool.{and_parts, and_from, le-leb, leb-true, ltb-true, eqb-true, both_ways}
use Rattle.field.specs.Arithmetic.{Arithmetic}
use Rattle.matrix.specs.Matrix.{Matrix, Outside}
use Rattle.survey.specs.declared.edge.Edge.{Edge}
use Rattle.survey.specs.declared.edge.Triangle.{Triangle}
use Rattle.survey.specs.Surveys.{Survey, Sensors, Valid, edges, triangles}
use Rattle.complex.specs.declared.boundary_grid.BoundaryGrid.{BoundaryGrid}
use Rattle.complex.specs.Boundaries.{listed_system, system}
use Rattle.complex.specs.Orders.{ascends, edge_less, Stands}
use Rattle.complex.specs.Systems.{System, starting_matrix}

abbrev pub matrix_of : BoundaryGrid → Matrix
matrix_of g = starting_matrix (listed_system g.minus g.edges.now g.triangles.now g.fence.now)

-- the list, if it ascends and is no longer than a survey's can be; else none
abbrev pub usable_edges_of : List Edge → List Edge
usable_edges_of es = cond (nat_le (length es) 512 && ascends edge_less es) es []

abbrev pub usable_triangles_of : List Triangle → List Triangle
usable_triangles_of ts = cond (nat_le (length ts) 1024) ts []

-- the starting matrix of every survey and set of sensors on whose lists, fence and code for -1 these are
abbrev pub OfSurveys : List Edge → List Triangle → List ℕ → ℕ → Matrix → Type 0
OfSurveys es ts fence minus m = (s : Survey) (on : Sensors) (F : Arithmetic) → Valid s
    → es ≡ edges s on → ts ≡ triangles s on → fence ≡ s.fence → minus ≡ F.negative 1 → m ≡ starting_matrix (system s on F)

-- the row from `first` on that holds the edge e, if one does
abbrev pub HasRow : List Edge → ℕ → Edge → Option ℕ → Type 0
HasRow es first e None = (i : ℕ) → first ≤ i → 1 ≤ i → Stands es (i - 1) e → ⊥
HasRow es first e (Some row) = (first ≤ row) × (1 ≤ row) × Stands es (row - 1) e

-- the row i is before the one that was found, if one was
abbrev pub Before : ℕ → Option ℕ → Type 0
Before i found = IfSome found (λ r. i < r)

-- the column f is not 0 at a row that holds the edge e, unless the code for -1 is 0
abbrev pub Meets : (ℕ → ℕ) → ℕ → List Edge → Edge → Type 0
Meets f minus es e = minus ≢ 0 → (i : ℕ) → 1 ≤ i → Stands es (i - 1) e → f i ≢ 0

-- a search for the first nonzero row of a column f from `first` on has come from one row, or none, to the nearest so far: a
-- nonzero one, if it is another, and the rows from `first` to before it that hold the edge e are zero
pub record Nearer (f : ℕ → ℕ) (es : List Edge) (first : ℕ) (e : Edge) (so_far nearest : Option ℕ) : Type 0 where
  pub sooner : (i : ℕ) → Before i nearest → Before i so_far
  pub chosen : (r : ℕ) → nearest ≡ Some r → (so_far ≡ Some r) ⊎ ((first ≤ r) × (f r ≢ 0))
  pub passed : (i : ℕ) → first ≤ i → Before i nearest → 1 ≤ i → Stands es (i - 1) e → f i ≡ 0

-- outside its shape the starting matrix is 0
pub starting_outside : (S : System) → Outside (starting_matrix S)
starting_outside S r c out =
    off _ _ _ (λ h.
    let p = and_parts _ _ h in
    let q = and_parts _ _ p.0 in
    let u = and_parts _ _ q.0 in
    let c2 = leb-true c S.columns p.1 in
    let r2 = leb-true r S.rows u.1 in
    hit (leb-true 1 r u.0) (omega arith) (leb-true 1 c q.1) (omega arith))
    ∙ off _ _ _ (λ h.
    let p = and_parts _ _ h in
    let q = and_parts _ _ p.0 in
    let c2 = eqb-true c (S.columns + 1) p.1 in
    let r2 = leb-true r S.rows q.1 in
    hit (leb-true 1 r q.0) (omega arith) (omega arith) (omega arith))
    ∙ off _ _ _ (λ h.
    let p = and_parts _ _ h in
    let q = and_parts _ _ p.0 in
    let c2 = eqb-true (r - S.rows) c p.1 in
    let r2 = leb-true r (S.rows + S.columns) q.1 in
    let r1 = ltb-true S.rows r q.0 in
    hit (omega arith) r2 (omega arith) (omega arith))
  where
    off : (b : Bool) (x y : ℕ) → (b ≢ true) → cond b x y ≡ y
    off true x y n = absurd (n refl)
    off false x y n = refl

    hit : 1 ≤ r → r ≤ S.rows + S.columns → 1 ≤ c → c ≤ S.columns + 1 → ⊥
    hit r1 r2 c1 c2 = both_ways _ out (and_from _ _ (and_from _ _ (le-leb 1 r r1) (le-leb r _ r2)) (and_from _ _ (le-leb 1 c c1) (le-leb c _ c2)))
