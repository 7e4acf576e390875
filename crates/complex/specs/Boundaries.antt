-- The boundaries of triangles and the fence vector, on the edges of a survey, as a system.
use Rattle.std.specs.Prelude.{ℕ, ◌-◌, Bool, false, cond, ◌&&◌, ◌||◌, List, [], ◌∷◌, length, ◌==◌, slice_index_or}
use Rattle.field.specs.Arithmetic.{Arithmetic}
use Rattle.survey.specs.declared.edge.Edge.{Edge}
use Rattle.survey.specs.declared.edge.Triangle.{Triangle}
use Rattle.survey.specs.Surveys.{Survey, Sensors, edge, triangle, edges, triangles, steps}
use Rattle.complex.specs.Systems.{System}

-- is there a step from u to v?
abbrev pub has_step_of : ℕ → ℕ → List Edge → Bool
has_step_of u v [] = false
has_step_of u v (e ∷ es) = (u == e.a && v == e.b) || has_step_of u v es

abbrev pub no_edge : Edge
no_edge = edge 0 0

abbrev pub no_triangle : Triangle
no_triangle = triangle 0 0 0

-- where `minus` is the field's code for -1
module _ (minus : ℕ) where
  -- what the fence vector has on an edge: 1 where a step goes from its lower to its higher sensor, -1 where one goes back
  abbrev pub fence_code_of : List ℕ → Edge → ℕ
  fence_code_of fence e = cond (has_step_of e.a e.b (steps fence)) 1 (cond (has_step_of e.b e.a (steps fence)) minus 0)

  -- what the boundary of a triangle has on an edge: 1 on (b, c), -1 on (a, c) and 1 on (a, b)
  abbrev pub boundary_code_of : Triangle → Edge → ℕ
  boundary_code_of t e =
      cond (e.a == t.b && e.b == t.c) 1
      (cond (e.a == t.a && e.b == t.c) minus
      (cond (e.a == t.a && e.b == t.b) 1 0))

  -- the boundaries of listed triangles as columns, with a row for each listed edge, and the fence vector as target
  abbrev pub listed_system : List Edge → List Triangle → List ℕ → System
  listed_system es ts fence = record {
    rows = length es;
    columns = length ts;
    matrix = λ r t. boundary_code_of (slice_index_or ts (t - 1) no_triangle) (slice_index_or es (r - 1) no_edge);
    target = λ r. fence_code_of fence (slice_index_or es (r - 1) no_edge);
  }

abbrev pub fence_entry : Arithmetic → List ℕ → Edge → ℕ
fence_entry F = fence_code_of (F.negative 1)

abbrev pub boundary_entry : Arithmetic → Triangle → Edge → ℕ
boundary_entry F = boundary_code_of (F.negative 1)

-- of a survey and the set of its sensors that are on
abbrev pub system : Survey → Sensors → Arithmetic → System
system s on F = listed_system (F.negative 1) (edges s on) (triangles s on) s.fence
