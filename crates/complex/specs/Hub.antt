-- The hub: four sensors round a hall, and a fifth that is linked to each of them.
use Rattle.std.specs.Prelude.{◌≡◌, ℕ, zero, suc, ◌+◌, ◌*◌, Bool, ◌||◌, List, [], ◌∷◌}
use Rattle.field.specs.Arithmetic.{Arithmetic}
use Rattle.matrix.specs.declared.put.Put.{Put}
use Rattle.matrix.specs.Matrix.{Matrix, put_at}
use Rattle.survey.specs.Lists.{numbers, gather, member}
use Rattle.survey.specs.Surveys.{Survey, edge, triangle, edges, triangles, everyone}
use Rattle.complex.specs.Systems.{starting_matrix}
use Rattle.complex.specs.Boundaries.{system}

-- each link from its lower sensor, two digits for two sensors
abbrev pub hub_link : ℕ → ℕ → Bool
hub_link a b = member (10 * a + b) (12 ∷ 14 ∷ 23 ∷ 34 ∷ 15 ∷ 25 ∷ 35 ∷ 45 ∷ [])

abbrev pub hub : Survey
hub = record { count = 5; linked = λ x y. hub_link x y || hub_link y x; fence = 1 ∷ 2 ∷ 3 ∷ 4 ∷ [] }

abbrev pub HubEdges : Type 0
HubEdges = edges hub everyone ≡ edge 1 2 ∷ edge 1 4 ∷ edge 1 5 ∷ edge 2 3 ∷ edge 2 5 ∷ edge 3 4 ∷ edge 3 5 ∷ edge 4 5 ∷ []

abbrev pub HubTriangles : Type 0
HubTriangles = triangles hub everyone ≡ triangle 1 2 5 ∷ triangle 1 4 5 ∷ triangle 2 3 5 ∷ triangle 3 4 5 ∷ []

-- an entry, if it is not zero
abbrev pub entry_at : ℕ → ℕ → ℕ → List Put
entry_at r c zero = []
entry_at r c (suc code) = put_at r c (suc code) ∷ []

-- the entries of a matrix that are not zero, column by column
abbrev pub nonzeros : Matrix → List Put
nonzeros m = gather (λ c. gather (λ r. entry_at r c (m.at r c)) (numbers 1 m.rows)) (numbers 1 m.columns)

-- the twenty of the starting matrix, where the code for -1 is not 0: four of each triangle, and the fence's
abbrev pub HubEntries : Type 0
HubEntries = (F : Arithmetic) (m : ℕ) → F.negative 1 ≡ suc m → nonzeros (starting_matrix (system hub everyone F)) ≡
    put_at 1 1 1 ∷ put_at 3 1 (suc m) ∷ put_at 5 1 1 ∷ put_at 9 1 1
    ∷ put_at 2 2 1 ∷ put_at 3 2 (suc m) ∷ put_at 8 2 1 ∷ put_at 10 2 1
    ∷ put_at 4 3 1 ∷ put_at 5 3 (suc m) ∷ put_at 7 3 1 ∷ put_at 11 3 1
    ∷ put_at 6 4 1 ∷ put_at 7 4 (suc m) ∷ put_at 8 4 1 ∷ put_at 12 4 1
    ∷ put_at 1 5 1 ∷ put_at 2 5 (suc m) ∷ put_at 4 5 1 ∷ put_at 6 5 1 ∷ []
