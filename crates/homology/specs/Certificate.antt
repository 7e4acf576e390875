-- What certify answers: a filling or a block, worked out by the reduction, and what makes it the published one.
use Rattle.std.specs.Prelude.{ℕ, zero, suc, ◌+◌, Bool, cond, List, [], ◌∷◌, ◌++◌, ◌==◌, nat_eq, slice_index}
use Rattle.field.specs.Arithmetic.{Arithmetic}
use Rattle.matrix.specs.Matrix.{Entries}
use Rattle.survey.specs.declared.edge.Edge.{Edge}
use Rattle.survey.specs.declared.edge.Triangle.{Triangle}
use Rattle.survey.specs.Surveys.{Survey, Sensors, edges, triangles}
use Rattle.complex.specs.Systems.{Vector}
use Rattle.complex.specs.Boundaries.{system}
use Rattle.homology.specs.Linear.{total, Solution, Separator, GivenSolution, GivenSeparator}
use Rattle.homology.specs.Reduction.{low, owner, reduction}

-- A filling is a solution of the system of a survey: boundaries that add up to the fence.
abbrev pub HasFilling : Survey → Sensors → Arithmetic → Type 0
HasFilling s on F = (x : Vector) × Solution F (system s on F) x

-- A block is a separator: values of the edges that are 0 round every triangle and 1 round the fence.
abbrev pub HasBlock : Survey → Sensors → Arithmetic → Type 0
HasBlock s on F = (y : Vector) × Separator F (system s on F) y

pub record Certificate : Type 0 where
  pub filled : Bool
  pub edges : List Edge
  pub triangles : List Triangle
  pub codes : List ℕ
  pub additions : ℕ

-- the entries 1 to n of v
abbrev pub listed : ℕ → Vector → List ℕ
listed zero v = []
listed (suc n) v = listed n v ++ (v (suc n) ∷ [])

-- the list as a vector, its first code at 1
abbrev pub vector : List ℕ → Vector
vector codes zero = 0
vector codes (suc i) = slice_index codes i

-- The block's values in the rows 1 to e, off the reduced matrix N: the greatest row of the remainder has the inverse of
-- its entry, a low has what makes the sum of its column 0, and every other row has 0.
abbrev pub values : Arithmetic → ℕ → ℕ → Entries → ℕ → Vector
values F E T N zero = λ r. 0
values F E T N (suc e) =
    let before = values F E T N e in
    let i = owner E N T (suc e) in
    let at = cond (i == 0)
    (cond (low E N (T + 1) == suc e) (F.inverse (N (suc e) (T + 1))) 0)
    (F.product (F.negative (total F e (λ r. F.product (before r) (N r i)))) (F.inverse (N (suc e) i))) in
    λ r. cond (r == suc e) at (before r)

-- What is read off a reduced matrix N of E rows and T columns: the coefficients of a filling, the values of a block.
module _ (F : Arithmetic) (E T : ℕ) (N : Entries) where
  abbrev pub filling_codes : List ℕ
  filling_codes = listed T (λ t. F.negative (N (E + t) (T + 1)))

  abbrev pub block_codes : List ℕ
  block_codes = listed E (values F E T N E)

abbrev pub certificate : Survey → Sensors → Arithmetic → Certificate
certificate s on F =
    let S = system s on F in
    let E = S.rows in let T = S.columns in
    let done = reduction F S in
    let N = done.matrix in
    let full = nat_eq (low E N (T + 1)) 0 in
    record {
      filled = full;
      edges = edges s on;
      triangles = triangles s on;
      codes = cond full (filling_codes F E T N) (block_codes F E T N);
      additions = done.additions;
    }

-- The published certificate: the one filling that is 0 on every triangle that is not independent, or the one block
-- that is 0 on every uncapped edge but the greatest of the remainder.
abbrev pub Published : Survey → Sensors → Arithmetic → Certificate → Type 0
Published s on F c =
    cond c.filled
    (GivenSolution F (system s on F) (vector c.codes))
    (GivenSeparator F (system s on F) (vector c.codes))
