-- A matrix whose entries lie in a row of places, column by column.
use Rattle.std.proofs.Common.{ap}
use Rattle.std.specs.Prelude.{ℕ, ◌+◌, ◌-◌, ◌*◌, cond, Option, Some, None}
use Rattle.matrix.specs.Matrix.{Matrix, inside, Outside}

-- the place of an entry, where each column has so many rows
abbrev pub place : ℕ → ℕ → ℕ → ℕ
place rows r c = (c - 1) * rows + (r - 1)

-- where it has one: inside the shape
abbrev pub place_in : ℕ → ℕ → ℕ → ℕ → Option ℕ
place_in rows columns r c = cond (inside rows columns r c) (Some (place rows r c)) None

-- the matrix of that shape, with what f has at each place
abbrev pub laid : ℕ → ℕ → (ℕ → ℕ) → Matrix
laid rows columns f = record { rows = rows; columns = columns; at = λ r c. cond (inside rows columns r c) (f (place rows r c)) 0 }

pub laid_outside : (rows columns : ℕ) (f : ℕ → ℕ) → Outside (laid rows columns f)
laid_outside rows columns f r c e = ap (λ b. cond b (f (place rows r c)) 0) e
