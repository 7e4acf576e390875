-- Whether a vector is a solution or a separator of a system, told by computing.
use Rattle.std.specs.Prelude.{ℕ, ◌+◌, Bool, ◌&&◌, ◌==◌}
use Rattle.std.specs.List.{list_all, range_with_len}
use Rattle.field.specs.Arithmetic.{Arithmetic}
use Rattle.matrix.specs.Matrix.{Matrix, Entries}
use Rattle.complex.specs.Systems.{Vector, System}
use Rattle.homology.specs.Linear.{total, combination}
use Rattle.checking.specs.declared.equations.Line.{Line}
use Rattle.checking.specs.declared.equations.Line.TheVariants.{Row, Column}

-- do v and w agree in the rows 1 to n?
abbrev pub agree : ℕ → Vector → Vector → Bool
agree n v w = list_all (λ r. v r == w r) (range_with_len 1 n)

-- the entries of a row or of a column
abbrev pub along : Entries → Line → Vector
along D (Row r) = D r
along D (Column t) = λ r. D r t

-- the entries 1 to n of d, weighted by x
abbrev pub weighted : Arithmetic → ℕ → Vector → Vector → ℕ
weighted F n x d = total F n (λ i. F.product (x i) (d i))

module _ (F : Arithmetic) (S : System) where
  -- do the columns, weighted by x, give the target?
  abbrev pub solves : Vector → Bool
  solves x = agree S.rows (combination F S.columns S.matrix x) S.target

  -- is y 0 on every column?
  abbrev pub closes : Vector → Bool
  closes y = agree S.columns (λ t. weighted F S.rows y (along S.matrix (Column t))) (λ t. 0)

  -- and 1 on the target?
  abbrev pub separates : Vector → Bool
  separates y = closes y && weighted F S.rows y S.target == 1

-- the first rows and columns of a matrix, and the column after them as the target
abbrev pub system_in : ℕ → ℕ → Matrix → System
system_in rows columns m = record { rows = rows; columns = columns; matrix = m.at; target = λ r. m.at r (columns + 1) }
