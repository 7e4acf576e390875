-- Any grid read as a linear system: its shape tells rows and columns, and what is no code of the field counts as 0.
use Rattle.std.specs.Prelude.{ℕ, ◌+◌, ◌-◌, cond, nat_lt, List}
use Rattle.field.specs.Arithmetic.{Arithmetic}
use Rattle.matrix.specs.Matrix.{Matrix, Entries}
use Rattle.matrix.specs.declared.put.Put.{Put}
use Rattle.complex.specs.Systems.{System, starting}
use Rattle.homology.specs.Reduction.{column_puts, loading}
use Rattle.reduction.specs.declared.shape.Shape.{Shape}

-- the code itself, and 0 for what is none
abbrev pub code_of : Arithmetic → ℕ → ℕ
code_of F x = cond (nat_lt x F.order) x 0

-- the last column is the target, and the others are those of the system
abbrev pub width_of : Matrix → ℕ
width_of m = m.columns - 1

-- the rows below these record which columns were added up
abbrev pub height_of : Matrix → ℕ
height_of m = m.rows - width_of m

-- the codes of a grid
abbrev pub codes_of : Arithmetic → Matrix → Entries
codes_of F m r c = code_of F (m.at r c)

-- the system of E rows and T columns that a grid holds
abbrev pub shaped : Arithmetic → Matrix → ℕ → ℕ → System
shaped F m E T = record { rows = E; columns = T; matrix = codes_of F m; target = λ r. codes_of F m r (T + 1) }

-- the same, of a shape that is known
abbrev pub system_in : Arithmetic → Shape → Matrix → System
system_in F s m = shaped F m s.edges s.triangles

abbrev pub system_of : Arithmetic → Matrix → System
system_of F m = shaped F m (height_of m) (width_of m)

-- the puts that load a column of a system, and those that load the whole
abbrev pub column_loads : System → ℕ → List Put
column_loads S c = column_puts (S.rows + S.columns) (starting S) c

abbrev pub loads : System → List Put
loads S = loading (S.rows + S.columns) (starting S) (S.columns + 1)
