-- The matrix that cells hold, each the record of one entry. A cell with row 0 is not in use.
use Rattle.std.proofs.Common.{ap}
use Rattle.std.specs.Prelude.{ℕ, min, cond, ◌&&◌, List, [], ◌∷◌, ◌==◌, nat_le, slice_index_or}
use Rattle.matrix.specs.Matrix.{Matrix, inside, Outside}
use Rattle.matrix.specs.Terms.{Terms}
use Rattle.sparse.specs.declared.cell.Cell.{Cell}

-- the cell at a place; past the last, one that is not in use
abbrev pub cell : List Cell → ℕ → Cell
cell cells k = slice_index_or cells k (record { column = 0; row = 0; code = 0; next = 0 })

abbrev pub row_at : List Cell → ℕ → ℕ
row_at cells k = (cell cells k).row

abbrev pub column_at : List Cell → ℕ → ℕ
column_at cells k = (cell cells k).column

abbrev pub code_at : List Cell → ℕ → ℕ
code_at cells k = (cell cells k).code

abbrev pub next_at : List Cell → ℕ → ℕ
next_at cells k = (cell cells k).next

-- the code of the cell with the row and the column
unfoldable pub found : List Cell → ℕ → ℕ → ℕ
found [] r c = 0
found (x ∷ xs) r c = cond (x.row == r && x.column == c) x.code (found xs r c)

abbrev pub held : ℕ → ℕ → List Cell → Matrix
held rows columns cells = record { rows = rows; columns = columns; at = λ r c. cond (inside rows columns r c) (found cells r c) 0 }

pub held_outside : (rows columns : ℕ) (cells : List Cell) → Outside (held rows columns cells)
held_outside rows columns cells r c e = ap (λ b. cond b (found cells r c) 0) e

-- what a store over so many cells and heads takes
abbrev pub sparse_terms : ℕ → ℕ → Terms
sparse_terms cells heads = record { bound = 65536; takes = λ rows columns. nat_le rows 65535 && nat_le columns heads; limit = λ _ _. min cells 65535 }
