-- The states of a sparse store, the spots of its entries, and what a put leaves of one.
use Rattle.std.specs.Prelude.{◌≡◌, ℕ, ◌<◌, ◌≤◌, List, length, Option, Some, None}
use Rattle.matrix.specs.Matrix.{Matrix, put_at, put_into}
use Rattle.matrix.specs.Terms.{Terms}
use Rattle.sparse.specs.declared.cell.Cell.{Cell}
use Rattle.sparse.specs.declared.chains.Spare.{Spare}
use Rattle.sparse.specs.declared.chains.Spot.{Spot}
use Rattle.sparse.specs.declared.sparse.Sparse.{Sparse}
use Rattle.sparse.specs.Cells.{held, sparse_terms}
use Rattle.sparse.specs.Chains.{Spotted, take_link, take_free, take_fresh}
use Rattle.sparse.specs.Puts.{Kept}

abbrev pub cells_of : Sparse → List Cell
cells_of s = s.cells.now

abbrev pub heads_of : Sparse → List ℕ
heads_of s = s.heads.now

abbrev pub matrix_of : Sparse → Matrix
matrix_of s = held s.shape.rows s.shape.columns (cells_of s)

abbrev pub terms_of : Sparse → Terms
terms_of s = sparse_terms (length (cells_of s)) (length (heads_of s))

-- a cell picked for use, by its link, and what is spare then
pub record Taken (cells : List Cell) (spare : Spare) (link : ℕ) (left : Spare) : Type 0 where
  pub link_is : link ≡ take_link spare.free spare.fresh
  pub free_is : left.free ≡ take_free cells spare.free
  pub fresh_is : left.fresh ≡ take_fresh spare.free spare.fresh

-- the spot of a row in a column of the shape; the row may lie past the last
pub record Located (s : Sparse) (p : Spot) : Type 0 where
  pub row_from : 1 ≤ p.row
  pub column_from : 1 ≤ p.column
  pub column_to : p.column ≤ s.shape.columns
  pub spotted : Spotted (cells_of s) p.column p.row p.before p.at

-- what is found for a row and a column: their spot, or that there is none
abbrev pub Sought : Sparse → ℕ → ℕ → Option Spot → Type 0
Sought s r c None = 1 ≤ r → 1 ≤ c → s.shape.columns < c
Sought s r c (Some p) = (p.row ≡ r) × (p.column ≡ c) × Located s p

-- the spot of a place of the shape
pub record Inside (s : Sparse) (p : Spot) : Type 0 where
  pub row_to : p.row ≤ s.shape.rows
  pub located : Located s p

-- what is found for a place: its spot, or that it lies outside the shape
abbrev pub Placed : Sparse → ℕ → ℕ → Option Spot → Type 0
Placed s r c None = 1 ≤ r → r ≤ s.shape.rows → 1 ≤ c → s.shape.columns < c
Placed s r c (Some p) = (p.row ≡ r) × (p.column ≡ c) × Inside s p

abbrev pub entry_at : Sparse → Spot → ℕ
entry_at s p = (matrix_of s).at p.row p.column

-- what stays under every put
pub record Stays (s s' : Sparse) (p : Spot) : Type 0 where
  pub rows : s'.shape.rows ≡ s.shape.rows
  pub columns : s'.shape.columns ≡ s.shape.columns
  pub terms : terms_of s' ≡ terms_of s
  pub kept : Kept (cells_of s) (cells_of s') p.row p.column

-- the entry is set
pub record Left (s s' : Sparse) (p : Spot) (v : ℕ) : Type 0 where
  pub holds : matrix_of s' ≡ put_into (matrix_of s) (put_at p.row p.column v)
  pub stays : Stays s s' p
