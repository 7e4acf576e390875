-- Chains of cells, one to a column, rows rising. A link is a place plus one, and 0 ends a chain.
use Rattle.std.specs.Prelude.{◌≡◌, ℕ, zero, suc, ◌+◌, ◌-◌, ◌<◌, ◌≤◌, Bool, cond, not, ◌&&◌, List, length, Option, Some, None, ◌==◌, ◌≢◌, nat_le, slice_index, slice_set}
use Rattle.sparse.specs.declared.cell.Cell.{Cell}
use Rattle.sparse.specs.Cells.{cell, row_at, column_at, code_at, next_at}

-- the cell that a link leads to, or that it is 0 and ends a chain
abbrev pub Leads : List Cell → ℕ → Option Cell → Type 0
Leads cells link None = link ≡ 0
Leads cells link (Some x) = (link ≢ 0) × (x ≡ cell cells (link - 1))

-- the row that a link leads to, 0 for no cell
abbrev pub row_of : List Cell → ℕ → ℕ
row_of cells link = cond (link == 0) 0 (row_at cells (link - 1))

-- the link leads to a cell of the column past the row, if to any
abbrev pub Ahead : List Cell → ℕ → ℕ → ℕ → Type 0
Ahead cells c r link = (link ≢ 0) → (column_at cells (link - 1) ≡ c) × (r < row_at cells (link - 1))

-- and none of the column past the row stands before it
abbrev pub Nearest : List Cell → ℕ → ℕ → ℕ → Type 0
Nearest cells c r link = (q : ℕ) → column_at cells q ≡ c → r < row_at cells q → (link ≢ 0) × (row_at cells (link - 1) ≤ row_at cells q)

-- the link leads to the first cell of the column past the row, if there is one
abbrev pub Follows : List Cell → ℕ → ℕ → ℕ → Type 0
Follows cells c r link = Ahead cells c r link × Nearest cells c r link

-- every cell in use leads on in its column
abbrev pub NextsAhead : List Cell → Type 0
NextsAhead cells = (k : ℕ) → 1 ≤ row_at cells k → Ahead cells (column_at cells k) (row_at cells k) (next_at cells k)

abbrev pub NextsNearest : List Cell → Type 0
NextsNearest cells = (k : ℕ) → 1 ≤ row_at cells k → Nearest cells (column_at cells k) (row_at cells k) (next_at cells k)

-- the heads of the columns 1 to n lead to their first cells
abbrev pub HeadsAhead : ℕ → List ℕ → List Cell → Type 0
HeadsAhead n heads cells = (c : ℕ) → 1 ≤ c → c ≤ n → Ahead cells c 0 (slice_index heads (c - 1))

abbrev pub HeadsNearest : ℕ → List ℕ → List Cell → Type 0
HeadsNearest n heads cells = (c : ℕ) → 1 ≤ c → c ≤ n → Nearest cells c 0 (slice_index heads (c - 1))

-- an entry has one cell
abbrev pub OneEach : List Cell → Type 0
OneEach cells = (p q : ℕ) → 1 ≤ row_at cells p → row_at cells p ≡ row_at cells q → column_at cells p ≡ column_at cells q → p ≡ q

-- a cell in use has a code that is not 0, and a row of the shape
abbrev pub Filled : List Cell → Type 0
Filled cells = (k : ℕ) → 1 ≤ row_at cells k → 1 ≤ code_at cells k

abbrev pub RowsTo : ℕ → List Cell → Type 0
RowsTo rows cells = (k : ℕ) → row_at cells k ≤ rows

-- no cell is in use from a place on
abbrev pub Unused : ℕ → List Cell → Type 0
Unused n cells = (k : ℕ) → n ≤ k → row_at cells k ≡ 0

-- chains of the columns 1 to n
pub record Chained (n : ℕ) (heads : List ℕ) (cells : List Cell) : Type 0 where
  pub heads_ahead : HeadsAhead n heads cells
  pub heads_nearest : HeadsNearest n heads cells
  pub nexts_ahead : NextsAhead cells
  pub nexts_nearest : NextsNearest cells
  pub one_each : OneEach cells

-- what a walk along the chain of a column goes by
pub record Walkable (c : ℕ) (heads : List ℕ) (cells : List Cell) : Type 0 where
  pub head : 1 ≤ c
  pub head_to : c ≤ length heads
  pub head_ahead : Ahead cells c 0 (slice_index heads (c - 1))
  pub head_nearest : Nearest cells c 0 (slice_index heads (c - 1))
  pub nexts_ahead : NextsAhead cells
  pub nexts_nearest : NextsNearest cells

-- no link, or one to a cell of the column
abbrev pub Stands : List Cell → ℕ → ℕ → Type 0
Stands cells c link = (link ≢ 0) → (column_at cells (link - 1) ≡ c) × (1 ≤ row_at cells (link - 1))

-- where a row belongs in the chain of a column: `before` is the last link before it, `at` the first that is not
pub record Spotted (cells : List Cell) (c r before at : ℕ) : Type 0 where
  pub stands : Stands cells c before
  pub below : row_of cells before < r
  pub ahead : Ahead cells c (row_of cells before) at
  pub nearest : Nearest cells c (row_of cells before) at
  pub reached : (at ≢ 0) → r ≤ row_at cells (at - 1)

-- the cell with another link
abbrev pub leading : Cell → ℕ → Cell
leading x to = record { column = x.column; row = x.row; code = x.code; next = to }

-- the cell with another code
abbrev pub recoded : Cell → ℕ → Cell
recoded x v = record { column = x.column; row = x.row; code = v; next = x.next }

-- the link after `before` changed: that of a cell, or the head of the column
abbrev pub linked_cells : List Cell → ℕ → ℕ → List Cell
linked_cells cells before to = cond (before == 0) cells (slice_set cells (before - 1) (leading (cell cells (before - 1)) to))

abbrev pub linked_heads : List ℕ → ℕ → ℕ → ℕ → List ℕ
linked_heads heads c before to = cond (before == 0) (slice_set heads (c - 1) to) heads

-- n cells out of use, at links up to `top`, are chained from the link
unfoldable pub spare : List Cell → ℕ → ℕ → ℕ → Bool
spare cells top zero link = link == 0
spare cells top (suc n) link = (not (link == 0) && nat_le link top) && (row_at cells (link - 1) == 0 && spare cells top n (next_at cells (link - 1)))

-- the cell to be used next: the first that was cleared, or else the first that was not used; and what is left then
abbrev pub take_link : ℕ → ℕ → ℕ
take_link free fresh = cond (free == 0) (fresh + 1) free

abbrev pub take_free : List Cell → ℕ → ℕ
take_free cells free = cond (free == 0) 0 (next_at cells (free - 1))

abbrev pub take_fresh : ℕ → ℕ → ℕ
take_fresh free fresh = cond (free == 0) (fresh + 1) fresh
