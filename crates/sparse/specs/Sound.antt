-- What a sparse store keeps true of its numbers, its heads and its cells.
use Rattle.std.specs.Prelude.{◌≡◌, ℕ, ◌-◌, ◌≤◌, min, true, List, length}
use Rattle.matrix.specs.Matrix.{count}
use Rattle.sparse.specs.declared.cell.Cell.{Cell}
use Rattle.sparse.specs.Cells.{held}
use Rattle.sparse.specs.Chains.{Chained, Filled, RowsTo, Unused, spare}

pub record Sound (rows columns used free fresh : ℕ) (heads : List ℕ) (cells : List Cell) : Type 0 where
  -- the shape is one that is taken
  pub low : rows ≤ 65535
  pub wide : columns ≤ length heads
  -- the cells are chained by column, each in use holds an entry of the shape, and none else is in use
  pub chained : Chained columns heads cells
  pub filled : Filled cells
  pub rows_to : RowsTo rows cells
  -- the cells from `fresh` on were not used, and of those before it the ones not in use are chained from `free`
  pub lent : fresh ≤ min (length cells) 65535
  pub unused : Unused fresh cells
  pub begun : used ≤ fresh
  pub spared : spare cells fresh (fresh - used) free ≡ true
  -- `used` is the number of nonzero entries
  pub counted : used ≡ count (held rows columns cells)
