-- The table of pivots: for each row the column that has it as its low.
use Rattle.std.specs.Prelude.{◌≡◌, ℕ, zero, suc, ◌<◌, ◌≤◌, List, Some, None, Option, length, slice_index, slice_index_or}
use Rattle.matrix.specs.Matrix.{Entries}
use Rattle.homology.specs.Reduction.{owner}
use Rattle.homology.specs.Theorems.{Apart}

-- the lows of the columns 1 to j differ, and the table says for each row up to E which of them has it; row 0 is nobody's
pub record Table (E : ℕ) (M : Entries) (j : ℕ) (table : List ℕ) : Type 0 where
  pub apart : Apart E M j
  pub long : E < length table
  pub none : slice_index_or table 0 0 ≡ 0
  pub owners : (e : ℕ) → 1 ≤ e → e ≤ E → slice_index table e ≡ owner E M j e

-- a row or a column, where 0 stands for none
abbrev pub unless_zero : ℕ → Option ℕ
unless_zero zero = None
unless_zero (suc n) = Some (suc n)
