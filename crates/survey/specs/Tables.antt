-- A table of rows, read at a row and a column; false outside it.
use Rattle.std.specs.Prelude.{ℕ, Bool, false, List, [], slice_index_or}

abbrev pub at : List (List Bool) → ℕ → ℕ → Bool
at rows x y = slice_index_or (slice_index_or rows x []) y false
