-- Which cells a put leaves alone.
use Rattle.std.specs.Prelude.{◌≡◌, ℕ, ◌≤◌, List, ◌≢◌}
use Rattle.sparse.specs.declared.cell.Cell.{Cell}
use Rattle.sparse.specs.Cells.{row_at, column_at}

-- the cells of other entries are the same, before and after
pub record Kept (cells cells' : List Cell) (r c : ℕ) : Type 0 where
  pub stays : (q : ℕ) → 1 ≤ row_at cells q → (row_at cells q ≡ r → column_at cells q ≢ c) → (row_at cells' q ≡ row_at cells q) × (column_at cells' q ≡ column_at cells q)
  pub was : (q : ℕ) → 1 ≤ row_at cells' q → (row_at cells' q ≡ r → column_at cells' q ≢ c) → (row_at cells' q ≡ row_at cells q) × (column_at cells' q ≡ column_at cells q)
