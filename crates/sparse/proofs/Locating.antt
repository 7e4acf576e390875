-- The spots of a store's entries.
use Rattle.std.proofs.Common.{◌≡◌, ℕ, min, max, Some, None, ◌≢◌, ◌+◌, ◌-◌, ◌<◌, ◌≤◌, refl, ◌∙◌, arith}
use Rattle.sparse.specs.declared.chains.Spot.{Spot}
use Rattle.sparse.specs.declared.sparse.Sparse.{Sparse}
use Rattle.matrix.specs.Nonzero.{next_in, last_in}
use Rattle.matrix.proofs.Nonzeros.{next_by, last_by}
use Rattle.sparse.specs.Cells.{row_at, column_at, code_at, held_outside}
use Rattle.sparse.specs.Chains.{row_of}
use Rattle.sparse.specs.States.{cells_of, matrix_of, entry_at, Located}
use Rattle.sparse.proofs.Rows.{row_of_none, row_of_some}
use Rattle.sparse.proofs.Readings.{between, found_by, held_in, held_none, held_past, held_filled}

-- the entry is the code of the spot's second link, where that leads to the row, and else 0
pub entry_here : (s : Sparse) (p : Spot) → Located s p → p.at ≢ 0 → row_at (cells_of s) (p.at - 1) ≡ p.row → entry_at s p ≡ code_at (cells_of s) (p.at - 1)
entry_here s p l d hit =
    held_in s.shape.rows s.shape.columns (cells_of s) p.row p.column l.row_from (omega (arith, s.sound.rows_to (p.at - 1))) l.column_from l.column_to
    ∙ found_by (cells_of s) (p.at - 1) p.row p.column _ s.sound.chained.one_each hit l.row_from (l.spotted.ahead d).0 refl

pub entry_none : (s : Sparse) (p : Spot) → Located s p → (p.at ≢ 0 → row_at (cells_of s) (p.at - 1) ≢ p.row) → entry_at s p ≡ 0
entry_none s p l miss = held_none s.shape.rows s.shape.columns (cells_of s) p.row p.column
    (λ _ _. between (cells_of s) p.column p.row p.before p.at p.row l.spotted l.spotted.below (λ d. omega (arith, l.spotted.reached d, miss d)))

module _ (s : Sparse) where
  -- a column outside the shape holds nothing
  pub next_none : (c r start : ℕ) → (1 ≤ r → 1 ≤ c → s.shape.columns < c) → r ≡ max start 1 → None ≡ next_in (matrix_of s) c start
  next_none c r start h e = next_by (matrix_of s) c start None (held_outside s.shape.rows s.shape.columns (cells_of s)) (λ i l. held_past s.shape.rows s.shape.columns (cells_of s) i c (h (omega arith)))

  pub last_none : (c r end : ℕ) → (1 ≤ r → 1 ≤ c → s.shape.columns < c) → r ≡ min end s.shape.rows + 1 → None ≡ last_in (matrix_of s) c end
  last_none c r end h e = last_by (matrix_of s) c end None (λ i l g. held_past s.shape.rows s.shape.columns (cells_of s) i c (h (omega arith)))

  module _ (p : Spot) (l : Located s p) where
    gap : (i : ℕ) → (1 ≤ i → row_of (cells_of s) p.before < i) → (p.at ≢ 0 → i < row_at (cells_of s) (p.at - 1)) → (matrix_of s).at i p.column ≡ 0
    gap i low high = held_none s.shape.rows s.shape.columns (cells_of s) i p.column (λ from _. between (cells_of s) p.column p.row p.before p.at i l.spotted (low from) high)

    filled : (k : ℕ) → 1 ≤ row_at (cells_of s) k → column_at (cells_of s) k ≡ p.column → (matrix_of s).at (row_at (cells_of s) k) p.column ≢ 0
    filled k = held_filled s.shape.rows s.shape.columns (cells_of s) p.column k s.sound.chained.one_each s.sound.filled s.sound.rows_to l.column_from l.column_to

    -- the next row from `start` on is that of the spot's second link
    pub next_end : (start : ℕ) → p.row ≡ max start 1 → p.at ≡ 0 → None ≡ next_in (matrix_of s) p.column start
    next_end start e z = next_by (matrix_of s) p.column start None (held_outside s.shape.rows s.shape.columns (cells_of s))
        (λ i g. gap i (λ from. omega (arith, l.spotted.below)) (λ d. absurd (d z)))

    pub next_some : (start : ℕ) → p.row ≡ max start 1 → p.at ≢ 0 → Some (row_at (cells_of s) (p.at - 1)) ≡ next_in (matrix_of s) p.column start
    next_some start e d = next_by (matrix_of s) p.column start (Some (row_at (cells_of s) (p.at - 1))) (held_outside s.shape.rows s.shape.columns (cells_of s)) (
      omega (arith, l.spotted.reached d),
      filled (p.at - 1) (omega (arith, l.spotted.reached d)) (l.spotted.ahead d).0,
      λ i a b. gap i (λ from. omega (arith, l.spotted.below)) (λ _. b),
    )

    -- the last row up to `end` is that of its first link, where it is the spot of the row after
    pub last_end : (end : ℕ) → p.row ≡ min end s.shape.rows + 1 → p.before ≡ 0 → None ≡ last_in (matrix_of s) p.column end
    last_end end e z = last_by (matrix_of s) p.column end None (λ i a b. gap i (λ from. omega (arith, row_of_none (cells_of s) p.before z)) (λ d. omega (arith, l.spotted.reached d)))

    pub last_some : (end : ℕ) → p.row ≡ min end s.shape.rows + 1 → p.before ≢ 0 → Some (row_at (cells_of s) (p.before - 1)) ≡ last_in (matrix_of s) p.column end
    last_some end e d =
        let is = row_of_some (cells_of s) p.before d in
        last_by (matrix_of s) p.column end (Some (row_at (cells_of s) (p.before - 1))) (
          (l.spotted.stands d).1,
          omega (arith, l.spotted.below, is),
          filled (p.before - 1) (l.spotted.stands d).1 (l.spotted.stands d).0,
          λ i a b. gap i (λ from. omega (arith, is)) (λ g. omega (arith, l.spotted.reached g)),
        )
