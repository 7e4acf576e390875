-- The row that a link leads to, and the places in use.
use Rattle.std.proofs.Common.{◌≡◌, ℕ, zero, suc, ◌-◌, ◌<◌, ◌≤◌, eqb, List, [], ◌∷◌, length, arith}
use Rattle.std.proofs.lemmas.Bool.{cond-true, cond-false, ne_eqb, eq-eqb}
use Rattle.sparse.specs.declared.cell.Cell.{Cell}
use Rattle.sparse.specs.Cells.{row_at}
use Rattle.sparse.specs.Chains.{row_of}

pub row_of_none : (cells : List Cell) (link : ℕ) → link ≡ 0 → row_of cells link ≡ 0
row_of_none cells link e = cond-true (eqb link 0) _ _ (eq-eqb link 0 e)

pub row_of_some : (cells : List Cell) (link : ℕ) → (link ≡ 0 → ⊥) → row_of cells link ≡ row_at cells (link - 1)
row_of_some cells link d = cond-false (eqb link 0) _ _ (ne_eqb link 0 d)

-- a place in use is there
pub used_lt : (cells : List Cell) (k : ℕ) → 1 ≤ row_at cells k → k < length cells
used_lt [] k h = absurd (omega arith)
used_lt (x ∷ xs) zero h = omega arith
used_lt (x ∷ xs) (suc k) h = omega (arith, used_lt xs k h)
