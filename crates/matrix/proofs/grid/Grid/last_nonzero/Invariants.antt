-- The rows that were passed are zero.
use Rattle.std.proofs.Common.{◌≡◌, ℕ, ◌<◌, ◌≤◌}
use Rattle.matrix.proofs.grid.Grid.last_nonzero.Given as goal

abbrev pub invariant-loop-row : goal.invariant-loop-row
invariant-loop-row g l = (i : ℕ) → l.row < i → i ≤ l.last → (g.Self.Grid.holds l.self).at i l.column ≡ 0
