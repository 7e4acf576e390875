-- The rows that were passed are zero.
use Rattle.std.proofs.Common.{◌≡◌, ℕ, ◌<◌, ◌≤◌}
use Rattle.matrix.proofs.grid.Grid.next_nonzero.Given as goal

abbrev pub invariant-loop-row : goal.invariant-loop-row
invariant-loop-row g l = (i : ℕ) → l.first ≤ i → i < l.row → (g.Self.Grid.holds l.self).at i l.column ≡ 0
