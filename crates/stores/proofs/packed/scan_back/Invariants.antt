-- The places that were passed are zero.
use Rattle.std.proofs.Common.{◌≡◌, ℕ, ◌<◌, ◌≤◌}
use Rattle.stores.specs.Widths.{bits_of}
use Rattle.stores.specs.Packed.{code_at}
use Rattle.stores.proofs.packed.scan_back.Given as goal

abbrev pub invariant-loop-passed : goal.invariant-loop-passed
invariant-loop-passed l = (l.passed ≤ l.end) × ((q : ℕ) → l.passed ≤ q → q < l.end → code_at (bits_of l.fn.width) l.bytes q ≡ 0)

abbrev pub decreases-loop-passed : goal.decreases-loop-passed
decreases-loop-passed l = l.passed
