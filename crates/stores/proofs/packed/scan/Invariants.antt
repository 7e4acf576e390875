-- The places that were passed are zero.
use Rattle.std.proofs.Common.{◌≡◌, ℕ, ◌-◌, ◌<◌, ◌≤◌}
use Rattle.stores.specs.Widths.{bits_of}
use Rattle.stores.specs.Packed.{code_at}
use Rattle.stores.proofs.packed.scan.Given as goal

abbrev pub invariant-loop-place : goal.invariant-loop-place
invariant-loop-place l = (l.start ≤ l.place) × ((q : ℕ) → l.start ≤ q → q < l.place → code_at (bits_of l.fn.width) l.bytes q ≡ 0)

abbrev pub decreases-loop-place : goal.decreases-loop-place
decreases-loop-place l = l.end - l.place
