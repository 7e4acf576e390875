-- In a list that ascends, what stands before `low` is below the record, and what stands from `high` on is above it.
use Rattle.std.proofs.Common.{◌≡◌, ℕ, ◌-◌, ◌<◌, ◌≤◌, true, length, get_or}
use Rattle.complex.specs.Orders.{ascends}
use Rattle.complex.proofs.order.find.Given as goal

abbrev pub invariant-loop-low : goal.invariant-loop-low
invariant-loop-low g l =
    let less = g.R.TotalOrder.less in
    (l.high ≤ length l.list)
    × (ascends less l.list ≡ true → (i : ℕ) (d : g.row.R.Denot) → i < l.low → i < length l.list → less (get_or l.list i d) l.wanted ≡ true)
    × (ascends less l.list ≡ true → (i : ℕ) (d : g.row.R.Denot) → l.high ≤ i → i < length l.list → less l.wanted (get_or l.list i d) ≡ true)

abbrev pub decreases-loop-low : goal.decreases-loop-low
decreases-loop-low g l = l.high - l.low
