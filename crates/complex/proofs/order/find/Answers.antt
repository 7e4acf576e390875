-- Each comparison settles a half.
use Rattle.std.proofs.Common.{arith}
use Rattle.complex.proofs.Orders.{lower_half, upper_half, nowhere}
use Rattle.complex.proofs.order.find.Goals as goal

pub loop-low-preserved-in-Less : goal.loop-low-preserved-in-Less
loop-low-preserved-in-Less g c =
    (c.loop-low.invariant.0, lower_half g.R.TotalOrder.less g.met.R.TotalOrder.chained _ _ _ _ (omega arith) c.index-list-middle.is c.in-Less.ensures, c.loop-low.invariant.2)

pub loop-low-preserved : goal.loop-low-preserved
loop-low-preserved g c =
    (omega arith, c.loop-low.invariant.1, upper_half g.R.TotalOrder.less g.met.R.TotalOrder.chained _ _ _ _ (omega arith) c.index-list-middle.is c.in-Greater.ensures)

pub returns : goal.returns
returns g c up = nowhere g.R.TotalOrder.less g.met.R.TotalOrder.apart _ _ _ _ (c.loop-low.invariant.1 up) (c.loop-low.invariant.2 up) c.loop-low-test.false
