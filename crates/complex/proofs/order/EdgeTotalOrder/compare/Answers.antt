-- The derived order ranks field by field.
use Rattle.complex.proofs.Orders.{edge_ranked}
use Rattle.complex.proofs.order.EdgeTotalOrder.compare.Goals as goal

pub returns : goal.returns
returns c = edge_ranked c.args.self.now c.args.edge.now _ c.cmp.ensures
