-- The derived order ranks field by field.
use Rattle.complex.proofs.Orders.{triangle_ranked}
use Rattle.complex.proofs.order.TriangleTotalOrder.compare.Goals as goal

pub returns : goal.returns
returns c = triangle_ranked c.args.self.now c.args.triangle.now _ c.cmp.ensures
