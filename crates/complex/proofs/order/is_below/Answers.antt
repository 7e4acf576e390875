-- A comparison answers by `less`.
use Rattle.std.proofs.Common.{◌∙◌}
use Rattle.complex.proofs.Orders.{ranked_less}
use Rattle.complex.proofs.order.is_below.Goals as goal

pub returns : goal.returns
returns g c =
    let order = g.met.R.TotalOrder in
    c.is_lt.ensures ∙ ranked_less g.R.TotalOrder.less order.apart order.chained _ _ _ c.compare.ensures
