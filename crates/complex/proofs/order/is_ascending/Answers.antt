-- The closure asks whether one record is below the next.
use Rattle.std.proofs.Common.{rules}
use Rattle.std.proofs.lemmas.List.Sorted.{answers_always}
use Rattle.complex.proofs.Orders.{adjacent_ascends}
use Rattle.complex.proofs.order.is_ascending.Goals as goal

pub returns : goal.returns
returns g c =
    adjacent_ascends g.R.TotalOrder.less g.met.R.TotalOrder.chained _ _
    (c.is_sorted_by.ensures.cases g.R.TotalOrder.less (answers_always _ _ _ (λ f a r f' called. search rules)))
