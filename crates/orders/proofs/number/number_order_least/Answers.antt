-- The key is the number.
use Rattle.orders.proofs.Picks.{least_picked}
use Rattle.orders.proofs.number.number_order_least.Goals as goal

pub returns : goal.returns
returns c s p x y e l m h = (least_picked s (λ x. x) p x y e l m h).0
