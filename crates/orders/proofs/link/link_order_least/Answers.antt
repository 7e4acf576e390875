-- The key is the number of links.
use Rattle.survey.specs.Surveys.{degree}
use Rattle.orders.proofs.Picks.{least_picked}
use Rattle.orders.proofs.link.link_order_least.Goals as goal

pub returns : goal.returns
returns c s = least_picked s (degree s)
