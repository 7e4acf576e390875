-- Shown in `Sublists`.
use Rattle.complex.proofs.Sublists.{monotone}
use Rattle.complex.proofs.theorems.more_on_has_more.Goals as goal

pub returns : goal.returns
returns c = monotone
