-- The theorem, as it is proved in `Deciding`.
use Rattle.checking.proofs.Deciding.{check_decides_lem}
use Rattle.checking.proofs.check_decides.Goals as goal

pub returns : goal.returns
returns c = check_decides_lem
