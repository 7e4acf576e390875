-- The theorem, as it is proved in `Worked`.
use Rattle.halls.proofs.Worked.{worked_halls_lem}
use Rattle.halls.proofs.worked_halls.Goals as goal

abbrev pub returns : goal.returns
returns c = worked_halls_lem
