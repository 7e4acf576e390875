-- The theorem, as it is proved in `Ending`.
use Rattle.homology.proofs.reduction_ends.Goals as goal
use Rattle.homology.proofs.Ending.{reduction_ends_lem}

abbrev pub returns : goal.returns
returns c = reduction_ends_lem
