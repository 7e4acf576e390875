-- The theorem, as it is proved in `Ending`.
use Rattle.homology.proofs.adds_reach.Goals as goal
use Rattle.homology.proofs.Ending.{adds_reach_lem}

abbrev pub returns : goal.returns
returns c = adds_reach_lem
