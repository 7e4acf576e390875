-- The theorem, as it is proved in `Examples`.
use Rattle.homology.proofs.hub_computes.Goals as goal
use Rattle.homology.proofs.Examples.{hub_computes_lem}

abbrev pub returns : goal.returns
returns c = hub_computes_lem
