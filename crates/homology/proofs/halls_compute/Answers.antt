-- The theorem, as it is proved in `Examples`.
use Rattle.homology.proofs.halls_compute.Goals as goal
use Rattle.homology.proofs.Examples.{halls_compute_lem}

abbrev pub returns : goal.returns
returns c = halls_compute_lem
