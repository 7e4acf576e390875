-- The theorem, as it is proved in `Growing`.
use Rattle.homology.proofs.fillings_grow.Goals as goal
use Rattle.homology.proofs.Growing.{fillings_grow_lem}

abbrev pub returns : goal.returns
returns c = fillings_grow_lem
