-- The theorem, as it is proved in `Drops`.
use Rattle.runs.proofs.thin_drops.Goals as goal
use Rattle.runs.proofs.Drops.{thin_drops_lem}

abbrev pub returns : goal.returns
returns c = thin_drops_lem
