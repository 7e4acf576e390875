-- The theorem, as it is proved in `Fences`.
use Rattle.runs.proofs.fence_stays_on.Goals as goal
use Rattle.runs.proofs.Fences.{fence_stays_on_lem}

abbrev pub returns : goal.returns
returns c = fence_stays_on_lem
