-- The theorem, as it is proved in `Room`.
use Rattle.homology.proofs.peak_tells.Goals as goal
use Rattle.homology.proofs.Room.{peak_tells_lem}

abbrev pub returns : goal.returns
returns c = peak_tells_lem
