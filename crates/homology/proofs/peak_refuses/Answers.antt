-- The theorem, as it is proved in `Room`.
use Rattle.homology.proofs.peak_refuses.Goals as goal
use Rattle.homology.proofs.Room.{peak_refuses_lem}

abbrev pub returns : goal.returns
returns c = peak_refuses_lem
