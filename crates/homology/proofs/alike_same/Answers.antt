-- The theorem, as it is proved in `Likeness`.
use Rattle.homology.proofs.alike_same.Goals as goal
use Rattle.homology.proofs.Likeness.{alike_same}

abbrev pub returns : goal.returns
returns c = alike_same
