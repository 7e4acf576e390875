-- The theorem, as it is proved in `Due`.
use Rattle.homology.proofs.what_is_due.Goals as goal
use Rattle.homology.proofs.Due.{what_is_due_lem}

abbrev pub returns : goal.returns
returns c = what_is_due_lem
