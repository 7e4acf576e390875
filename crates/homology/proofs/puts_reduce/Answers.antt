-- The theorem, as it is proved in `Putting`.
use Rattle.homology.proofs.puts_reduce.Goals as goal
use Rattle.homology.proofs.Putting.{puts_reduce_lem}

abbrev pub returns : goal.returns
returns c = puts_reduce_lem
