-- The theorem, as it is proved in `Unique`.
use Rattle.homology.proofs.one_solution.Goals as goal
use Rattle.homology.proofs.Unique.{only_solution}

abbrev pub returns : goal.returns
returns c = only_solution
