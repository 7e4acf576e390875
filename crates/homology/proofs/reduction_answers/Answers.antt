-- The theorem, as it is proved in `ReadOff`.
use Rattle.homology.proofs.reduction_answers.Goals as goal
use Rattle.homology.proofs.ReadOff.{reduction_answers_lem}

abbrev pub returns : goal.returns
returns c = reduction_answers_lem
