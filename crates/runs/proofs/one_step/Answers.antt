-- The theorem, as it is proved in `Steps`.
use Rattle.runs.proofs.one_step.Goals as goal
use Rattle.runs.proofs.Steps.{one_step_lem}

abbrev pub returns : goal.returns
returns c = one_step_lem
