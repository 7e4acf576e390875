-- The theorem, as it is proved in `Keeping`.
use Rattle.runs.proofs.keeps_promises.Goals as goal
use Rattle.runs.proofs.Keeping.{keeps_promises_lem}

abbrev pub returns : goal.returns
returns c = keeps_promises_lem
