-- The theorem, as it is proved in `Every`.
use Rattle.runs.proofs.every_run.Goals as goal
use Rattle.runs.proofs.Every.{every_run_lem}

abbrev pub returns : goal.returns
returns c = every_run_lem
