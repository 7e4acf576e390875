-- The theorem, as it is proved in `Drops`.
use Rattle.runs.proofs.stops_at_trial.Goals as goal
use Rattle.runs.proofs.Drops.{stops_at_trial_lem}

abbrev pub returns : goal.returns
returns c = stops_at_trial_lem
