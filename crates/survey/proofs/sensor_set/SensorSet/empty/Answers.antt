-- A table of false has nobody in it.
use mathlib.Core.Path.{fun_ext}
use Rattle.std.proofs.Common.{false}
use Rattle.std.proofs.lemmas.Bool.{and_right}
use Rattle.survey.proofs.Tables.{getD_one_value}
use Rattle.survey.proofs.sensor_set.SensorSet.empty.Goals as goal

pub returns : goal.returns
returns c = fun_ext (λ x. and_right _ _ (getD_one_value 65 x false))
