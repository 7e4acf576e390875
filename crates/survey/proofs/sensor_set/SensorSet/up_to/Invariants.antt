-- The sensors passed are those in the set.
use Rattle.std.proofs.Common.{◌≡◌, ◌+◌, ◌-◌, ◌≤◌}
use Rattle.survey.specs.Sets.{set_of, up_to}
use Rattle.survey.proofs.sensor_set.SensorSet.up_to.Given as goal

abbrev pub invariant-loop-x : goal.invariant-loop-x
invariant-loop-x l = (set_of l.set ≡ up_to (l.x - 1)) × (1 ≤ l.x) × (l.x ≤ l.x-end + 1)
