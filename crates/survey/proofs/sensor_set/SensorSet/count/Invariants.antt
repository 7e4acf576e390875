-- The members counted so far and those still to come are all of them.
use Rattle.std.proofs.Common.{◌≡◌, ◌+◌, ◌≤◌, cond, [], ◌∷◌, length}
use Rattle.survey.specs.Sets.{set_of, members}
use Rattle.survey.proofs.Walks.{ahead}
use Rattle.survey.proofs.sensor_set.SensorSet.count.Given as goal

abbrev pub invariant-loop-x : goal.invariant-loop-x
invariant-loop-x l =
    let on = set_of l.self in
    (l.count + ahead (λ x. cond (on x) (x ∷ []) []) 65 l.x ≡ length (members on)) × (l.count + 1 ≤ l.x)
