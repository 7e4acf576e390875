-- A member is counted when it is met.
use Rattle.std.proofs.Common.{true, false, arith}
use Rattle.survey.specs.Sets.{set_of, members}
use Rattle.survey.proofs.Walks.{ahead_if}
use Rattle.survey.proofs.sensor_set.SensorSet.count.Goals as goal
use Rattle.survey.proofs.sensor_set.SensorSet.count.Goals.{then-member, else-member}

pub loop-x-init : goal.loop-x-init
unfolding members
loop-x-init c = (omega arith, omega arith)

pub loop-x-preserved : goal.loop-x-preserved
loop-x-preserved c =
    let on = set_of c.args.self.now in
    elim c.if-member.branch [
      | then-member w ↦ (omega (arith, w.count-is, ahead_if on (λ x. x) 65 _ true c.loop-x-test.true w.if-member.ensures), omega (arith, w.count-is))
      | else-member w ↦ (omega (arith, w.count-is, ahead_if on (λ x. x) 65 _ false c.loop-x-test.true w.if-member.ensures), omega (arith, w.count-is))
    ]
