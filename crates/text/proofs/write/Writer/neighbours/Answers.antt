-- A linked sensor's column is written when it is met.
use Rattle.std.proofs.Common.{◌+◌, ◌<◌, ◌≤◌, ap, arith}
use Rattle.survey.specs.Plans.{survey_of}
use Rattle.survey.proofs.Walks.{below_none}
use Rattle.text.proofs.Writing.{due_none, due_all, below_sensors, columns_among, column_fits, column_wrote, column_passed}
use Rattle.text.proofs.write.Writer.neighbours.Goals as goal
use Rattle.text.proofs.write.Writer.neighbours.Goals.{then-linked, else-linked}

pub loop-y-init : goal.loop-y-init
loop-y-init c =
    let s = survey_of c.args.survey.now in
    due_none c.args.self.now _ _ (ap (columns_among s c.args.x) (below_sensors s _ (omega arith)))

pub number-requires : goal.number-requires
number-requires c =
    let more : c.loop-y.y < c.count-y-end.result + 1 = omega arith in
    column_fits (survey_of c.args.survey.now) c.args.x c.loop-y.y _ _ _ c.loop-y.self c.loop-y.invariant more c.if-linked.ensures c.requires

pub loop-y-preserved : goal.loop-y-preserved
loop-y-preserved c =
    let s = survey_of c.args.survey.now in
    let more : c.loop-y.y < c.count-y-end.result + 1 = omega arith in
    elim c.if-linked.branch [
      | then-linked w ↦ column_wrote s c.args.x c.loop-y.y _ _ _ c.loop-y.self c.loop-y.invariant more c.if-linked.self w.if-linked.ensures (rw w.self-is w.number.ensures)
      | else-linked w ↦ column_passed s c.args.x c.loop-y.y _ _ _ c.loop-y.self c.loop-y.invariant more c.if-linked.self w.if-linked.ensures w.self-is
    ]

pub returns-after-linked : goal.returns-after-linked
returns-after-linked c =
    let s = survey_of c.args.survey.now in
    let more : c.loop-y.y < c.count-y-end.result + 1 = omega arith in
    let done : c.count-y-end.result + 1 ≤ c.loop-y.y + 1 = omega arith in
    let none = ap (columns_among s c.args.x) (below_none _ _ done) in
    elim c.if-linked.branch [
      | then-linked w ↦
          due_all _ _ c.if-linked.self _
          (column_wrote s c.args.x c.loop-y.y _ _ _ c.loop-y.self c.loop-y.invariant more c.if-linked.self w.if-linked.ensures (rw w.self-is w.number.ensures)) none
      | else-linked w ↦
          due_all _ _ c.if-linked.self _
          (column_passed s c.args.x c.loop-y.y _ _ _ c.loop-y.self c.loop-y.invariant more c.if-linked.self w.if-linked.ensures w.self-is) none
    ]
