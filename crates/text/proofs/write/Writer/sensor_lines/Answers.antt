-- One line more is written.
use Rattle.std.proofs.Common.{ap, arith}
use Rattle.survey.specs.Lists.{gather}
use Rattle.survey.specs.Plans.{survey_of}
use Rattle.survey.proofs.Walks.{below_more, below_none}
use Rattle.text.specs.Text.{sensor_line_of}
use Rattle.text.proofs.Writing.{due_more, due_all, due_fits}
use Rattle.text.proofs.write.Writer.sensor_lines.Goals as goal

pub sensor_line-requires : goal.sensor_line-requires
sensor_line-requires c =
    let line = sensor_line_of (survey_of c.args.survey.now) in
    let x = c.loop-x.x in
    due_fits _ _ c.loop-x.self _ c.loop-x.invariant (line x) _ (ap (gather line) (below_more _ x (omega arith))) c.requires

pub loop-x-preserved : goal.loop-x-preserved
loop-x-preserved c =
    let line = sensor_line_of (survey_of c.args.survey.now) in
    let x = c.loop-x.x in
    due_more _ _ c.loop-x.self _ c.loop-x.invariant (line x) _ c.sensor_line.new.self (ap (gather line) (below_more _ x (omega arith))) c.sensor_line.ensures

pub returns-2 : goal.returns-2
returns-2 c =
    let line = sensor_line_of (survey_of c.args.survey.now) in
    let x = c.loop-x.x in
    due_all _ _ c.sensor_line.new.self _
    (due_more _ _ c.loop-x.self _ c.loop-x.invariant (line x) _ c.sensor_line.new.self (ap (gather line) (below_more _ x (omega arith))) c.sensor_line.ensures)
    (ap (gather line) (below_none _ _ (omega arith)))
