-- One line more is read, or refused.
use Rattle.std.proofs.Common.{arith}
use Rattle.std.proofs.lemmas.Result.{err_from_is_err_and}
use Rattle.text.proofs.SensorLines.{lines_on_refused, lines_on_more, lines_on_all}
use Rattle.text.proofs.reader.Reader.sensor_lines.Goals as goal

pub returns-in_err-sensor_line : goal.returns-in_err-sensor_line
returns-in_err-sensor_line c =
    let p = err_from_is_err_and c.from_residual.result c.from_residual.ensures.1 in
    rw (p.1, p.2) (lines_on_refused _ _ _ _ _ c.loop-x.invariant.0 _ (omega arith) c.in_err-sensor_line.ensures)

pub loop-x-preserved : goal.loop-x-preserved
loop-x-preserved c =
    (lines_on_more _ _ _ _ _ c.loop-x.invariant.0 c.sensor_line.new.self c.sensor_line.new.neighbours (omega arith) c.in_ok-sensor_line.ensures, c.loop-x.invariant.1)

pub returns-in_ok-sensor_line : goal.returns-in_ok-sensor_line
returns-in_ok-sensor_line c =
    let on = lines_on_more _ _ _ _ _ c.loop-x.invariant.0 c.sensor_line.new.self c.sensor_line.new.neighbours (omega arith) c.in_ok-sensor_line.ensures in
    lines_on_all _ _ _ _ _ on (omega arith)
