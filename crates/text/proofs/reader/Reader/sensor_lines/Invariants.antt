-- The lines before that of x are read, and their names stand.
use Rattle.std.proofs.Common.{◌≡◌}
use Rattle.text.proofs.SensorLines.{LinesOn}
use Rattle.text.proofs.reader.Reader.sensor_lines.Given as goal

abbrev pub invariant-loop-x : goal.invariant-loop-x
invariant-loop-x l = LinesOn l.initial.self l.initial.neighbours l.neighbours l.self l.x × (l.x-end ≡ l.initial.neighbours.count)
