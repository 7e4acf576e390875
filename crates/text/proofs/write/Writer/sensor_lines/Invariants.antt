-- The lines from here on are still to come.
use Rattle.std.proofs.Common.{◌+◌}
use Rattle.survey.specs.Lists.{gather}
use Rattle.survey.specs.Plans.{survey_of}
use Rattle.survey.proofs.Walks.{below}
use Rattle.text.specs.Text.{sensor_line_of}
use Rattle.text.specs.Writing.{lines_text}
use Rattle.text.proofs.Writing.{Due}
use Rattle.text.proofs.write.Writer.sensor_lines.Given as goal

abbrev pub invariant-loop-x : goal.invariant-loop-x
invariant-loop-x l =
    let s = survey_of l.survey in
    Due l.initial.self (lines_text s) l.self (gather (sensor_line_of s) (below (l.x-end + 1) l.x))
