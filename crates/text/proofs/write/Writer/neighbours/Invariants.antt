-- The columns of the neighbours from here on are still to come.
use Rattle.std.proofs.Common.{◌+◌}
use Rattle.survey.specs.Plans.{survey_of}
use Rattle.survey.proofs.Walks.{below}
use Rattle.text.specs.Writing.{neighbour_columns}
use Rattle.text.proofs.Writing.{Due, columns_among}
use Rattle.text.proofs.write.Writer.neighbours.Given as goal

abbrev pub invariant-loop-y : goal.invariant-loop-y
invariant-loop-y l =
    let s = survey_of l.survey in
    Due l.initial.self (neighbour_columns s l.x) l.self (columns_among s l.x (below (l.y-end + 1) l.y))
