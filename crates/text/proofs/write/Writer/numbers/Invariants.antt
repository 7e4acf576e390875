-- The columns from here on are still to come.
use Rattle.std.proofs.Common.{drop}
use Rattle.survey.specs.Lists.{gather}
use Rattle.text.specs.Columns.{column}
use Rattle.text.proofs.Writing.{Due}
use Rattle.text.proofs.write.Writer.numbers.Given as goal

abbrev pub invariant-loop-v : goal.invariant-loop-v
invariant-loop-v l = Due l.initial.self (gather column l.list) l.self (gather column (drop l.v-index l.list))
