-- The list ascends, those passed are named, and the rest has to rise from the one before.
use Rattle.text.proofs.Naming.{NamesOn}
use Rattle.text.proofs.line.name_all.Given as goal

abbrev pub invariant-loop-y : goal.invariant-loop-y
invariant-loop-y l = NamesOn l.initial.neighbours l.neighbours l.x l.y-index l.list
