-- Those still to come are judged by those met.
use Rattle.std.proofs.Common.{◌≡◌, drop}
use Rattle.survey.specs.Sets.{set_of}
use Rattle.survey.specs.Surveys.{distinct, nobody}
use Rattle.survey.proofs.neighbours.Neighbours.is_distinct.Given as goal

abbrev pub invariant-loop-x : goal.invariant-loop-x
invariant-loop-x l =
    distinct l.self.count (set_of l.met) (drop l.x-index l.fence) ≡ distinct l.self.count nobody l.fence
