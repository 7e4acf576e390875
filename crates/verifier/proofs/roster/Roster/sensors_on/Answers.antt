-- The fold gathers the numbers that pass.
use Rattle.std.proofs.Common.{◌∙◌, rules}
use Rattle.survey.proofs.Numbers.{YieldsList-from_passing}
use Rattle.verifier.specs.Rosters.{meaning_of}
use Rattle.verifier.proofs.Sets.{gathered_by_fold, gathered_all, on_outside}
use Rattle.verifier.proofs.roster.Roster.sensors_on.Goals as goal

pub returns : goal.returns
returns c =
    let r = c.args.self.now in
    let m = meaning_of r in
    gathered_all m.survey m.on r.survey.neighbours.most (on_outside r) c.fold.result
    (gathered_by_fold c.empty.result c.fold.result c.fold.ensures.ran
    (YieldsList-from_passing m.on m.survey.count c.filter.ensures.source c.new.ensures.start (c.new.ensures.end ∙ c.count.ensures.value) c.new.ensures.exhausted
    c.filter.ensures.closure (λ x b q k. search rules))
    (λ a x b q k. search rules) c.empty.ensures)
