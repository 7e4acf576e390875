-- The fold gathers the numbers that pass.
use Rattle.std.proofs.Common.{◌∙◌, rules}
use Rattle.survey.proofs.Numbers.{YieldsList-from_passing}
use Rattle.verifier.specs.Rosters.{meaning_of, candidates}
use Rattle.verifier.proofs.Sets.{gathered_by_fold, gathered_all, candidates_outside}
use Rattle.verifier.proofs.roster.Roster.candidates.Goals as goal

pub returns : goal.returns
returns c =
    let r = c.args.self.now in
    let m = meaning_of r in
    let f = candidates m in
    gathered_all m.survey f r.survey.neighbours.most (candidates_outside r) c.fold.result
    (gathered_by_fold c.empty.result c.fold.result c.fold.ensures.ran
    (YieldsList-from_passing f m.survey.count c.filter.ensures.source c.new.ensures.start (c.new.ensures.end ∙ c.count.ensures.value) c.new.ensures.exhausted
    c.filter.ensures.closure (λ x b q k. search rules))
    (λ a x b q k. search rules) c.empty.ensures)
