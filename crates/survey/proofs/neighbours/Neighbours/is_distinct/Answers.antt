-- One sensor more is met, and the rest is judged by it.
use Rattle.std.proofs.Common.{rules, ◌≡◌, ◌+◌, true, not, ◌&&◌, leb, get_or, drop, sym, ap, ◌∙◌}
use Rattle.survey.specs.Sets.{set_of}
use Rattle.survey.specs.Surveys.{distinct, Sensors}
use Rattle.survey.proofs.Fences.{distinct_met, joining_sensor}
use Rattle.survey.proofs.neighbours.Neighbours.is_distinct.Goals as goal

pub loop-x-init : goal.loop-x-init
loop-x-init c = ap (λ (m : Sensors). distinct c.args.self.now.count m c.args.fence.now) c.empty-met.ensures

pub loop-x-preserved : goal.loop-x-preserved
loop-x-preserved c =
    let n = c.args.self.now in
    let met = set_of c.loop-x.met in
    let fence = c.args.fence.now in
    let i = c.loop-x.x-index in
    let x = get_or fence i 0 in
    let new : (leb 1 x && leb x n.count && not (met x)) ≡ true = search rules in
    ap (λ (m : Sensors). distinct n.count m (drop (i + 1) fence)) (c.insert.ensures ∙ joining_sensor n.count x met new n.most)
    ∙ sym (distinct_met n.count met fence i true c.loop-x-test.true (sym new)) ∙ c.loop-x.invariant
