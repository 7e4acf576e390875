-- Every sensor begins on; then those of the fence are marked.
use Rattle.std.proofs.Common.{◌≡◌, ℕ, ◌<◌, Bool, List, length, get_or, refl, ap, ◌∙◌, subst, arith, length-set}
use Rattle.survey.specs.declared.plan.Survey.{Survey as Plan}
use Rattle.survey.specs.Plans.{survey_of}
use Rattle.survey.specs.Surveys.{nobody}
use Rattle.survey.proofs.Fences.{getD_within}
use Rattle.verifier.proofs.Tables.{marked_none, marked_more, all_on_none, all_on_more, on_is_all}
use Rattle.verifier.proofs.roster.Roster.new.Goals as goal

-- a sensor of the fence has a record
in_table : (p : Plan) (fence : List ℕ) (i : ℕ) → fence ≡ (survey_of p).fence → i < length fence → get_or fence i 0 < 65
in_table p fence i e l =
    let within = getD_within p.neighbours.count nobody (survey_of p).fence i p.rules.different (subst (λ (f : List ℕ). i < length f) e l) in
    let same : get_or fence i 0 ≡ get_or (survey_of p).fence i 0 = ap (λ (f : List ℕ). get_or f i 0) e in
    omega (arith, within.1, p.neighbours.most)

pub loop-x-init : goal.loop-x-init
loop-x-init c = (refl, marked_none 65 _ refl, all_on_none 65 _ refl)

pub bounds-sensors-x : goal.bounds-sensors-x
bounds-sensors-x c = in_table c.args.survey c.fence-x-items.result.now c.loop-x.x-index c.fence-x-items.ensures c.loop-x-test.true

pub loop-x-preserved : goal.loop-x-preserved
loop-x-preserved c =
    let fence = c.fence-x-items.result.now in
    let i = c.loop-x.x-index in
    let sensors = c.loop-x.sensors in
    let few : get_or fence i 0 < length sensors = omega (arith, in_table c.args.survey fence i c.fence-x-items.ensures c.loop-x-test.true, c.loop-x.invariant.0) in (
      length-set sensors (get_or fence i 0) _ ∙ c.loop-x.invariant.0,
      marked_more fence i sensors _ c.loop-x-test.true few c.set_state.ensures c.loop-x.invariant.1,
      all_on_more 65 sensors (get_or fence i 0) _ few c.set_state.ensures c.loop-x.invariant.2,
    )

pub returns : goal.returns
returns c =
    ap (λ (f : ℕ → Bool). record { survey = survey_of c.args.survey; on = f }) (on_is_all (survey_of c.args.survey) c.loop-x.sensors c.args.survey.neighbours.most c.loop-x.invariant.2)
