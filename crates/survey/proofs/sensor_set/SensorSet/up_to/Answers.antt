-- Nobody is below 1, and each turn takes in the next sensor.
use Rattle.std.proofs.Common.{◌≡◌, ℕ, ◌+◌, ◌-◌, ◌≤◌, min, ap, ◌∙◌, arith}
use mathlib.Core.Path.{fun_ext}
use Rattle.std.proofs.lemmas.Bool.Decides.{nat_tests}
use Rattle.survey.specs.Sets.{up_to, joining}
use Rattle.survey.specs.Surveys.{nobody}
use Rattle.survey.proofs.sensor_set.SensorSet.up_to.Goals as goal

up_to_none : (y : ℕ) → nobody y ≡ up_to (1 - 1) y
up_to_none y = grind (arith, nat_tests)

up_to_more : (x y : ℕ) → 1 ≤ x → x ≤ 64 → joining x (up_to (x - 1)) y ≡ up_to (x + 1 - 1) y
up_to_more x y l h = grind (arith, nat_tests)

pub loop-x-init : goal.loop-x-init
loop-x-init c = (c.empty-set.ensures ∙ fun_ext up_to_none, omega arith, omega arith)

pub loop-x-preserved : goal.loop-x-preserved
loop-x-preserved c =
    let x = c.loop-x.x in
    (c.insert.ensures ∙ ap (joining x) c.loop-x.invariant.0 ∙ fun_ext (λ y. up_to_more x y (omega arith) (omega arith)), omega arith, omega arith)

pub returns : goal.returns
returns c = let e : c.loop-x.x - 1 ≡ min c.args.count 64 = omega arith in c.loop-x.invariant.0 ∙ ap up_to e

pub returns-2 : goal.returns-2
returns-2 c =
    let x = c.loop-x.x in
    let e : x + 1 - 1 ≡ min c.args.count 64 = omega arith in
    c.insert.ensures ∙ ap (joining x) c.loop-x.invariant.0 ∙ fun_ext (λ y. up_to_more x y (omega arith) (omega arith)) ∙ ap up_to e
