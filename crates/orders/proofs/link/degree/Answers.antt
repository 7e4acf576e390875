-- The links are those of the numbers that pass the test.
use Rattle.std.proofs.Common.{◌≡◌, ◌≤◌, ℕ, Bool, true, false, cond, List, [], ◌∷◌, length, refl, ◌∙◌, arith, rules}
use Rattle.std.specs.Int.{from_bool}
use Rattle.survey.specs.Plans.{survey_of}
use Rattle.survey.specs.Surveys.{Survey}
use Rattle.survey.proofs.Ranges.{added, added_fits, below_next}
use Rattle.orders.proofs.link.degree.Goals as goal

-- y, if x has a link to it
abbrev link_to : Survey → ℕ → ℕ → List ℕ
link_to s x y = cond (s.linked x y) (y ∷ []) []

one : (b : Bool) (y : ℕ) → from_bool b ≡ length (cond b (y ∷ []) [])
one true y = refl
one false y = refl

few : (b : Bool) (y : ℕ) → length (cond b (y ∷ []) []) ≤ 1
few true y = omega arith
few false y = omega arith

pub sum-requires-clause-fits : goal.sum-requires-clause-fits
sum-requires-clause-fits c =
    let s = survey_of c.args.survey.now in
    let x = c.args.x in
    added_fits s.count (link_to s x) (below_next refl c.count.ensures.value) c.map.ensures.source c.map.ensures.closure
    (λ y r f k. let a : (f ≡ _) × (r ≡ from_bool (s.linked x y)) = search rules in (a.0, a.1 ∙ one (s.linked x y) y)) 1 _ (λ y. few (s.linked x y) y) (omega (arith, c.count.ensures.rules.most))

pub returns : goal.returns
returns c =
    let s = survey_of c.args.survey.now in
    let x = c.args.x in
    added s.count (link_to s x) (below_next refl c.count.ensures.value) c.map.ensures.source c.map.ensures.closure
    (λ y r f k. let a : (f ≡ _) × (r ≡ from_bool (s.linked x y)) = search rules in (a.0, a.1 ∙ one (s.linked x y) y)) c.sum.ensures.ran
