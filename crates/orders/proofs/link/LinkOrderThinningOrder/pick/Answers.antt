-- The key is the number of links.
use Rattle.std.proofs.Common.{refl, ◌∙◌, rules}
use Rattle.std.proofs.lemmas.Iterator.Consumers.{YieldsList-at, YieldsList-from_filter}
use Rattle.survey.specs.Plans.{survey_of}
use Rattle.survey.specs.Sets.{set_of}
use Rattle.survey.specs.Surveys.{degree, sensors}
use Rattle.survey.proofs.Ranges.{below_next}
use Rattle.orders.proofs.Chains.{least_filtered, least_from_min_by_key}
use Rattle.orders.proofs.link.LinkOrderThinningOrder.pick.Goals as goal

pub returns : goal.returns
returns c =
    let s = survey_of c.args.survey.now in
    let p = set_of c.args.candidates.now in
    least_from_min_by_key (degree s) _ _ (λ x k q h. search rules) c.min_by_key.result c.min_by_key.ensures.ran
    (YieldsList-from_filter _ p (YieldsList-at c.filter.ensures.source (below_next refl c.count.ensures.value)) c.filter.ensures.closure (λ x b q k. search rules))
    ∙ least_filtered (degree s) p (sensors s)
