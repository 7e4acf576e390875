-- The search stops at the first candidate.
use Rattle.std.proofs.Common.{◌≡◌, ℕ, zero, suc, ◌+◌, ◌-◌, List, ◌∷◌, map, sym, refl, ap, ◌∙◌, arith, rules}
use Rattle.std.proofs.lemmas.Iterator.{YieldsList-from_map, YieldsList-from_range}
use Rattle.std.proofs.lemmas.Iterator.Adapters.{option_map_id}
use Rattle.std.proofs.lemmas.Iterator.Consumers.{YieldsList-at}
use Rattle.std.proofs.lemmas.Iterator.Search.{find_from_yields_List}
use Rattle.std.specs.List.{find, range_with_len}
use Rattle.survey.specs.Lists.{numbers}
use Rattle.survey.specs.Plans.{survey_of}
use Rattle.survey.specs.Sets.{set_of}
use Rattle.orders.proofs.Chains.{find_least}
use Rattle.orders.proofs.number.NumberOrderThinningOrder.pick.Goals as goal

raised : (a n : ℕ) → map (λ x. x + 1) (range_with_len a n) ≡ numbers (a + 1) n
raised a zero = refl
raised a (suc n) = let s : suc (a + 1) ≡ a + 1 + 1 = omega arith in ap {B = List ℕ} (λ l. (a + 1) ∷ l) (raised (a + 1) n ∙ ap (λ k. numbers k n) (sym s))

pub returns : goal.returns
returns c =
    let n = (survey_of c.args.survey.now).count in
    let p = set_of c.args.candidates.now in
    let all : c.count.result - 0 ≡ n = omega (arith, c.count.ensures.value) in
    sym (option_map_id c.find.result)
    ∙ find_from_yields_List p _ _ c.find.result c.find.ensures.ran
    (YieldsList-from_map _ (λ x. x + 1) (YieldsList-at c.map.ensures.source (YieldsList-from_range 0 c.count.result n refl all)) c.map.ensures.closure (λ x r q k. search rules))
    (λ x b q k. search rules)
    ∙ ap (find p) (raised 0 n)
    ∙ find_least p 1 n
