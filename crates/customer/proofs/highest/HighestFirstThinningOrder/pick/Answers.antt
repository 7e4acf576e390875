-- The search stops at the first candidate from above.
use Rattle.std.proofs.Common.{◌≡◌, ℕ, zero, suc, ◌+◌, ◌-◌, cond, List, ◌∷◌, length, map, Some, None, sym, refl, ap, ap₂, ◌∙◌, subst, arith, rules}
use Rattle.std.proofs.iter.runs.Sources.{nat_range_steps_back}
use Rattle.std.proofs.lemmas.Iterator.{YieldsList, YieldsList-from_map}
use Rattle.std.proofs.lemmas.Iterator.Adapters.{option_map_id}
use Rattle.std.proofs.lemmas.Iterator.Consumers.{YieldsList-at, YieldsList-from_shown}
use Rattle.std.proofs.lemmas.Iterator.Search.{find_from_yields_List}
use Rattle.std.specs.Iterator.Adapters.{rev_source, rev_steps}
use Rattle.std.specs.List.{find}
use Rattle.std.specs.declared.iter.Rev.{Rev}
use Rattle.std.specs.declared.ops.Range.{Range}
use Rattle.survey.specs.Plans.{survey_of}
use Rattle.survey.specs.Sets.{set_of}
use Rattle.survey.specs.Surveys.{Sensors}
use Rattle.survey.proofs.Numbers.{falling}
use Rattle.customer.specs.Highest.{highest}
use Rattle.customer.proofs.highest.HighestFirstThinningOrder.pick.Goals as goal

-- what a range gives from its end down
abbrev left : Rev (Range ℕ) → List ℕ
left r = falling ((rev_source r).end - 1) ((rev_source r).end - (rev_source r).start)

left_none : (r u : Rev (Range ℕ)) → rev_steps nat_range_steps_back r None u → length (left r) ≡ 0
left_none r u h = ap (λ n. length (falling ((rev_source r).end - 1) n)) h.1.0

left_some : (r : Rev (Range ℕ)) (x : ℕ) (u : Rev (Range ℕ)) → rev_steps nat_range_steps_back r (Some x) u → left r ≡ x ∷ left u
left_some r x u h =
    let s = rev_source r in
    let t = rev_source u in
    let n : s.end - s.start ≡ suc (t.end - t.start) = omega (arith, h.0, h.1.0, h.1.2) in
    let first : s.end - 1 ≡ x = omega (arith, h.1.1, h.1.2) in
    let next : s.end - 1 - 1 ≡ t.end - 1 = omega (arith, h.1.2) in
    ap (falling (s.end - 1)) n ∙ ap₂ {C = List ℕ} (λ y l. y ∷ l) first (ap (λ k. falling k (t.end - t.start)) next)

-- `(0..n).rev()` gives n - 1 to 0
from_above : {r : Rev (Range ℕ)} {m n : ℕ} → rev_source r ≡ record { start = 0; end = m } → m ≡ n → YieldsList (rev_steps nat_range_steps_back) (λ x. x) r (falling (n - 1) n)
from_above {r} {m} {n} e same =
    let all : m - 0 ≡ n = omega (arith, same) in
    subst (λ l. YieldsList (rev_steps nat_range_steps_back) (λ x. x) r l) (ap (λ t. falling (t.end - 1) (t.end - t.start)) e ∙ ap₂ (λ k j. falling (k - 1) j) same all)
    (YieldsList-from_shown (rev_steps nat_range_steps_back) (λ x. x) left left_none left_some r)

find_highest : (p : Sensors) (n : ℕ) → find p (map (λ x. x + 1) (falling (n - 1) n)) ≡ highest p n
find_highest p zero = refl
find_highest p (suc n) =
    let top : suc n - 1 ≡ n = omega arith in
    let number : n + 1 ≡ suc n = omega arith in
    ap (λ k. find p (map (λ x. x + 1) (falling k (suc n)))) top ∙ ap₂ (λ k o. cond (p k) (Some k) o) number (find_highest p n)

pub returns : goal.returns
returns c =
    let n = (survey_of c.args.survey.now).count in
    let p = set_of c.args.candidates.now in
    sym (option_map_id c.find.result)
    ∙ find_from_yields_List p _ _ c.find.result c.find.ensures.ran
    (YieldsList-from_map _ (λ x. x + 1) (YieldsList-at c.map.ensures.source (from_above c.rev.ensures.source c.count.ensures.value)) c.map.ensures.closure (λ x r q k. search rules))
    (λ x b q k. search rules)
    ∙ find_highest p n
