-- Thinning is minimal: a sensor that was tried and stays cannot be missed, since fillings grow with the set.
use Rattle.std.proofs.Common.{◌≡◌, ℕ, true, false, List, sym, ap, ◌∙◌, inl, inr}
use Rattle.std.proofs.lemmas.Bool.{cases_eq, cases_Bool, both_ways, and_from, not_from_false}
use Rattle.field.specs.Arithmetic.{Arithmetic, FieldLaws}
use Rattle.matrix.specs.Terms.{Terms}
use Rattle.survey.specs.Sets.{KeepsFence, fenced, leaving}
use Rattle.survey.specs.Surveys.{Survey, Sensors}
use Rattle.survey.proofs.Fences.{Within}
use Rattle.orders.specs.Orders.{Order}
use Rattle.homology.specs.Certificate.{HasFilling}
use Rattle.homology.proofs.Growing.{true_from, from_true, fillings_grow_lem}
use Rattle.runs.specs.Refusals.{candidates}
use Rattle.runs.specs.Thinning.{Thinning}
use Rattle.runs.specs.Thinning.Thinning.{finished, drops, keeps}
use Rattle.runs.specs.Calls.Step.{thin_done}
use Rattle.runs.specs.Runs.{Smaller, ThinIsMinimal}
use Rattle.runs.proofs.Counts.{leaving_other, leaving_self}
use Rattle.runs.proofs.Drops.{last_inside, last_fills}
use Rattle.runs.proofs.Fences.{within_run}

module _ (s : Survey) (F : Arithmetic) (laws : FieldLaws F) (K : Terms) (O : Order s) where
  module _ (x : ℕ) (within : Within s.count x) (fewer : Sensors) (fence : KeepsFence s fewer) (gone : fewer x ≡ false) where
    tried_stays : (untried on last : Sensors) (dropped : List ℕ) → Thinning s F K O untried on dropped last
        → untried x ≡ true → last x ≡ true → ((y : ℕ) → fewer y ≡ true → last y ≡ true) → HasFilling s fewer F → ⊥
    tried_stays _ _ _ _ (finished untried on e r) u h sub fill = both_ways _ (O.none untried e x within.0 within.1) u
    tried_stays _ _ _ _ (drops untried on y more last e r g rest) u h sub fill = elim (cases_eq x y) [
      | inl q ↦ both_ways _ (leaving_self on y) (sym (ap (leaving y on) q) ∙ last_inside s F K O _ _ _ _ rest x h)
      | inr n ↦ tried_stays _ _ _ _ rest (leaving_other untried y x n ∙ u) h sub fill
    ]
    tried_stays _ _ _ _ (keeps untried on y more last e r g rest) u h sub fill = elim (cases_eq x y) [
      | inr n ↦ tried_stays _ _ _ _ rest (leaving_other untried y x n ∙ u) h sub fill
      | inl q ↦ g (fillings_grow_lem s fewer (leaving y on) F laws (λ z t. elim (cases_eq z y) [
        | inl o ↦ absurd (both_ways _ gone (ap fewer (q ∙ sym o) ∙ true_from _ t))
        | inr n ↦ from_true _ (leaving_other on y z n ∙ last_inside s F K O _ _ _ _ rest z (sub z (true_from _ t)))
      ]) fence fill)
    ]

  minimal_thinning : (on : Sensors) → ((x : ℕ) → on x ≡ true → Within s.count x) → (last : Sensors) (dropped : List ℕ)
      → HasFilling s on F → Thinning s F K O (candidates s on) on dropped last
      → HasFilling s last F × ((fewer : Sensors) → Smaller fewer last → KeepsFence s fewer → HasFilling s fewer F → ⊥)
  minimal_thinning on within last dropped h thinning = (
    last_fills s F K O _ on last dropped thinning h,
    λ fewer small fence fill.
        let x = small.missing in
        let there : last x ≡ true = true_from _ small.there in
        let was : on x ≡ true = last_inside s F K O _ on last dropped thinning x there in
        let free : fenced s x ≡ false = elim (cases_Bool (fenced s x)) [ inr f ↦ f | inl t ↦ absurd (both_ways _ small.gone (true_from _ (fence x (from_true _ t)))) ] in
        tried_stays x (within x was) fewer fence small.gone _ on last dropped thinning (and_from _ _ was (not_from_false _ free)) there
        (λ y t. true_from _ (small.inside y (from_true _ t))) fill,
  )

pub thin_is_minimal : (s : Survey) → ThinIsMinimal s
thin_is_minimal s calls on then F laws K O L c dropped run (thin_done _ _ _ _ _ _ last e h thinning) =
    minimal_thinning s F laws K O on (within_run s calls on run) then dropped h thinning
