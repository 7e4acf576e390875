-- What thinning drops: sensors that were untried, each but once, and nothing else.
use Rattle.std.proofs.Common.{◌≡◌, ℕ, ◌≤◌, Bool, true, false, not, ◌&&◌, ◌||◌, eqb, List, length, Some, None, Option, sym, refl, ap, ◌∙◌, arith}
use Rattle.std.specs.List.{AllByRecursion}
use Rattle.std.proofs.lemmas.Bool.{both_ways}
use Rattle.field.specs.Arithmetic.{Arithmetic}
use Rattle.matrix.specs.Terms.{Terms}
use Rattle.survey.specs.Lists.{member}
use Rattle.survey.specs.Sets.{leaving}
use Rattle.survey.specs.Surveys.{Survey, Sensors}
use Rattle.survey.proofs.Fences.{Within}
use Rattle.orders.specs.Orders.{Order}
use Rattle.homology.specs.Certificate.{HasFilling}
use Rattle.runs.specs.Refusals.{how_many, store_refusal}
use Rattle.runs.specs.Thinning.{Thinning, Stopped}
use Rattle.runs.specs.Thinning.Thinning.{finished, drops, keeps}
use Rattle.runs.specs.Thinning.Stopped.{at_end, at_trial, past_drop, past_keep}
use Rattle.runs.specs.Calls.Step.{thin_done}
use Rattle.runs.specs.Theorems.{ThinDrops, StopsAtTrial}
use Rattle.runs.proofs.Counts.{leaving_other, leaving_inside, how_many_picked}

module _ (s : Survey) (F : Arithmetic) (K : Terms) (O : Order s) where
  -- one that is on at the end was on before
  pub last_inside : (untried on last : Sensors) (dropped : List ℕ) → Thinning s F K O untried on dropped last → (x : ℕ) → last x ≡ true → on x ≡ true
  last_inside _ _ _ _ (finished untried on e r) x h = h
  last_inside _ _ _ _ (drops untried on y more last e r g rest) x h = leaving_inside on y x (last_inside _ _ _ _ rest x h)
  last_inside _ _ _ _ (keeps untried on y more last e r g rest) x h = last_inside _ _ _ _ rest x h

  pub last_fills : (untried on last : Sensors) (dropped : List ℕ) → Thinning s F K O untried on dropped last → HasFilling s on F → HasFilling s last F
  last_fills _ _ _ _ (finished untried on e r) h = h
  last_fills _ _ _ _ (drops untried on y more last e r g rest) h = last_fills _ _ _ _ rest g
  last_fills _ _ _ _ (keeps untried on y more last e r g rest) h = last_fills _ _ _ _ rest h

  -- one that is not up for trial stays
  pub others_stay : (x : ℕ) (untried on last : Sensors) (dropped : List ℕ) → Thinning s F K O untried on dropped last → untried x ≡ false → on x ≡ true → last x ≡ true
  others_stay x _ _ _ _ (finished untried on e r) u h = h
  others_stay x _ _ _ _ (drops untried on y more last e r g rest) u h =
      let other : ¬ (x ≡ y) = λ q. both_ways _ u (ap untried q ∙ (O.among untried y e).2) in
      others_stay x _ _ _ _ rest (leaving_other untried y x other ∙ u) (leaving_other on y x other ∙ h)
  others_stay x _ _ _ _ (keeps untried on y more last e r g rest) u h =
      let other : ¬ (x ≡ y) = λ q. both_ways _ u (ap untried q ∙ (O.among untried y e).2) in
      others_stay x _ _ _ _ rest (leaving_other untried y x other ∙ u) h

  -- what is on at the end is what was on, without the dropped
  pub last_is : (untried on last : Sensors) (dropped : List ℕ) → Thinning s F K O untried on dropped last → (x : ℕ) → last x ≡ (on x && not (member x dropped))
  last_is _ _ _ _ (finished untried on e r) x = same (on x)
    where
      same : (b : Bool) → b ≡ (b && not false)
      same true = refl
      same false = refl
  last_is _ _ _ _ (drops untried on y more last e r g rest) x = last_is _ _ _ _ rest x ∙ regroup (on x) (eqb x y) (member x more)
    where
      regroup : (a b c : Bool) → ((not b && a) && not c) ≡ (a && not (b || c))
      regroup true true c = refl
      regroup true false c = refl
      regroup false true c = refl
      regroup false false c = refl
  last_is _ _ _ _ (keeps untried on y more last e r g rest) x = last_is _ _ _ _ rest x

  -- no more are dropped than were up for trial
  pub dropped_few : (untried on last : Sensors) (dropped : List ℕ) → Thinning s F K O untried on dropped last → length dropped ≤ how_many s untried
  dropped_few _ _ _ _ (finished untried on e r) = omega arith
  dropped_few _ _ _ _ (drops untried on y more last e r g rest) = omega (arith, how_many_picked s O untried y e, dropped_few _ _ _ _ rest)
  dropped_few _ _ _ _ (keeps untried on y more last e r g rest) = omega (arith, how_many_picked s O untried y e, dropped_few _ _ _ _ rest)

  -- and all are the survey's sensors
  pub dropped_within : (untried on last : Sensors) (dropped : List ℕ) → Thinning s F K O untried on dropped last → AllByRecursion (Within s.count) dropped
  dropped_within _ _ _ _ (finished untried on e r) = tt
  dropped_within _ _ _ _ (drops untried on y more last e r g rest) = let a = O.among untried y e in ((a.0, a.1), dropped_within _ _ _ _ rest)
  dropped_within _ _ _ _ (keeps untried on y more last e r g rest) = dropped_within _ _ _ _ rest

pub thin_drops_lem : ThinDrops
thin_drops_lem s on then F laws K O L c dropped (thin_done _ _ _ _ _ _ last e h thinning) x = last_is s F K O _ on then dropped thinning x

module _ (s : Survey) (F : Arithmetic) (K : Terms) (O : Order s) (k : ℕ) where
  at_trial_only : (untried on : Sensors) → store_refusal s F K on ≡ None → Stopped s F K O k untried on → (tried : Sensors) × (x : ℕ) × (store_refusal s F K (leaving x tried) ≡ Some k)
  at_trial_only _ _ h (at_end untried on e r) = absurd (let n : ◌≡◌ {A = Option ℕ} None (Some k) = sym h ∙ r in let z : ◌≡◌ {A = ℕ} 0 1 = cc in omega arith)
  at_trial_only _ _ h (at_trial untried on x e r) = (on, x, r)
  at_trial_only _ _ h (past_drop untried on x e r g rest) = at_trial_only _ _ r rest
  at_trial_only _ _ h (past_keep untried on x e r g rest) = at_trial_only _ _ h rest

pub stops_at_trial_lem : StopsAtTrial
stops_at_trial_lem s F K O k untried on h stop = at_trial_only s F K O k untried on h stop
