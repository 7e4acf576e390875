-- Each call has one step: to the answer and the sensors that are worked out for it.
use Rattle.std.proofs.Common.{◌≡◌, ℕ, Bool, true, false, cond, Some, None, Option, sym, refl, ap, ◌∙◌, subst₂}
use Rattle.std.proofs.lemmas.Bool.{cond-true, cond-false}
use Rattle.refusal.specs.declared.Refusal.TheVariants.{NoFilling}
use Rattle.refusal.specs.Numbers.{number_of}
use Rattle.refusal.specs.Outcomes.{Outcome, accepted, refused}
use Rattle.field.specs.Arithmetic.{Arithmetic, FieldLaws}
use Rattle.matrix.specs.Terms.{Terms}
use Rattle.survey.specs.Sets.{leaving}
use Rattle.survey.specs.Surveys.{Survey, Sensors}
use Rattle.orders.specs.Orders.{Order}
use Rattle.homology.specs.Certificate.{HasFilling, certificate}
use Rattle.homology.proofs.Certificates.{certificate_decides_lem}
use Rattle.runs.specs.Refusals.{Room, unless, candidates, off_refusal, on_refusal, certify_refusal, early_refusal}
use Rattle.runs.specs.Thinning.{Dropping, thinning}
use Rattle.runs.specs.Calls.{including, Answer, answered, on_after, Call, Step, off_outcome, on_outcome, certify_outcome, thin_outcome, thinned_by, answer, after}
use Rattle.runs.specs.Calls.Answer.{done, certified}
use Rattle.runs.specs.Calls.Call.{switch_off, switch_on, certify, thin}
use Rattle.runs.specs.Calls.Step.{off_refused, off_done, on_refused, on_done, certify_refused, certify_done, thin_refused, thin_open, thin_stopped, thin_done}
use Rattle.runs.specs.Theorems.{OneStep}
use Rattle.runs.proofs.Refusals.{unless_none, unless_some}
use Rattle.runs.proofs.Trials.{filled_true, filled_false, Comes, thinning_accepted, thinning_refused, thinning_comes}

module _ (s : Survey) (on : Sensors) where
  pub off_step : (x : ℕ) → Step s on (switch_off x) (answered (λ _. done) (off_outcome s on x)) (on_after (λ p. p) (off_outcome s on x) on)
  off_step x = go (off_refusal s on x) refl
    where
      go : (r : Option ℕ) → off_refusal s on x ≡ r → let o = unless r (accepted (leaving x on)) in
          Step s on (switch_off x) (answered (λ _. done) o) (on_after (λ p. p) o on)
      go None e = off_done x e
      go (Some k) e = off_refused x k e

  pub on_step : (x : ℕ) → Step s on (switch_on x) (answered (λ _. done) (on_outcome s on x)) (on_after (λ p. p) (on_outcome s on x) on)
  on_step x = go (on_refusal s on x) refl
    where
      go : (r : Option ℕ) → on_refusal s on x ≡ r → let o = unless r (accepted (including x on)) in
          Step s on (switch_on x) (answered (λ _. done) o) (on_after (λ p. p) o on)
      go None e = on_done x e
      go (Some k) e = on_refused x k e

  module _ (F : Arithmetic) (laws : FieldLaws F) (K : Terms) where
    pub certify_step : (L : Room) → Step s on (certify F laws K L) (answered certified (certify_outcome s F K on L)) on
    certify_step L = go (certify_refusal s F K on L) refl
      where
        go : (r : Option ℕ) → certify_refusal s F K on L ≡ r → Step s on (certify F laws K L) (answered certified (unless r (accepted (certificate s on F)))) on
        go None e = certify_done F laws K L e
        go (Some k) e = certify_refused F laws K L k e

    module _ (O : Order s) (L : Room) where
      -- a thin that comes to the outcome o
      abbrev Thins : Outcome Dropping → Type 0
      Thins o = Step s on (thin F laws K O L) (answered (thinned_by s F) o) (on_after (λ d. d.last) o on)

      thins : early_refusal s F K on L ≡ None → HasFilling s on F → (o : Outcome Dropping) → Comes s F K O laws (candidates s on) on o → Thins o
      thins e h (accepted d) t = thin_done F laws K O L d.dropped d.last e h t
      thins e h (refused k) t = thin_stopped F laws K O L k e h t

      pub thin_step : Thins (thin_outcome s F K O on L)
      thin_step = go (early_refusal s F K on L) (certificate s on F).filled refl refl
        where
          go : (r : Option ℕ) (b : Bool) → early_refusal s F K on L ≡ r → (certificate s on F).filled ≡ b
              → Thins (unless r (cond b (thinning s F K O (candidates s on) on) (refused (number_of NoFilling))))
          go (Some k) b e f = thin_refused F laws K O L k e
          go None true e f = thins e ((certificate_decides_lem s on F laws).0 f) _ (thinning_comes s F K O laws (candidates s on) on)
          go None false e f = thin_open F laws K O L e ((certificate_decides_lem s on F laws).1 f)

  pub steps : (call : Call s) → Step s on call (answer s on call) (after s on call)
  steps (switch_off x) = off_step x
  steps (switch_on x) = on_step x
  steps (certify F laws K L) = certify_step F laws K L
  steps (thin F laws K O L) = thin_step F laws K O L

  -- a call that answers and leaves what is worked out for it makes its step
  pub step_to : (call : Call s) (a : Answer) (then : Sensors) → a ≡ answer s on call → then ≡ after s on call → Step s on call a then
  step_to call a then p q = subst₂ (λ b n. Step s on call b n) (sym p) (sym q) (steps call)

  -- what an outcome answers and leaves, by an equation
  module _ {A : Type 0} (f : A → Answer) (g : A → Sensors) where
    told : (o p : Outcome A) → o ≡ p → (answered f p ≡ answered f o) × (on_after g p on ≡ on_after g o on)
    told o p e = (ap (answered f) (sym e), ap (λ q. on_after g q on) (sym e))

  -- a thin that has begun comes to what the trials do
  begun : (F : Arithmetic) (K : Terms) (O : Order s) (L : Room) → early_refusal s F K on L ≡ None → (certificate s on F).filled ≡ true
      → thin_outcome s F K O on L ≡ thinning s F K O (candidates s on) on
  begun F K O L e t = unless_none _ _ e ∙ cond-true _ _ _ t

  abbrev Only : Call s → Answer → Sensors → Type 0
  Only call a then = (a ≡ answer s on call) × (then ≡ after s on call)

  pub only : (call : Call s) (a : Answer) (then : Sensors) → Step s on call a then → Only call a then
  only _ _ _ (off_refused x k e) = told (λ _. done) (λ p. p) _ (refused k) (unless_some _ _ k e)
  only _ _ _ (off_done x e) = told (λ _. done) (λ p. p) _ (accepted (leaving x on)) (unless_none _ _ e)
  only _ _ _ (on_refused x k e) = told (λ _. done) (λ p. p) _ (refused k) (unless_some _ _ k e)
  only _ _ _ (on_done x e) = told (λ _. done) (λ p. p) _ (accepted (including x on)) (unless_none _ _ e)
  only _ _ _ (certify_refused F laws K L k e) = (ap (answered certified) (sym (unless_some _ _ k e)), refl)
  only _ _ _ (certify_done F laws K L e) = (ap (answered certified) (sym (unless_none _ _ e)), refl)
  only _ _ _ (thin_refused F laws K O L k e) = told (thinned_by s F) (λ d. d.last) _ (refused k) (unless_some _ _ k e)
  only _ _ _ (thin_open F laws K O L e n) =
      told (thinned_by s F) (λ d. d.last) _ (refused (number_of NoFilling)) (unless_none _ _ e ∙ cond-false _ _ _ (filled_false s on F laws n))
  only _ _ _ (thin_stopped F laws K O L k e h stop) =
      told (thinned_by s F) (λ d. d.last) _ (refused k) (begun F K O L e (filled_true s on F laws h) ∙ thinning_refused s F K O laws k _ on stop)
  only _ _ _ (thin_done F laws K O L dropped last e h t) =
      told (thinned_by s F) (λ d. d.last) _ (accepted (record { dropped = dropped; last = last }))
      (begun F K O L e (filled_true s on F laws h) ∙ thinning_accepted s F K O laws _ on last dropped t)

pub one_step_lem : OneStep
one_step_lem = record { steps = steps; only = only }
