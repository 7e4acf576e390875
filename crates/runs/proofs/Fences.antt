-- The sensors on are the survey's and keep the fence, in every run.
use Rattle.std.proofs.Common.{◌≡◌, ℕ, true, false, eqb, List, [], ◌∷◌, None, sym, refl, ap, ◌∙◌, inl, inr}
use Rattle.std.specs.List.{AllByRecursion}
use Rattle.std.proofs.lemmas.Bool.{both_ways, and_parts, and_from, and_right, or_cases, or_right, eqb-true, leb-true, le-leb, not_from_true}
use Rattle.survey.specs.Lists.{member}
use Rattle.survey.specs.Sets.{KeepsFence, all_of, fenced}
use Rattle.survey.specs.Surveys.{Survey, Sensors, Valid, nobody}
use Rattle.survey.proofs.Fences.{Within, distinct_within}
use Rattle.homology.proofs.Growing.{true_from, from_true}
use Rattle.runs.specs.Refusals.{off_refusal, on_refusal}
use Rattle.runs.specs.Calls.{Answer, Call, Step}
use Rattle.runs.specs.Calls.Step.{off_refused, off_done, on_refused, on_done, certify_refused, certify_done, thin_refused, thin_open, thin_stopped, thin_done}
use Rattle.runs.specs.Runs.{Run}
use Rattle.runs.specs.Runs.Run.{begins, goes_on}
use Rattle.runs.specs.Theorems.{FenceStaysOn}
use Rattle.runs.proofs.Refusals.{passed, failed}
use Rattle.runs.proofs.Counts.{leaving_other, leaving_inside}
use Rattle.runs.proofs.Drops.{last_inside, others_stay}

module _ (s : Survey) where
  all_within : (x : ℕ) → all_of s x ≡ true → Within s.count x
  all_within x t = let p = and_parts _ _ t in (leb-true 1 x p.0, leb-true x s.count p.1)

  -- what is switched on is a sensor, and what is switched off is not on the fence
  on_sensor : (on : Sensors) (x : ℕ) → on_refusal s on x ≡ None → all_of s x ≡ true
  on_sensor on x e = (passed (all_of s x) _ _ e).0

  off_free : (on : Sensors) (x : ℕ) → off_refusal s on x ≡ None → fenced s x ≡ false
  off_free on x e = failed (fenced s x) _ _ (passed (all_of s x) _ _ e).1

  within_step : (on : Sensors) (call : Call s) (a : Answer) (then : Sensors) → Step s on call a then
      → ((x : ℕ) → on x ≡ true → Within s.count x) → (x : ℕ) → then x ≡ true → Within s.count x
  within_step on _ _ _ (off_refused y k e) h x t = h x t
  within_step on _ _ _ (off_done y e) h x t = h x (leaving_inside on y x t)
  within_step on _ _ _ (on_refused y k e) h x t = h x t
  within_step on _ _ _ (on_done y e) h x t = elim (or_cases (eqb x y) (on x) t) [
    | inl q ↦ all_within x (ap (all_of s) (eqb-true x y q) ∙ on_sensor on y e)
    | inr q ↦ h x q
  ]
  within_step on _ _ _ (certify_refused F laws K L k e) h x t = h x t
  within_step on _ _ _ (certify_done F laws K L e) h x t = h x t
  within_step on _ _ _ (thin_refused F laws K O L k e) h x t = h x t
  within_step on _ _ _ (thin_open F laws K O L e n) h x t = h x t
  within_step on _ _ _ (thin_stopped F laws K O L k e g stop) h x t = h x t
  within_step on _ _ _ (thin_done F laws K O L dropped last e g thinning) h x t = h x (last_inside s F K O _ on last dropped thinning x t)

  pub within_run : (calls : List (Call s)) (on : Sensors) → Run s calls on → (x : ℕ) → on x ≡ true → Within s.count x
  within_run _ _ begins x t = all_within x t
  within_run _ _ (goes_on calls on call a then run step) x t = within_step on call a then step (within_run calls on run) x t

  fence_step : (on : Sensors) (call : Call s) (a : Answer) (then : Sensors) → Step s on call a then
      → (x : ℕ) → fenced s x ≡ true → on x ≡ true → then x ≡ true
  fence_step on _ _ _ (off_refused y k e) x t h = h
  fence_step on _ _ _ (off_done y e) x t h = leaving_other on y x (λ q. both_ways _ (off_free on y e) (sym (ap (fenced s) q) ∙ t)) ∙ h
  fence_step on _ _ _ (on_refused y k e) x t h = h
  fence_step on _ _ _ (on_done y e) x t h = or_right _ _ h
  fence_step on _ _ _ (certify_refused F laws K L k e) x t h = h
  fence_step on _ _ _ (certify_done F laws K L e) x t h = h
  fence_step on _ _ _ (thin_refused F laws K O L k e) x t h = h
  fence_step on _ _ _ (thin_open F laws K O L e n) x t h = h
  fence_step on _ _ _ (thin_stopped F laws K O L k e g stop) x t h = h
  fence_step on _ _ _ (thin_done F laws K O L dropped last e g thinning) x t h =
      others_stay s F K O x _ on last dropped thinning (and_right (on x) _ (not_from_true _ t)) h

  fence_run : KeepsFence s (all_of s) → (calls : List (Call s)) (on : Sensors) → Run s calls on → (x : ℕ) → fenced s x ≡ true → on x ≡ true
  fence_run whole _ _ begins x t = true_from _ (whole x (from_true _ t))
  fence_run whole _ _ (goes_on calls on call a then run step) x t = fence_step on call a then step x t (fence_run whole calls on run x t)

pub fence_stays_on_lem : FenceStaysOn
fence_stays_on_lem s whole calls on run x t = from_true _ (fence_run s whole calls on run x (true_from _ t))

-- the fence of a valid survey is made of its sensors
pub valid_fence : (s : Survey) → Valid s → KeepsFence s (all_of s)
valid_fence s v x t = from_true _ (go s.fence (distinct_within s.count nobody s.fence v.different) (true_from _ t))
  where
    go : (xs : List ℕ) → AllByRecursion (Within s.count) xs → member x xs ≡ true → all_of s x ≡ true
    go [] h m = absurd (both_ways _ refl m)
    go (y ∷ ys) h m = elim (or_cases (eqb x y) (member x ys) m) [
      | inl e ↦ ap (all_of s) (eqb-true x y e) ∙ and_from _ _ (le-leb 1 y h.0.0) (le-leb y s.count h.0.1)
      | inr q ↦ go ys h.1 q
    ]
