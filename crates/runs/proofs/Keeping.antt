-- A run that goes on by a step keeps its promises.
use Rattle.std.proofs.Common.{List, ◌∷◌, refl}
use Rattle.field.specs.Arithmetic.{Arithmetic, FieldLaws}
use Rattle.survey.specs.Surveys.{Survey, Sensors}
use Rattle.complex.specs.Boundaries.{system}
use Rattle.homology.specs.Certificate.{certificate}
use Rattle.homology.proofs.Certificates.{survey_coded, certificate_published_lem, one_published_lem}
use Rattle.homology.proofs.Ending.{reduction_ends_lem}
use Rattle.runs.specs.Calls.{Call, Answer, Step}
use Rattle.runs.specs.Calls.Step.{off_refused, off_done, on_refused, on_done, certify_refused, certify_done, thin_refused, thin_open, thin_stopped, thin_done}
use Rattle.runs.specs.Runs.{Run}
use Rattle.runs.specs.Runs.Run.{goes_on}
use Rattle.runs.specs.Promises.{Decided, Tells}
use Rattle.runs.specs.Theorems.{KeepsPromises}
use Rattle.runs.proofs.Trials.{filled_true}
use Rattle.runs.proofs.Drops.{last_is}
use Rattle.runs.proofs.Fences.{valid_fence, fence_stays_on_lem}
use Rattle.runs.proofs.Every.{published_solves, published_separates, never_both, every_run_lem}

-- the certificate of a survey decides, whatever the sensors on
pub decided : (s : Survey) (on : Sensors) (F : Arithmetic) → FieldLaws F → Decided s on F (certificate s on F)
decided s on F laws =
    let published = certificate_published_lem s on F laws in
    record {
      fills = published_solves s on F (certificate s on F) published;
      blocks = published_separates s on F (certificate s on F) published;
      filled = filled_true s on F laws;
      never_both = never_both s on F laws;
      is = refl;
      published = published;
      only = λ e p. one_published_lem s on F laws (certificate s on F) e published p;
      few_additions = (reduction_ends_lem F laws (system s on F) (survey_coded F laws s on)).few;
    }

module _ (s : Survey) where
  tells : (calls : List (Call s)) (on : Sensors) (call : Call s) (a : Answer) (then : Sensors)
      → Run s calls on → Step s on call a then → Tells s on call a then
  tells calls on _ _ _ run (off_refused x k e) = refl
  tells calls on _ _ _ run (off_done x e) = refl
  tells calls on _ _ _ run (on_refused x k e) = refl
  tells calls on _ _ _ run (on_done x e) = refl
  tells calls on _ _ _ run (certify_refused F laws K L k e) = refl
  tells calls on _ _ _ run (certify_done F laws K L e) = (refl, decided s on F laws)
  tells calls on _ _ _ run (thin_refused F laws K O L k e) = refl
  tells calls on _ _ _ run (thin_open F laws K O L e n) = refl
  tells calls on _ _ _ run (thin_stopped F laws K O L k e h stop) = refl
  tells calls on _ _ _ run (thin_done F laws K O L dropped last e h thinning) =
      let least = every_run_lem.minimal s calls on last F laws K O L (certificate s last F) dropped run (thin_done F laws K O L dropped last e h thinning) in
      record { filled = least.0; minimal = least.1; drops = last_is s F K O _ on last dropped thinning; decided = decided s last F laws }

pub keeps_promises_lem : KeepsPromises
keeps_promises_lem s valid calls on call a then run step =
    let more : Run s (call ∷ calls) then = goes_on calls on call a then run step in
    record {
      run = more;
      tallied = every_run_lem.tallied s (call ∷ calls) then more;
      fence = fence_stays_on_lem s (valid_fence s valid) (call ∷ calls) then more;
      tells = tells s calls on call a then run step;
    }
