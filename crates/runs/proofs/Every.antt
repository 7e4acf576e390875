-- What every run keeps, whole.
use Rattle.std.proofs.Common.{◌≡◌, ℕ, true, false, cond, List, refl, ap, ◌∙◌, subst}
use Rattle.field.specs.Arithmetic.{Arithmetic, FieldLaws}
use Rattle.matrix.specs.Terms.{Terms}
use Rattle.survey.specs.Surveys.{Survey, Sensors}
use Rattle.complex.specs.Boundaries.{system}
use Rattle.orders.specs.Orders.{Order}
use Rattle.homology.specs.Linear.{Solution, Separator, GivenSolution, GivenSeparator}
use Rattle.homology.specs.Certificate.{HasFilling, HasBlock, Certificate, certificate, Published, vector}
use Rattle.homology.proofs.Separation.{block_excludes_filling_lem}
use Rattle.homology.proofs.Certificates.{certificate_published_lem}
use Rattle.homology.proofs.Likeness.{alike_same}
use Rattle.runs.specs.Refusals.{Room}
use Rattle.runs.specs.Calls.{Call, Step, after}
use Rattle.runs.specs.Calls.Call.{certify, thin}
use Rattle.runs.specs.Calls.Answer.{certified, thinned}
use Rattle.runs.specs.Calls.Step.{certify_done, thin_done}
use Rattle.runs.specs.Runs.{Run, tally, CertifyDecides, CertificatesArePublished, EveryRun}
use Rattle.runs.specs.Runs.Run.{begins, goes_on}
use Rattle.runs.proofs.Trials.{filled_true}
use Rattle.runs.proofs.Steps.{only}
use Rattle.runs.proofs.Minimal.{thin_is_minimal}

-- a published certificate solves or separates
module _ (s : Survey) (on : Sensors) (F : Arithmetic) (c : Certificate) (p : Published s on F c) where
  pub published_solves : c.filled ≡ true → Solution F (system s on F) (vector c.codes)
  published_solves t =
      let given : GivenSolution F (system s on F) (vector c.codes)
      = subst (λ b. cond b (GivenSolution F (system s on F) (vector c.codes)) (GivenSeparator F (system s on F) (vector c.codes))) t p in
      given.solves

  pub published_separates : c.filled ≡ false → Separator F (system s on F) (vector c.codes)
  published_separates f =
      let given : GivenSeparator F (system s on F) (vector c.codes)
      = subst (λ b. cond b (GivenSolution F (system s on F) (vector c.codes)) (GivenSeparator F (system s on F) (vector c.codes))) f p in
      given.separates

pub never_both : (s : Survey) (on : Sensors) (F : Arithmetic) → FieldLaws F → HasBlock s on F → HasFilling s on F → ⊥
never_both s on F laws b h = block_excludes_filling_lem F laws (system s on F) h.0 b.0 h.1 b.1

module _ (s : Survey) where
  decides : CertifyDecides s
  decides calls on then F laws K L c run (certify_done _ _ _ _ e) = (
    published_solves s on F (certificate s on F) (certificate_published_lem s on F laws),
    published_separates s on F (certificate s on F) (certificate_published_lem s on F laws),
    filled_true s on F laws,
    never_both s on F laws,
  )

  certify_published : (on then : Sensors) (F : Arithmetic) (laws : FieldLaws F) (K : Terms) (L : Room) (c : Certificate)
      → Step s on (certify F laws K L) (certified c) then → (c ≡ certificate s then F) × Published s then F c
  certify_published on then F laws K L c (certify_done _ _ _ _ e) = (refl, certificate_published_lem s on F laws)

  thin_published : (on then : Sensors) (F : Arithmetic) (laws : FieldLaws F) (K : Terms) (O : Order s) (L : Room) (c : Certificate) (dropped : List ℕ)
      → Step s on (thin F laws K O L) (thinned c dropped) then → (c ≡ certificate s then F) × Published s then F c
  thin_published on then F laws K O L c dropped (thin_done _ _ _ _ _ _ last e h thinning) = (refl, certificate_published_lem s last F laws)

  published : CertificatesArePublished s
  published calls on then F laws K O L c run = (certify_published on then F laws K L c, λ dropped. thin_published on then F laws K O L c dropped)

  pub on_tally : (calls : List (Call s)) (on : Sensors) → Run s calls on → on ≡ tally s calls
  on_tally _ _ begins = refl
  on_tally _ _ (goes_on calls on call a then run step) = (only s on call a then step).1 ∙ ap (λ p. after s p call) (on_tally calls on run)

pub every_run_lem : EveryRun
every_run_lem = record {
  decides = decides;
  minimal = thin_is_minimal;
  tallied = λ s calls on run x l m. ap (λ p. p x) (on_tally s calls on run);
  published = published;
  alike = alike_same;
}
