-- Runs of off, on, certify and thin, the tally of a run, and what every run keeps.
use Rattle.std.specs.Prelude.{◌≡◌, ℕ, true, false, T, List, [], ◌∷◌}
use Rattle.field.specs.Arithmetic.{Arithmetic, FieldLaws}
use Rattle.matrix.specs.Terms.{Terms}
use Rattle.survey.specs.Sets.{Inside, Same, KeepsFence, all_of}
use Rattle.survey.specs.Surveys.{Survey, Sensors}
use Rattle.complex.specs.Boundaries.{system}
use Rattle.orders.specs.Orders.{Order}
use Rattle.homology.specs.Linear.{Solution, Separator}
use Rattle.homology.specs.Certificate.{HasFilling, HasBlock, Certificate, certificate, Published, vector}
use Rattle.homology.specs.Theorems.{AlikeSame}
use Rattle.runs.specs.Refusals.{Room}
use Rattle.runs.specs.Calls.{Call, Answer, Step, after}
use Rattle.runs.specs.Calls.Call.{certify, thin}
use Rattle.runs.specs.Calls.Answer.{certified, thinned}

-- every sensor of p is one of q, and q has one more
pub record Smaller (p q : Sensors) : Type 0 where
  pub inside : Inside p q
  pub missing : ℕ
  pub there : T (q missing)
  pub gone : p missing ≡ false

module _ (s : Survey) where
  -- the newest call first
  pub data Run : List (Call s) → Sensors → Type 0 where
    begins : Run [] (all_of s)
    goes_on : (calls : List (Call s)) (on : Sensors) (call : Call s) (answer : Answer) (then : Sensors)
        → Run calls on → Step s on call answer then → Run (call ∷ calls) then

  -- The tally is fed the calls of a run, the newest first, with what each brings, and nothing else.
  abbrev pub tally : List (Call s) → Sensors
  tally [] = all_of s
  tally (call ∷ calls) = after s (tally calls) call

  -- In every run:
  -- a certify not refused gives a filling exactly when the sensors on have one over its field, and otherwise a block;
  abbrev pub CertifyDecides : Type 0
  CertifyDecides =
      (calls : List (Call s)) (on then : Sensors) (F : Arithmetic) (laws : FieldLaws F) (K : Terms) (L : Room) (c : Certificate)
      → Run calls on → Step s on (certify F laws K L) (certified c) then
      → (c.filled ≡ true → Solution F (system s on F) (vector c.codes))
      × (c.filled ≡ false → Separator F (system s on F) (vector c.codes))
      × (HasFilling s on F → c.filled ≡ true)
      × (HasBlock s on F → HasFilling s on F → ⊥)

  -- after a thin not refused the sensors on have a filling, and no smaller set that keeps the fence has one;
  abbrev pub ThinIsMinimal : Type 0
  ThinIsMinimal =
      (calls : List (Call s)) (on then : Sensors) (F : Arithmetic) (laws : FieldLaws F) (K : Terms) (O : Order s) (L : Room)
      (c : Certificate) (dropped : List ℕ)
      → Run calls on → Step s on (thin F laws K O L) (thinned c dropped) then
      → HasFilling s then F × ((fewer : Sensors) → Smaller fewer then → KeepsFence s fewer → HasFilling s fewer F → ⊥)

  -- the sensors on are the tally of the calls;
  abbrev pub OnIsTally : Type 0
  OnIsTally = (calls : List (Call s)) (on : Sensors) → Run calls on → Same s.count on (tally calls)

  -- each certificate is the published one for the survey, the field and the sensors on after its call, additions included.
  abbrev pub CertificatesArePublished : Type 0
  CertificatesArePublished =
      (calls : List (Call s)) (on then : Sensors) (F : Arithmetic) (laws : FieldLaws F) (K : Terms) (O : Order s) (L : Room) (c : Certificate)
      → Run calls on
      → (Step s on (certify F laws K L) (certified c) then → (c ≡ certificate s then F) × Published s then F c)
      × ((dropped : List ℕ) → Step s on (thin F laws K O L) (thinned c dropped) then → (c ≡ certificate s then F) × Published s then F c)

-- What every run keeps, whole; and two certificates alike in survey, field and sensors on are the same, whatever stores
-- worked them out.
pub record EveryRun : Type 0 where
  pub decides : (s : Survey) → CertifyDecides s
  pub minimal : (s : Survey) → ThinIsMinimal s
  pub tallied : (s : Survey) → OnIsTally s
  pub published : (s : Survey) → CertificatesArePublished s
  pub alike : AlikeSame
