-- What a run keeps when one call more is made.
use Rattle.std.specs.Prelude.{◌≡◌, ℕ, ◌≤◌, true, false, cond, not, ◌&&◌, List, ◌∷◌, length}
use Rattle.field.specs.Arithmetic.{Arithmetic}
use Rattle.survey.specs.Lists.{member}
use Rattle.survey.specs.Sets.{Same, KeepsFence, leaving}
use Rattle.survey.specs.Surveys.{Survey, Sensors, triangles}
use Rattle.complex.specs.Boundaries.{system}
use Rattle.homology.specs.Linear.{Agree, Solution, Separator}
use Rattle.homology.specs.Reduction.{enough}
use Rattle.homology.specs.Certificate.{HasFilling, HasBlock, Certificate, certificate, Published, vector}
use Rattle.runs.specs.Calls.{including, Call, Answer}
use Rattle.runs.specs.Calls.Call.{switch_off, switch_on, certify, thin}
use Rattle.runs.specs.Calls.Answer.{refusal, done, certified, thinned}
use Rattle.runs.specs.Runs.{Run, Smaller, tally}

module _ (s : Survey) where
  -- the certificate decides whether there is a filling, and is the published one, of which there is only one
  pub record Decided (on : Sensors) (F : Arithmetic) (c : Certificate) : Type 0 where
    pub fills : c.filled ≡ true → Solution F (system s on F) (vector c.codes)
    pub blocks : c.filled ≡ false → Separator F (system s on F) (vector c.codes)
    pub filled : HasFilling s on F → c.filled ≡ true
    pub never_both : HasBlock s on F → HasFilling s on F → ⊥
    pub is : c ≡ certificate s on F
    pub published : Published s on F c
    pub only : (e : Certificate) → Published s on F e
        → (c.filled ≡ e.filled) × Agree (cond c.filled (system s on F).columns (system s on F).rows) (vector c.codes) (vector e.codes)
    pub few_additions : c.additions ≤ enough (length (triangles s on))

  -- no set that keeps the fence and is smaller has a filling, and the sensors on are those before without the ones dropped
  pub record Thinned (on : Sensors) (F : Arithmetic) (c : Certificate) (dropped : List ℕ) (then : Sensors) : Type 0 where
    pub filled : HasFilling s then F
    pub minimal : (fewer : Sensors) → Smaller fewer then → KeepsFence s fewer → HasFilling s fewer F → ⊥
    pub drops : (x : ℕ) → then x ≡ (on x && not (member x dropped))
    pub decided : Decided then F c

  -- What an answer says of the sensors on before and after its call. A refused call leaves them as they were.
  abbrev pub Tells : Sensors → Call s → Answer → Sensors → Type 0
  Tells on call (refusal k) then = then ≡ on
  Tells on call done then = elim call [ switch_off x ↦ then ≡ leaving x on | switch_on x ↦ then ≡ including x on | certify F laws K L ↦ ⊥ | thin F laws K O L ↦ ⊥ ]
  Tells on call (certified c) then = elim call [ switch_off x ↦ ⊥ | switch_on x ↦ ⊥ | certify F laws K L ↦ (then ≡ on) × Decided then F c | thin F laws K O L ↦ ⊥ ]
  Tells on call (thinned c dropped) then = elim call [ switch_off x ↦ ⊥ | switch_on x ↦ ⊥ | certify F laws K L ↦ ⊥ | thin F laws K O L ↦ Thinned on F c dropped then ]

  pub record Kept (calls : List (Call s)) (on : Sensors) (call : Call s) (answer : Answer) (then : Sensors) : Type 0 where
    pub run : Run s (call ∷ calls) then
    pub tallied : Same s.count then (tally s (call ∷ calls))
    pub fence : KeepsFence s then
    pub tells : Tells on call answer then
