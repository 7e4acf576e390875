-- What is shown of steps and runs beside what every run keeps.
use Rattle.std.specs.Prelude.{◌≡◌, ℕ, not, ◌&&◌, List, Some, None}
use Rattle.field.specs.Arithmetic.{Arithmetic, FieldLaws}
use Rattle.matrix.specs.Terms.{Terms}
use Rattle.survey.specs.Lists.{member}
use Rattle.survey.specs.Sets.{KeepsFence, all_of, leaving}
use Rattle.survey.specs.Surveys.{Survey, Sensors, Valid}
use Rattle.orders.specs.Orders.{Order}
use Rattle.homology.specs.Certificate.{Certificate}
use Rattle.runs.specs.Refusals.{Room, store_refusal}
use Rattle.runs.specs.Thinning.{Stopped}
use Rattle.runs.specs.Calls.{Call, Answer, Step, answer, after}
use Rattle.runs.specs.Calls.Call.{thin}
use Rattle.runs.specs.Calls.Answer.{thinned}
use Rattle.runs.specs.Runs.{Run}
use Rattle.runs.specs.Promises.{Kept}

-- each call has one step: its answer and the sensors on after it are those worked out
pub record OneStep : Type 0 where
  pub steps : (s : Survey) (on : Sensors) (call : Call s) → Step s on call (answer s on call) (after s on call)
  pub only : (s : Survey) (on : Sensors) (call : Call s) (a : Answer) (then : Sensors)
      → Step s on call a then → (a ≡ answer s on call) × (then ≡ after s on call)

-- thin drops what it says
abbrev pub ThinDrops : Type 0
ThinDrops =
    (s : Survey) (on then : Sensors) (F : Arithmetic) (laws : FieldLaws F) (K : Terms) (O : Order s) (L : Room) (c : Certificate) (dropped : List ℕ)
    → Step s on (thin F laws K O L) (thinned c dropped) then → (x : ℕ) → then x ≡ (on x && not (member x dropped))

-- the fence stays on, where it is made of the survey's sensors
abbrev pub FenceStaysOn : Type 0
FenceStaysOn = (s : Survey) → KeepsFence s (all_of s) → (calls : List (Call s)) (on : Sensors) → Run s calls on → KeepsFence s on

-- a thin that has begun stops at a trial: the certify at the end cannot be refused, since its set was taken before
abbrev pub StopsAtTrial : Type 0
StopsAtTrial =
    (s : Survey) (F : Arithmetic) (K : Terms) (O : Order s) (k : ℕ) (untried on : Sensors)
    → store_refusal s F K on ≡ None → Stopped s F K O k untried on
    → (tried : Sensors) × (x : ℕ) × (store_refusal s F K (leaving x tried) ≡ Some k)

-- a run that one call more is made in keeps its promises
abbrev pub KeepsPromises : Type 0
KeepsPromises =
    (s : Survey) → Valid s → (calls : List (Call s)) (on : Sensors) (call : Call s) (a : Answer) (then : Sensors)
    → Run s calls on → Step s on call a then → Kept s calls on call a then
