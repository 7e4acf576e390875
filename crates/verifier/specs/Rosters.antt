-- What a roster means: its survey, and the sensors that are on.
use Rattle.std.specs.Prelude.{◌≡◌, ℕ, Bool, true, false, cond, not, ◌&&◌, List, Some, None, Option, ◌==◌, nat_le}
use Rattle.refusal.specs.Outcomes.{Outcome, accepted, refused}
use Rattle.survey.specs.Lists.{member}
use Rattle.survey.specs.Plans.{survey_of}
use Rattle.survey.specs.Surveys.{Survey, Sensors}
use Rattle.text.specs.Reading.{Read}
use Rattle.verifier.specs.declared.roster.Roster.{Roster}
use Rattle.verifier.specs.declared.sensor.State.{State}
use Rattle.verifier.specs.declared.sensor.State.TheVariants.{Fence, On, Off}
use Rattle.verifier.specs.Sensors.{state_at, is_on}

pub record Meaning : Type 0 where
  pub survey : Survey
  pub on : Sensors

-- is x the number of a sensor?
abbrev pub is_sensor : Survey → ℕ → Bool
is_sensor s x = nat_le 1 x && nat_le x s.count

abbrev pub meaning_of : Roster → Meaning
meaning_of r = record { survey = survey_of r.survey; on = λ x. is_sensor (survey_of r.survey) x && is_on (state_at r.sensors x) }

-- no sensor off
abbrev pub fresh : Survey → Meaning
fresh s = record { survey = s; on = is_sensor s }

-- the bytes behind the text
abbrev pub read_answer : Outcome (Read Survey) → Outcome (List ℕ)
read_answer (accepted r) = accepted r.rest
read_answer (refused k) = refused k

-- the roster that reading leaves
abbrev pub read_after : Outcome (Read Survey) → Option Meaning → Option Meaning
read_after (accepted r) old = Some (fresh r.got)
read_after (refused k) old = old

-- what a sensor's record says
abbrev pub state_in : Meaning → ℕ → Option State
state_in m x = cond (is_sensor m.survey x) (Some (cond (member x m.survey.fence) Fence (cond (m.on x) On Off))) None

-- those that thinning may drop: on, and not on the fence
abbrev pub candidates : Meaning → Sensors
candidates m x = m.on x && not (member x m.survey.fence)

-- may x be switched?
abbrev pub Switchable : Meaning → ℕ → Type 0
Switchable m x = (is_sensor m.survey x ≡ true) × (member x m.survey.fence ≡ false)

-- x is on or off, and every other sensor as it was
abbrev pub switched : Meaning → ℕ → Bool → Meaning
switched m x b = record { survey = m.survey; on = λ y. cond (y == x) b (m.on y) }
