-- The table of a roster's sensors.
use Rattle.std.specs.Prelude.{◌≡◌, ℕ, Bool, true, false, List, slice_index_or}
use Rattle.survey.specs.declared.plan.Survey.{Survey as Plan}
use Rattle.survey.specs.Lists.{member}
use Rattle.survey.specs.Plans.{survey_of}
use Rattle.verifier.specs.declared.sensor.State.{State}
use Rattle.verifier.specs.declared.sensor.State.TheVariants.{Fence, On, Off}
use Rattle.verifier.specs.declared.sensor.Sensor.{Sensor}

-- the state of sensor x
abbrev pub state_at : List Sensor → ℕ → State
state_at sensors x = (slice_index_or sensors x (record { state = Off })).state

abbrev pub is_fence_of : State → Bool
is_fence_of Fence = true
is_fence_of On = false
is_fence_of Off = false

abbrev pub is_on : State → Bool
is_on Fence = true
is_on On = true
is_on Off = false

-- the sensors of the list, and no others, say that they are on the fence
abbrev pub Marked : List ℕ → List Sensor → Type 0
Marked fence sensors = (x : ℕ) → is_fence_of (state_at sensors x) ≡ member x fence

abbrev pub Fenced : Plan → List Sensor → Type 0
Fenced survey sensors = Marked (survey_of survey).fence sensors
