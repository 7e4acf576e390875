-- What a set of sensors in memory means, sets made from sets, and how sets compare.
use Rattle.std.specs.Prelude.{◌≡◌, ℕ, ◌≤◌, Bool, false, cond, not, ◌&&◌, ◌||◌, T, List, [], ◌∷◌, ◌==◌, nat_le, slice_index_or}
use Rattle.survey.specs.declared.sensor_set.SensorSet.{SensorSet}
use Rattle.survey.specs.Lists.{numbers, gather, member}
use Rattle.survey.specs.Surveys.{Survey, Sensors}

-- the sensors 1 to n
abbrev pub up_to : ℕ → Sensors
up_to n x = nat_le 1 x && nat_le x n

-- none outside 1 to 64
abbrev pub set_of : SensorSet → Sensors
set_of v x = up_to 64 x && slice_index_or v.on x false

-- every sensor of a survey
abbrev pub all_of : Survey → Sensors
all_of s = up_to s.count

-- x as well, if it is from 1 to 64
abbrev pub joining : ℕ → Sensors → Sensors
joining x on y = (y == x && up_to 64 x) || on y

-- all but x
abbrev pub leaving : ℕ → Sensors → Sensors
leaving x on y = not (y == x) && on y

-- those of 1 to 64 that are in the set, rising
unfoldable pub members : Sensors → List ℕ
members on = gather (λ x. cond (on x) (x ∷ []) []) (numbers 1 64)

-- every sensor of p is one of q
abbrev pub Inside : Sensors → Sensors → Type 0
Inside p q = (x : ℕ) → T (p x) → T (q x)

-- p and q agree on the sensors 1 to n
abbrev pub Same : ℕ → Sensors → Sensors → Type 0
Same n p q = (x : ℕ) → 1 ≤ x → x ≤ n → p x ≡ q x

abbrev pub fenced : Survey → ℕ → Bool
fenced s x = member x s.fence

-- every sensor of the fence is one of p
abbrev pub KeepsFence : Survey → Sensors → Type 0
KeepsFence s p = Inside (fenced s) p
