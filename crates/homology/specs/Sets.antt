-- Sets of sensors: one inside another, two that agree on a survey's sensors, and those that keep the fence.
use Rattle.std.specs.Prelude.{◌≡◌, ℕ, ◌≤◌, Bool, T}
use Rattle.survey.specs.Lists.{member}
use Rattle.survey.specs.Surveys.{Survey, Sensors}

-- every sensor of p is one of q
abbrev pub Inside : Sensors → Sensors → Type 0
Inside p q = (x : ℕ) → T (p x) → T (q x)

-- p and q agree on the sensors 1 to n
abbrev pub Same : ℕ → Sensors → Sensors → Type 0
Same n p q = (x : ℕ) → 1 ≤ x → x ≤ n → p x ≡ q x

abbrev pub fenced : Survey → ℕ → Bool
fenced s x = member x s.fence

-- every sensor of the fence is one of p
abbrev pub KeepsFence : Survey → Sensors → Type 0
KeepsFence s p = Inside (fenced s) p
