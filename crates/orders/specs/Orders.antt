-- What a thinning order is: a choice among the candidates of a survey.
use Rattle.std.specs.Prelude.{◌≡◌, ℕ, ◌≤◌, true, false, Some, None, Option}
use Rattle.survey.specs.Sets.{Same}
use Rattle.survey.specs.Surveys.{Survey, Sensors}

pub record Order (s : Survey) : Type 0 where
  -- the sensor that is tried next
  pub pick : Sensors → Option ℕ
  -- only the candidates among the survey's sensors matter
  pub respects : (p q : Sensors) → Same s.count p q → pick p ≡ pick q
  -- none only where there is no candidate
  pub none : (p : Sensors) → pick p ≡ None → (x : ℕ) → 1 ≤ x → x ≤ s.count → p x ≡ false
  -- else one of them
  pub among : (p : Sensors) (x : ℕ) → pick p ≡ Some x → (1 ≤ x) × (x ≤ s.count) × (p x ≡ true)
