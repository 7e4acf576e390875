-- The orders by number and by links, and what they pick.
use Rattle.std.specs.Prelude.{◌≡◌, ℕ, ◌≤◌, true, Some}
use Rattle.survey.specs.Surveys.{Survey, Sensors, degree}
use Rattle.orders.specs.Orders.{Order}
use Rattle.orders.specs.Least.{least_order}

-- the lowest number
abbrev pub number_order : (s : Survey) → Order s
number_order s = least_order s (λ x. x)

-- the fewest links in the survey, the lowest number among equals; the links to every sensor of the survey count
abbrev pub link_order : (s : Survey) → Order s
link_order s = least_order s (degree s)

abbrev pub NumberOrderLeast : Type 0
NumberOrderLeast = (s : Survey) (p : Sensors) (x y : ℕ) → (number_order s).pick p ≡ Some x
    → 1 ≤ y → y ≤ s.count → p y ≡ true → x ≤ y

abbrev pub LinkOrderLeast : Type 0
LinkOrderLeast = (s : Survey) (p : Sensors) (x y : ℕ) → (link_order s).pick p ≡ Some x
    → 1 ≤ y → y ≤ s.count → p y ≡ true → (degree s x ≤ degree s y) × (degree s y ≡ degree s x → x ≤ y)
