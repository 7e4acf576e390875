-- A roster's table: marking the fence, switching one sensor, and what the records say.
use Rattle.std.proofs.Common.{◌≡◌, ℕ, ◌+◌, ◌<◌, ◌≤◌, Bool, true, false, cond, ◌&&◌, ◌||◌, eqb, leb, List, [], length, get_or, take, set, replicate, sym, ap, ◌∙◌, subst, inl, inr, arith, get_or-set_other, get_or-set_same}
use mathlib.Core.Path.{fun_ext}
use Rattle.std.proofs.lemmas.List.{take_more, get_or-replicate, get_or_past, length-replicate}
use Rattle.std.proofs.lemmas.Bool.{cases_eq, cases_lt, cases_Bool, eq-eqb, ne_eqb, and_parts, leb-true}
use Rattle.survey.specs.Lists.{member}
use Rattle.survey.specs.Surveys.{Survey}
use Rattle.survey.proofs.Lists.{member_push}
use Rattle.verifier.specs.declared.sensor.State.{State}
use Rattle.verifier.specs.declared.sensor.State.TheVariants.{Fence, On, Off}
use Rattle.verifier.specs.declared.sensor.Sensor.{Sensor}
use Rattle.verifier.specs.Sensors.{state_at, is_fence_of, is_on, Marked}
use Rattle.verifier.specs.Rosters.{is_sensor}

abbrev off_record : Sensor
off_record = record { state = Off }

-- the record at the place that is set, and at another
state_same : (sensors : List Sensor) (x : ℕ) (r : Sensor) → x < length sensors → state_at (set sensors x r) x ≡ r.state
state_same sensors x r l = ap (λ (q : Sensor). q.state) (get_or-set_same sensors x r off_record l)

state_other : (sensors : List Sensor) (x y : ℕ) (r : Sensor) → ¬ (y ≡ x) → state_at (set sensors x r) y ≡ state_at sensors y
state_other sensors x y r d = ap (λ (q : Sensor). q.state) (get_or-set_other sensors x y r off_record d)

-- a table of sensors that are on and not on the fence
pub marked_none : (n : ℕ) (r : Sensor) → r.state ≡ On → Marked [] (replicate n r)
marked_none n r e x = elim (cases_lt x n) [
  | inl l ↦ ap (λ (q : Sensor). is_fence_of q.state) (get_or-replicate n x r off_record l) ∙ ap is_fence_of e
  | inr l ↦ ap (λ (q : Sensor). is_fence_of q.state) (get_or_past (replicate n r) x off_record (subst (λ k. k ≤ x) (sym (length-replicate n r)) l))
]

-- one sensor of the fence more
pub marked_more : (fence : List ℕ) (i : ℕ) (sensors : List Sensor) (r : Sensor) → i < length fence → get_or fence i 0 < length sensors → r.state ≡ Fence
    → Marked (take i fence) sensors → Marked (take (i + 1) fence) (set sensors (get_or fence i 0) r)
marked_more fence i sensors r l in' e h y =
    let x = get_or fence i 0 in
    let more : member y (take (i + 1) fence) ≡ (eqb y x || member y (take i fence)) = ap (member y) (take_more fence i 0 l) ∙ member_push y x (take i fence) in
    elim (cases_eq y x) [
      | inl q ↦ ap (λ k. is_fence_of (state_at (set sensors x r) k)) q ∙ ap is_fence_of (state_same sensors x r in' ∙ e) ∙ sym (more ∙ ap (λ t. t || member y (take i fence)) (eq-eqb y x q))
      | inr d ↦ ap is_fence_of (state_other sensors x y r d) ∙ h y ∙ sym (more ∙ ap (λ t. t || member y (take i fence)) (ne_eqb y x d))
    ]

-- every record up to the bound says that its sensor is on
abbrev pub AllOn : ℕ → List Sensor → Type 0
AllOn n sensors = (x : ℕ) → x < n → is_on (state_at sensors x) ≡ true

pub all_on_none : (n : ℕ) (r : Sensor) → r.state ≡ On → AllOn n (replicate n r)
all_on_none n r e x l = ap (λ (q : Sensor). is_on q.state) (get_or-replicate n x r off_record l) ∙ ap is_on e

pub all_on_more : (n : ℕ) (sensors : List Sensor) (x : ℕ) (r : Sensor) → x < length sensors → r.state ≡ Fence → AllOn n sensors → AllOn n (set sensors x r)
all_on_more n sensors x r in' e h y l = elim (cases_eq y x) [
  | inl q ↦ ap (λ k. is_on (state_at (set sensors x r) k)) q ∙ ap is_on (state_same sensors x r in' ∙ e)
  | inr d ↦ ap is_on (state_other sensors x y r d) ∙ h y l
]

-- a sensor's number is in the table
pub sensor_within : (s : Survey) (x : ℕ) → s.count ≤ 64 → is_sensor s x ≡ true → x < 65
sensor_within s x few t = omega (arith, leb-true x s.count (and_parts (leb 1 x) (leb x s.count) t).1)

-- all on: the sensors on are all sensors
pub on_is_all : (s : Survey) (sensors : List Sensor) → s.count ≤ 64 → AllOn 65 sensors → ◌≡◌ {A = ℕ → Bool} (λ x. is_sensor s x && is_on (state_at sensors x)) (is_sensor s)
on_is_all s sensors few h = fun_ext (λ x. elim (cases_Bool (is_sensor s x)) [
  | inl t ↦ ap (λ b. b && is_on (state_at sensors x)) t ∙ h x (sensor_within s x few t) ∙ sym t
  | inr f ↦ ap (λ b. b && is_on (state_at sensors x)) f ∙ sym f
])

-- a state, by what it says of fence and on
pub state_is : (st : State) (m : Bool) → is_fence_of st ≡ m → st ≡ cond m Fence (cond (is_on st) On Off)
state_is Fence m e = ap (λ b. cond b Fence On) e
state_is On m e = ap (λ b. cond b Fence On) e
state_is Off m e = ap (λ b. cond b Fence Off) e

-- switching a sensor that is not on the fence leaves the fence marked
pub marked_switched : (fence : List ℕ) (sensors : List Sensor) (x : ℕ) (r : Sensor) → x < length sensors → member x fence ≡ false → is_fence_of r.state ≡ false
    → Marked fence sensors → Marked fence (set sensors x r)
marked_switched fence sensors x r in' out e h y = elim (cases_eq y x) [
  | inl q ↦ ap (λ k. is_fence_of (state_at (set sensors x r) k)) q ∙ ap is_fence_of (state_same sensors x r in') ∙ e ∙ sym (ap (λ k. member k fence) q ∙ out)
  | inr d ↦ ap is_fence_of (state_other sensors x y r d) ∙ h y
]

-- and changes what is on at that sensor alone
pub on_switched : (s : Survey) (sensors : List Sensor) (x : ℕ) (r : Sensor) (b : Bool) → x < length sensors → is_sensor s x ≡ true → is_on r.state ≡ b
    → ◌≡◌ {A = ℕ → Bool} (λ y. is_sensor s y && is_on (state_at (set sensors x r) y)) (λ y. cond (eqb y x) b (is_sensor s y && is_on (state_at sensors y)))
on_switched s sensors x r b in' t e = fun_ext (λ y. elim (cases_eq y x) [
  | inl q ↦ ap (λ k. is_sensor s k && is_on (state_at (set sensors x r) k)) q ∙ ap (λ c. c && is_on (state_at (set sensors x r) x)) t ∙ ap is_on (state_same sensors x r in') ∙ e
      ∙ sym (ap (λ c. cond c b (is_sensor s y && is_on (state_at sensors y))) (eq-eqb y x q))
  | inr d ↦ ap (λ st. is_sensor s y && is_on st) (state_other sensors x y r d) ∙ sym (ap (λ c. cond c b (is_sensor s y && is_on (state_at sensors y))) (ne_eqb y x d))
])
