-- The calls off, on, certify and thin: what each promises of its answer and of the sensors on before and after it.
use Rattle.std.specs.Prelude.{◌≡◌, ℕ, cond, ◌||◌, List, Some, None, ◌==◌}
use Rattle.refusal.specs.declared.Refusal.TheVariants.{NoFilling}
use Rattle.refusal.specs.Numbers.{number_of}
use Rattle.refusal.specs.Outcomes.{Outcome, accepted, refused}
use Rattle.field.specs.Arithmetic.{Arithmetic, FieldLaws}
use Rattle.matrix.specs.Terms.{Terms}
use Rattle.survey.specs.Sets.{leaving}
use Rattle.survey.specs.Surveys.{Survey, Sensors}
use Rattle.orders.specs.Orders.{Order}
use Rattle.homology.specs.Certificate.{HasFilling, Certificate, certificate}
use Rattle.runs.specs.Refusals.{Room, unless, candidates, off_refusal, on_refusal, certify_refusal, early_refusal}
use Rattle.runs.specs.Thinning.{Dropping, Thinning, Stopped, thinning}

-- x as well
abbrev pub including : ℕ → Sensors → Sensors
including x on y = y == x || on y

pub data Answer : Type 0 where
  refusal : ℕ → Answer
  done : Answer
  certified : Certificate → Answer
  thinned : Certificate → List ℕ → Answer

-- what an outcome answers, where an accepted one answers by `f`
abbrev pub answered : {A : Type 0} → (A → Answer) → Outcome A → Answer
answered f (accepted x) = f x
answered f (refused k) = refusal k

-- the sensors on after it: what `f` tells of an accepted one, and else those that were on
abbrev pub on_after : {A : Type 0} → (A → Sensors) → Outcome A → Sensors → Sensors
on_after f (accepted x) on = f x
on_after f (refused k) on = on

module _ (s : Survey) where
  -- what a call brings
  pub data Call : Type 0 where
    switch_off : ℕ → Call
    switch_on : ℕ → Call
    certify : (F : Arithmetic) → FieldLaws F → Terms → Room → Call
    thin : (F : Arithmetic) → FieldLaws F → Terms → Order s → Room → Call

  pub data Step (on : Sensors) : Call → Answer → Sensors → Type 0 where
    off_refused : (x k : ℕ) → off_refusal s on x ≡ Some k → Step on (switch_off x) (refusal k) on
    off_done : (x : ℕ) → off_refusal s on x ≡ None → Step on (switch_off x) done (leaving x on)
    on_refused : (x k : ℕ) → on_refusal s on x ≡ Some k → Step on (switch_on x) (refusal k) on
    on_done : (x : ℕ) → on_refusal s on x ≡ None → Step on (switch_on x) done (including x on)
    certify_refused : (F : Arithmetic) (laws : FieldLaws F) (K : Terms) (L : Room) (k : ℕ)
        → certify_refusal s F K on L ≡ Some k → Step on (certify F laws K L) (refusal k) on
    certify_done : (F : Arithmetic) (laws : FieldLaws F) (K : Terms) (L : Room)
        → certify_refusal s F K on L ≡ None → Step on (certify F laws K L) (certified (certificate s on F)) on
    thin_refused : (F : Arithmetic) (laws : FieldLaws F) (K : Terms) (O : Order s) (L : Room) (k : ℕ)
        → early_refusal s F K on L ≡ Some k → Step on (thin F laws K O L) (refusal k) on
    thin_open : (F : Arithmetic) (laws : FieldLaws F) (K : Terms) (O : Order s) (L : Room)
        → early_refusal s F K on L ≡ None → (HasFilling s on F → ⊥)
        → Step on (thin F laws K O L) (refusal (number_of NoFilling)) on
    thin_stopped : (F : Arithmetic) (laws : FieldLaws F) (K : Terms) (O : Order s) (L : Room) (k : ℕ)
        → early_refusal s F K on L ≡ None → HasFilling s on F → Stopped s F K O k (candidates s on) on
        → Step on (thin F laws K O L) (refusal k) on
    thin_done : (F : Arithmetic) (laws : FieldLaws F) (K : Terms) (O : Order s) (L : Room) (dropped : List ℕ) (last : Sensors)
        → early_refusal s F K on L ≡ None → HasFilling s on F → Thinning s F K O (candidates s on) on dropped last
        → Step on (thin F laws K O L) (thinned (certificate s last F) dropped) last

  -- What each comes to, worked out.
  abbrev pub off_outcome : Sensors → ℕ → Outcome Sensors
  off_outcome on x = unless (off_refusal s on x) (accepted (leaving x on))

  abbrev pub on_outcome : Sensors → ℕ → Outcome Sensors
  on_outcome on x = unless (on_refusal s on x) (accepted (including x on))

  abbrev pub certify_outcome : Arithmetic → Terms → Sensors → Room → Outcome Certificate
  certify_outcome F K on L = unless (certify_refusal s F K on L) (accepted (certificate s on F))

  abbrev pub thin_outcome : Arithmetic → Terms → Order s → Sensors → Room → Outcome Dropping
  thin_outcome F K O on L =
      unless (early_refusal s F K on L)
      (cond (certificate s on F).filled (thinning s F K O (candidates s on) on) (refused (number_of NoFilling)))

  -- what an accepted thin answers
  abbrev pub thinned_by : Arithmetic → Dropping → Answer
  thinned_by F d = thinned (certificate s d.last F) d.dropped

  abbrev pub answer : Sensors → Call → Answer
  answer on (switch_off x) = answered (λ _. done) (off_outcome on x)
  answer on (switch_on x) = answered (λ _. done) (on_outcome on x)
  answer on (certify F laws K L) = answered certified (certify_outcome F K on L)
  answer on (thin F laws K O L) = answered (thinned_by F) (thin_outcome F K O on L)

  -- the sensors on after one call
  abbrev pub after : Sensors → Call → Sensors
  after on (switch_off x) = on_after (λ p. p) (off_outcome on x) on
  after on (switch_on x) = on_after (λ p. p) (on_outcome on x) on
  after on (certify F laws K L) = on
  after on (thin F laws K O L) = on_after (λ d. d.last) (thin_outcome F K O on L) on
