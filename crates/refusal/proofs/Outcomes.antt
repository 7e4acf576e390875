-- What an accepted outcome says of the outcomes that it was made from.
use Rattle.std.proofs.Common.{◌≡◌, ℕ, Bool, true, false, cond, refl, ap, arith}
use Rattle.refusal.specs.Outcomes.{Outcome, accepted, refused, and_then}

pub refused_accepted : {A : Type 0} {k : ℕ} {x : A} → ◌≡◌ {A = Outcome A} (refused k) (accepted x) → ⊥
refused_accepted e = let z : ◌≡◌ {A = ℕ} 0 1 = cc in omega arith

pub same_from_accepted : {A : Type 0} {x y : A} → ◌≡◌ {A = Outcome A} (accepted x) (accepted y) → x ≡ y
same_from_accepted e = cc

pub and_then_accepted : {A B : Type 0} (o : Outcome A) (f : A → Outcome B) (x : A) → o ≡ accepted x → and_then o f ≡ f x
and_then_accepted o f x e = ap (λ o. and_then o f) e

-- what both steps came to
pub and_then_parts : {A B : Type 0} (o : Outcome A) (f : A → Outcome B) (y : B) → and_then o f ≡ accepted y → (x : A) × (o ≡ accepted x) × (f x ≡ accepted y)
and_then_parts (accepted x) f y e = (x, refl, e)
and_then_parts (refused k) f y e = absurd (refused_accepted e)

-- a test whose failure is refused
pub taken_parts : {A : Type 0} (t : Bool) (o : Outcome A) (k : ℕ) (y : A) → cond t o (refused k) ≡ accepted y → (t ≡ true) × (o ≡ accepted y)
taken_parts true o k y e = (refl, e)
taken_parts false o k y e = absurd (refused_accepted e)

-- a test that is refused where it holds
pub left_parts : {A : Type 0} (t : Bool) (o : Outcome A) (k : ℕ) (y : A) → cond t (refused k) o ≡ accepted y → (t ≡ false) × (o ≡ accepted y)
left_parts true o k y e = absurd (refused_accepted e)
left_parts false o k y e = (refl, e)
