-- What a refusal, or that there is none, says of the tests that were made.
use Rattle.std.proofs.Common.{◌≡◌, ℕ, Bool, true, false, cond, Some, None, Option, refl, ap, arith}
use Rattle.refusal.specs.Outcomes.{Outcome, accepted, refused}
use Rattle.runs.specs.Refusals.{unless}

pub unless_none : {A : Type 0} (r : Option ℕ) (o : Outcome A) → r ≡ None → unless r o ≡ o
unless_none r o e = ap (λ q. unless q o) e

pub unless_some : {A : Type 0} (r : Option ℕ) (o : Outcome A) (k : ℕ) → r ≡ Some k → unless r o ≡ refused k
unless_some r o k e = ap (λ q. unless q o) e

pub unless_accepted : {A : Type 0} (r : Option ℕ) (x y : A) → unless r (accepted x) ≡ accepted y → (r ≡ None) × (x ≡ y)
unless_accepted None x y e = (refl, cc)
unless_accepted (Some k) x y e = absurd (let z : ◌≡◌ {A = ℕ} 0 1 = cc in omega arith)

pub unless_refused : {A : Type 0} (r : Option ℕ) (x : A) (k : ℕ) → unless r (accepted x) ≡ refused k → r ≡ Some k
unless_refused None x k e = absurd (let z : ◌≡◌ {A = ℕ} 0 1 = cc in omega arith)
unless_refused (Some j) x k e = cc

-- where a call is not refused, a test before a refusal was passed, and one for a refusal failed
pub passed : (b : Bool) (r : Option ℕ) (k : ℕ) → cond b r (Some k) ≡ None → (b ≡ true) × (r ≡ None)
passed true r k e = (refl, e)
passed false r k e = absurd (let z : ◌≡◌ {A = ℕ} 0 1 = cc in omega arith)

pub failed : (b : Bool) (r : Option ℕ) (k : ℕ) → cond b (Some k) r ≡ None → b ≡ false
failed true r k e = absurd (let z : ◌≡◌ {A = ℕ} 0 1 = cc in omega arith)
failed false r k e = refl
