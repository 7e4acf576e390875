-- Vectors that agree, by the test and by every row.
use Rattle.std.proofs.Common.{◌≡◌, ℕ, ◌≤◌, true, false, eqb, ap₂, arith}
use Rattle.std.proofs.lemmas.Bool.{eqb-true, eq-eqb}
use Rattle.survey.proofs.Lists.{false_from}
use Rattle.field.proofs.Ranges.{each_from, all_from, all_same}
use Rattle.complex.specs.Systems.{Vector}
use Rattle.homology.specs.Linear.{Agree}
use Rattle.checking.specs.Equations.{agree}

pub agree_true : (n : ℕ) (v w : Vector) → agree n v w ≡ true → Agree n v w
agree_true n v w e r l m = eqb-true _ _ (each_from (λ r. eqb (v r) (w r)) 1 n e r l (omega arith))

pub agree_from : (n : ℕ) (v w : Vector) → Agree n v w → agree n v w ≡ true
agree_from n v w h = all_from (λ r. eqb (v r) (w r)) 1 n (λ r l m. eq-eqb _ _ (h r l (omega arith)))

pub agree_same : (n : ℕ) (v w x y : Vector) → Agree n v x → Agree n w y → agree n v w ≡ agree n x y
agree_same n v w x y h k =
    all_same (λ r. eqb (v r) (w r)) (λ r. eqb (x r) (y r)) 1 n (λ r l m. ap₂ eqb (h r l (omega arith)) (k r l (omega arith)))

-- vectors that differ at a row do not agree
pub agree_not : (n : ℕ) (v w : Vector) (r : ℕ) → 1 ≤ r → r ≤ n → (v r ≡ w r → ⊥) → agree n v w ≡ false
agree_not n v w r l m d = false_from _ (λ e. d (agree_true n v w e r l m))
