-- The odd primes from 3 to 251: what they are, a test that computes them, and what making a field of one comes to.
use Rattle.std.specs.Prelude.{◌≡◌, ℕ, ◌-◌, ◌%◌, ◌<◌, ◌≤◌, Bool, cond, not, ◌&&◌, ◌==◌, ◌≢◌, nat_le}
use Rattle.std.specs.Coded.{le_prop}
use Rattle.std.specs.List.{list_all, range_with_len}
use Rattle.refusal.specs.declared.Refusal.TheVariants.{NotOddPrime}
use Rattle.refusal.specs.Numbers.{number_of}
use Rattle.refusal.specs.Outcomes.{Outcome, accepted, refused}

-- no number from 2 to p - 1 divides p
abbrev pub Indivisible : ℕ → Type 0
Indivisible p = (d : ℕ) → 2 ≤ d → d < p → p % d ≢ 0

pub record OddPrime (p : ℕ) : Type 0 where
  pub least : 3 ≤ p
  pub most : p ≤ 251
  pub prime : Indivisible p

-- a number is an odd prime in one way only, so that a field can carry the fact
pub OddPrime-prop : (p : ℕ) → IsProp (OddPrime p)
OddPrime-prop p a b = λ i. record {
  least = le_prop a.least b.least i;
  most = le_prop a.most b.most i;
  prime = λ d two less e. (let same : a.prime d two less e ≡ b.prime d two less e = absurd (a.prime d two less e) in same i);
}

-- the test for one, by trial division
abbrev pub indivisible : ℕ → Bool
indivisible p = list_all (λ d. not (p % d == 0)) (range_with_len 2 (p - 2))

abbrev pub odd_prime_of : ℕ → Bool
odd_prime_of p = nat_le 3 p && nat_le p 251 && indivisible p

-- the modulus of a field that is asked for
abbrev pub modulus : ℕ → Outcome ℕ
modulus p = cond (odd_prime_of p) (accepted p) (refused (number_of NotOddPrime))
