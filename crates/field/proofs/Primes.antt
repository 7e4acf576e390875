-- The test for an odd prime tells what an odd prime is.
use Rattle.std.proofs.Common.{◌≡◌, ℕ, ◌-◌, ◌%◌, ◌≤◌, true, not, eqb, ⊎_elim, arith}
use Rattle.std.proofs.lemmas.Bool.{and_parts, and_from, not_from_false, cases_Bool, cond-true, cond-false, le-leb, leb-true, eqb-false, ne_eqb, not-true}
use Rattle.refusal.specs.declared.Refusal.TheVariants.{NotOddPrime}
use Rattle.refusal.specs.Numbers.{number_of}
use Rattle.refusal.specs.Outcomes.{accepted, refused}
use Rattle.field.specs.Primes.{OddPrime, odd_prime_of, modulus}
use Rattle.field.proofs.Ranges.{each_from, all_from}

pub odd_prime_true : (p : ℕ) → odd_prime_of p ≡ true → OddPrime p
odd_prime_true p e =
    let parts = and_parts _ _ e in
    let bounds = and_parts _ _ parts.0 in
    let least : 3 ≤ p = leb-true _ _ bounds.0 in
    record {
      least = least;
      most = leb-true _ _ bounds.1;
      prime = λ d two less. eqb-false (p % d) 0 (not-true _ (each_from (λ d. not (eqb (p % d) 0)) 2 (p - 2) parts.1 d two (omega arith)));
    }

pub odd_prime_from : (p : ℕ) → OddPrime p → odd_prime_of p ≡ true
odd_prime_from p o =
    and_from _ _ (and_from _ _ (le-leb 3 p o.least) (le-leb p 251 o.most))
    (all_from (λ d. not (eqb (p % d) 0)) 2 (p - 2) (λ d two less. not_from_false _ (ne_eqb (p % d) 0 (o.prime d two (omega (arith, o.least))))))

pub modulus_accepted : (p : ℕ) → OddPrime p → modulus p ≡ accepted p
modulus_accepted p o = cond-true (odd_prime_of p) _ _ (odd_prime_from p o)

pub modulus_refused : (p : ℕ) → (OddPrime p → ⊥) → modulus p ≡ refused (number_of NotOddPrime)
modulus_refused p n = ⊎_elim (λ e. absurd (n (odd_prime_true p e))) (λ e. cond-false (odd_prime_of p) _ _ e) (cases_Bool (odd_prime_of p))
