-- The field of the numbers modulo a prime.
use Rattle.std.specs.Prelude.{◌≡◌, ℕ, ◌+◌, ◌-◌, ◌*◌, ◌%◌, nat_eq}
use Rattle.field.specs.Arithmetic.{Arithmetic}
use Rattle.field.specs.Counting.{last_below}
use Rattle.field.specs.Guarded.{guard}

-- the number below p whose product with a is 1 modulo p, or 0 where there is none
abbrev pub inverse_modulo : ℕ → ℕ → ℕ
inverse_modulo p a = last_below p (λ i. nat_eq (a * i % p) 1)

abbrev pub residues : ℕ → Arithmetic
residues p = record {
  order = p;
  sum = λ a b. (a + b) % p;
  negative = λ a. (p - a) % p;
  product = λ a b. a * b % p;
  inverse = inverse_modulo p;
}

abbrev pub prime_field : ℕ → Arithmetic
prime_field p = guard (residues p)

-- in GF(251) the inverse of 2 is 126
abbrev pub HalfModulo251 : Type 0
HalfModulo251 = (prime_field 251).inverse 2 ≡ 126
