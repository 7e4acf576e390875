-- Fields of p * p elements: polynomials of degree below 2 over the numbers modulo p, with x * x = v + u x.
use Rattle.std.specs.Prelude.{ℕ, ◌+◌, ◌-◌, ◌*◌, ◌/◌, ◌%◌, nat_eq}
use Rattle.field.specs.Arithmetic.{Arithmetic}
use Rattle.field.specs.Counting.{last_below}
use Rattle.field.specs.Guarded.{guard}

-- the polynomial c + d x is written as the number whose base-p digits are c and, before it, d
abbrev pub code : ℕ → ℕ → ℕ → ℕ
code p c d = c % p + p * (d % p)

abbrev pub plus : ℕ → ℕ → ℕ → ℕ
plus p a b = code p (a % p + b % p) (a / p + b / p)

abbrev pub minus : ℕ → ℕ → ℕ
minus p a = code p (p - a % p) (p - a / p)

-- (c + d x) (e + f x) = (c e + v d f) + (c f + d e + u d f) x
abbrev pub times : ℕ → ℕ → ℕ → ℕ → ℕ → ℕ
times p u v a b = code p (a % p * (b % p) + v * (a / p * (b / p))) (a % p * (b / p) + a / p * (b % p) + u * (a / p * (b / p)))

abbrev pub polynomials : ℕ → ℕ → ℕ → Arithmetic
polynomials p u v = record {
  order = p * p;
  sum = plus p;
  negative = minus p;
  product = times p u v;
  inverse = λ a. last_below (p * p) (λ i. nat_eq (times p u v a i) 1);
}

-- modulo x^2 + x + 1 over GF(2), where x^2 = 1 + x
abbrev pub field_of_four : Arithmetic
field_of_four = guard (polynomials 2 1 1)

-- modulo x^2 + 1 over GF(3), where x^2 = 2
abbrev pub field_of_nine : Arithmetic
field_of_nine = guard (polynomials 3 0 2)
