-- An arithmetic that is given on codes alone, made to answer 0 for whatever is no code.
use Rattle.std.specs.Prelude.{ℕ, cond, ◌&&◌, nat_lt}
use Rattle.field.specs.Arithmetic.{Arithmetic}

-- f on numbers below q, and 0 elsewhere
abbrev pub guarded : ℕ → (ℕ → ℕ) → ℕ → ℕ
guarded q f a = cond (nat_lt a q) (f a) 0

-- the same of two arguments
abbrev pub guarded₂ : ℕ → (ℕ → ℕ → ℕ) → ℕ → ℕ → ℕ
guarded₂ q f a b = cond (nat_lt a q && nat_lt b q) (f a b) 0

abbrev pub guard : Arithmetic → Arithmetic
guard F = record {
  order = F.order;
  sum = guarded₂ F.order F.sum;
  negative = guarded F.order F.negative;
  product = guarded₂ F.order F.product;
  inverse = guarded F.order F.inverse;
}
