-- The greatest common divisor of two numbers, with the multipliers that combine them to it.
use Rattle.std.specs.Prelude.{◌≡◌, ℕ, ◌≤◌, max, ℤ, pos, ◌+ℤ◌, ◌*ℤ◌, unsigned_abs}
use Rattle.std.specs.Int.{◌∣◌}

pub record Bezout (a b g : ℕ) (x y : ℤ) : Type 0 where
  pub divides_left : g ∣ a
  pub divides_right : g ∣ b
  pub greatest : (d : ℕ) → d ∣ a → d ∣ b → d ∣ g
  pub combined : (pos a *ℤ x) +ℤ (pos b *ℤ y) ≡ pos g
  -- the multipliers stay small, from the last division on, where b is 0
  pub x_small : unsigned_abs x ≤ max b 1
  pub y_small : unsigned_abs y ≤ max a 1
  pub at_end : b ≡ 0 → y ≡ pos 0
