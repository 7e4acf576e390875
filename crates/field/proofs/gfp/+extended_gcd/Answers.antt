-- Numbers of 32 bits hold the multipliers, so that the code's are those of Euclid's divisions.
use Rattle.std.proofs.Common.{◌≡◌, ℕ, ◌+◌, ◌*◌, ◌/◌, ◌%◌, ◌^◌, ◌<◌, ◌≤◌, max, ℤ, pos, ◌-ℤ◌, ◌*ℤ◌, nat_abs, mod-lt, mul-le-mul_left, arith, w32, to_z, of_z}
use native.Mathlib.Nat.{div-add-mod}
use Rattle.std.proofs.lemmas.Int.{ints, to_z-of_z, to_z_pos}
use Rattle.field.specs.Divisors.{Bezout}
use Rattle.field.specs.Euclid.{abs_times, bezout_none, bezout_more}
use Rattle.field.proofs.gfp.+extended_gcd.Goals as goal

-- what the code computes with is small, and held as it is
record Held (a b : ℕ) (x y : ℤ) : Type 0 where
  x_most : nat_abs x ≤ 2 ^ 16
  times_most : nat_abs (pos (a / b) *ℤ y) ≤ 2 ^ 16
  quotient_is : to_z w32 (a / b) ≡ pos (a / b)
  x_is : to_z w32 (of_z w32 x) ≡ x
  y_is : to_z w32 (of_z w32 y) ≡ y
  times_is : to_z w32 (of_z w32 (pos (a / b) *ℤ y)) ≡ pos (a / b) *ℤ y

held_small : (z : ℤ) → nat_abs z ≤ 2 ^ 16 → to_z w32 (of_z w32 z) ≡ z
held_small z h = to_z-of_z w32 z (omega (arith, ints))

held : (a b g : ℕ) (x y : ℤ) → 0 < b → a < 2 ^ 16 → b < 2 ^ 16 → Bezout b (a % b) g x y → Held a b x y
held a b g x y some a-fits b-fits t =
    let less : a % b < b = mod-lt a some in
    let x_small : nat_abs x ≤ max (a % b) 1 = t.x_small in
    let y_small : nat_abs y ≤ max b 1 = t.y_small in
    let grown : a / b * nat_abs y ≤ a / b * b = mul-le-mul_left (a / b) (omega arith) in
    let whole : b * (a / b) + a % b ≡ a = div-add-mod a b in
    let x_most : nat_abs x ≤ 2 ^ 16 = omega arith in
    let times_most : nat_abs (pos (a / b) *ℤ y) ≤ 2 ^ 16 = rw abs_times (omega arith) in
    record {
      x_most = x_most;
      times_most = times_most;
      quotient_is = to_z_pos w32 (a / b) (omega arith);
      x_is = held_small x x_most;
      y_is = held_small y (omega arith);
      times_is = held_small (pos (a / b) *ℤ y) times_most;
    }

pub overflow_mul-result : goal.overflow_mul-result
overflow_mul-result t c =
    let h = held c.args.a c.args.b _ _ _ (omega arith) (omega arith) (omega arith) c.extended_gcd-divisor.ensures in
    simp (h.quotient_is, h.y_is) (omega (arith, ints, h.times_most))

pub overflow_sub-result : goal.overflow_sub-result
overflow_sub-result t c =
    let h = held c.args.a c.args.b _ _ _ (omega arith) (omega arith) (omega arith) c.extended_gcd-divisor.ensures in
    simp (h.quotient_is, h.y_is, h.x_is, h.times_is) (omega (arith, ints, h.times_most, h.x_most))

pub returns-then-b-eq0 : goal.returns-then-b-eq0
returns-then-b-eq0 t c = bezout_none c.args.a c.args.b c.if-b-eq0.true

pub returns-else-b-eq0 : goal.returns-else-b-eq0
returns-else-b-eq0 t c =
    let h = held c.args.a c.args.b _ _ _ (omega arith) (omega arith) (omega arith) c.extended_gcd-divisor.ensures in
    let x = c.extended_gcd-divisor.result.1 in
    let y = c.extended_gcd-divisor.result.2 in
    let rest : to_z w32 (of_z w32 (x -ℤ (pos (c.args.a / c.args.b) *ℤ y))) ≡ x -ℤ (pos (c.args.a / c.args.b) *ℤ y)
    = to_z-of_z w32 _ (omega (arith, ints, h.times_most, h.x_most)) in
    simp (h.quotient_is, h.y_is, h.x_is, h.times_is, rest) (bezout_more c.args.a c.args.b _ _ _ (omega arith) c.extended_gcd-divisor.ensures)
