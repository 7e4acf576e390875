-- The numbers modulo an odd prime are a field.
use Rattle.std.specs.Prelude.{◌≡◌, ℕ, ◌+◌, ◌-◌, ◌*◌, ◌%◌, ◌<◌, ◌≤◌, nat_eq}
use Rattle.std.proofs.Common.{sym, ap, ◌∙◌, add_comm, add_assoc, mul_comm, mul_assoc, mul-one, mul-add, mod-lt, mod-eq_of_lt, arith}
use Rattle.std.proofs.Math.Nat.{mod_self, mod-add-mod, add-mod-mod, add-mod}
use Rattle.field.specs.Arithmetic.{FieldLaws}
use Rattle.field.specs.Primes.{OddPrime}
use Rattle.field.specs.Residues.{residues, prime_field}
use Rattle.field.specs.Euclid.{has_inverse}
use Rattle.field.specs.Guarding.{CodeLaws, guard_laws}
use Rattle.field.specs.Modulo.{mod_mul_mod, mul_mod_mod, last_below_less, inverse_of_zero}

residue_laws : (p : ℕ) → OddPrime p → CodeLaws (residues p)
residue_laws p o =
    let low : 3 ≤ p = o.least in
    let high : p ≤ 251 = o.most in
    let some : 0 < p = omega arith in
    record {
      least = omega arith;
      most = omega arith;
      sum_code = λ a b h k. mod-lt (a + b) some;
      negative_code = λ a h. mod-lt (p - a) some;
      product_code = λ a b h k. mod-lt (a * b) some;
      inverse_code = λ a h. last_below_less p (λ i. nat_eq (a * i % p) 1) some;
      sum_comm = λ a b h k. ap (λ t. t % p) (add_comm a b);
      sum_assoc = λ a b c h k l. mod-add-mod (a + b) p c ∙ ap (λ t. t % p) (add_assoc a b c) ∙ sym (add-mod-mod a (b + c) p);
      sum_zero = λ a h. ap (λ t. t % p) (omega arith) ∙ mod-eq_of_lt h;
      product_comm = λ a b h k. ap (λ t. t % p) (mul_comm a b);
      product_assoc = λ a b c h k l. mod_mul_mod (a * b) c p ∙ ap (λ t. t % p) (mul_assoc a b c) ∙ sym (mul_mod_mod a (b * c) p);
      product_one = λ a h. ap (λ t. t % p) (mul-one a) ∙ mod-eq_of_lt h;
      distributes = λ a b c h k l. mul_mod_mod a (b + c) p ∙ ap (λ t. t % p) (mul-add a b c) ∙ add-mod (a * b) (a * c) p;
      sum_negative = λ a h. add-mod-mod a (p - a) p ∙ ap (λ t. t % p) (let e : a + (p - a) ≡ p = omega arith in e) ∙ mod_self p;
      product_inverse = λ a h n. has_inverse p a o (omega arith) h;
      inverse_zero = inverse_of_zero p;
    }

pub prime_laws : (p : ℕ) → OddPrime p → FieldLaws (prime_field p)
prime_laws p o = guard_laws (residues p) (residue_laws p o)
