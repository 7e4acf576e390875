-- Euclid's divisions with multipliers, step by step, and the inverse modulo a prime that they give.
use Rattle.std.specs.Prelude.{◌≡◌, ℕ, zero, suc, ◌+◌, ◌*◌, ◌/◌, ◌%◌, ◌<◌, ◌≤◌, max, ℤ, pos, negsuc, ◌+ℤ◌, ◌-ℤ◌, ◌*ℤ◌, neg_ℤ, unsigned_abs, refl}
use Rattle.std.proofs.Common.{sym, ap, ◌∙◌, ⊎_elim, mod-lt, mul-le-mul_left, mod-eq_of_lt, arith}
use Rattle.std.proofs.Math.Nat.{div-add-mod, dvd_refl, dvd-zero, dvd-mod_iff, pos_of_dvd_of_pos, mod-eq-zero_of_dvd, le_of_dvd, mul-add-mod_self_left}
use borrow.Author.Differences.{up, down, sum_is_lem, product_is, neg_is}
use Rattle.std.proofs.lemmas.Int.{ints, int_rem_euclid_is}
use Rattle.std.proofs.lemmas.Bool.{cases_eq}
use Rattle.std.specs.Int.{int_rem_euclid}
use Rattle.field.specs.Divisors.{Bezout}
use Rattle.field.specs.Primes.{OddPrime}
use Rattle.field.specs.Residues.{inverse_modulo}
use Rattle.field.specs.Modulo.{mul_mod_mod, inverse_is}

-- a number times a sum, a product and an opposite of integers
times_sum : (b : ℕ) (x z : ℤ) → pos b *ℤ (x +ℤ z) ≡ (pos b *ℤ x) +ℤ (pos b *ℤ z)
times_sum b x z =
    let times : b * (up (x +ℤ z) + down x + down z) ≡ b * (down (x +ℤ z) + up x + up z) = ap (λ t. b * t) (sum_is_lem x z) in
    omega (arith, ints)

times_times : (b q : ℕ) (y : ℤ) → pos b *ℤ (pos q *ℤ y) ≡ pos (b * q) *ℤ y
times_times b q y =
    let ups : b * up (pos q *ℤ y) ≡ b * (q * up y) = ap (λ t. b * t) ((product_is (pos q) y).0 ∙ omega arith) in
    let downs : b * down (pos q *ℤ y) ≡ b * (q * down y) = ap (λ t. b * t) ((product_is (pos q) y).1 ∙ omega arith) in
    omega (arith, ints)

times_opposite : (b : ℕ) (z : ℤ) → pos b *ℤ neg_ℤ z ≡ neg_ℤ (pos b *ℤ z)
times_opposite b z =
    let ups : b * up (neg_ℤ z) ≡ b * down z = ap (λ t. b * t) (neg_is z).0 in
    let downs : b * down (neg_ℤ z) ≡ b * up z = ap (λ t. b * t) (neg_is z).1 in
    omega (arith, ints)

-- what a combination of b and r is as one of b q + r and b
recombined : (b q r : ℕ) (x y : ℤ) → (pos (b * q + r) *ℤ y) +ℤ (pos b *ℤ (x -ℤ (pos q *ℤ y))) ≡ (pos b *ℤ x) +ℤ (pos r *ℤ y)
recombined b q r x y =
    let apart : pos b *ℤ (x -ℤ (pos q *ℤ y)) ≡ (pos b *ℤ x) -ℤ (pos (b * q) *ℤ y)
    = times_sum b x (neg_ℤ (pos q *ℤ y)) ∙ ap (λ t. (pos b *ℤ x) +ℤ t) (times_opposite b (pos q *ℤ y) ∙ ap neg_ℤ (times_times b q y)) in
    ap (λ t. (pos (b * q + r) *ℤ y) +ℤ t) apart ∙ omega (arith, ints)

abs_opposite : (k : ℕ) → unsigned_abs (neg_ℤ (pos k)) ≡ k
abs_opposite zero = refl
abs_opposite (suc k) = refl

pub abs_times : (q : ℕ) (y : ℤ) → unsigned_abs (pos q *ℤ y) ≡ q * unsigned_abs y
abs_times q (pos n) = refl
abs_times q (negsuc n) = abs_opposite (q * suc n)

abs_difference : (x z : ℤ) → unsigned_abs (x -ℤ z) ≤ unsigned_abs x + unsigned_abs z
abs_difference x z = omega (arith, ints)

pub bezout_none : (a b : ℕ) → b ≡ 0 → Bezout a b a (pos 1) (pos 0)
bezout_none a b e = record {
  divides_left = dvd_refl a;
  divides_right = rw e (dvd-zero a);
  greatest = λ d l r. l;
  combined = omega (arith, ints);
  x_small = omega arith;
  y_small = omega arith;
  at_end = λ _. refl;
}

pub bezout_more : (a b g : ℕ) (x y : ℤ) → 0 < b → Bezout b (a % b) g x y → Bezout a b g y (x -ℤ (pos (a / b) *ℤ y))
bezout_more a b g x y some t =
    let q : ℕ = a / b in
    let r : ℕ = a % b in
    let whole : b * q + r ≡ a = div-add-mod a b in
    let y_most : unsigned_abs y ≤ b = let h : unsigned_abs y ≤ max b 1 = t.y_small in omega arith in
    let grown : q * unsigned_abs y ≤ q * b = mul-le-mul_left q y_most in
    let tall : unsigned_abs (x -ℤ (pos q *ℤ y)) ≤ unsigned_abs x + q * unsigned_abs y = rw abs_times at (abs_difference x (pos q *ℤ y)) in
    let x_most : unsigned_abs x ≤ max r 1 = t.x_small in
    record {
      divides_left = (dvd-mod_iff g t.divides_left).0 t.divides_right;
      divides_right = t.divides_left;
      greatest = λ d l k. t.greatest d k ((dvd-mod_iff d k).1 l);
      combined = ap (λ n. (pos n *ℤ y) +ℤ (pos b *ℤ (x -ℤ (pos q *ℤ y)))) (sym whole) ∙ recombined b q r x y ∙ t.combined;
      x_small = omega arith;
      y_small = ⊎_elim
          (λ none. let flat : q * unsigned_abs y ≡ 0 = ap (λ z. q * unsigned_abs z) (t.at_end none) ∙ omega arith in omega arith)
          (λ left. omega arith)
          (cases_eq r 0);
      at_end = λ e. absurd (omega arith);
    }

-- the divisions end, since the remainder falls
pub bezout : (n a b : ℕ) → b ≤ n → (g : ℕ) × (x : ℤ) × (y : ℤ) × Bezout a b g x y
bezout zero a b h = (a, pos 1, pos 0, bezout_none a b (omega arith))
bezout (suc n) a b h =
    ⊎_elim
    (λ none. (a, pos 1, pos 0, bezout_none a b none))
    (λ left.
    let less : a % b < b = mod-lt a (omega arith) in
    let t = bezout n b (a % b) (omega arith) in
    (t.0, t.2, t.1 -ℤ (pos (a / b) *ℤ t.2), bezout_more a b t.0 t.1 t.2 (omega arith) t.3))
    (cases_eq b 0)

-- a prime and a smaller number have no common divisor but 1
coprime : (p a g : ℕ) (x y : ℤ) → OddPrime p → 0 < a → a < p → Bezout a p g x y → g ≡ 1
coprime p a g x y o some within t =
    let above : 0 < g = pos_of_dvd_of_pos t.divides_left some in
    let small : g ≤ a = le_of_dvd some t.divides_left in
    ⊎_elim (λ same. same)
    (λ other. absurd (o.prime g (omega arith) (omega arith) (mod-eq-zero_of_dvd g t.divides_right)))
    (cases_eq g 1)

-- a x + p y = 1, with m = x + p: a m = p (a - y) + 1
inverts : (p a m : ℕ) (x y : ℤ) → 2 ≤ p → 0 < a → (pos a *ℤ x) +ℤ (pos p *ℤ y) ≡ pos 1 → unsigned_abs y ≤ max a 1 → x +ℤ pos p ≡ pos m → a * m % p ≡ 1
inverts p a m x y two some unit small moved =
    let n : ℕ = unsigned_abs (pos a -ℤ y) in
    let rest : pos a +ℤ neg_ℤ y ≡ pos n = omega (arith, ints) in
    let lefts : pos (a * m) ≡ (pos a *ℤ x) +ℤ pos (a * p) = sym (ap (λ t. pos a *ℤ t) moved) ∙ times_sum a x (pos p) in
    let rights : pos (p * n) ≡ pos (p * a) +ℤ neg_ℤ (pos p *ℤ y)
    = sym (ap (λ t. pos p *ℤ t) rest) ∙ times_sum p (pos a) (neg_ℤ y) ∙ ap (λ t. pos (p * a) +ℤ t) (times_opposite p y) in
    let whole : a * m ≡ p * n + 1 = omega (arith, ints) in
    ap (λ t. t % p) whole ∙ mul-add-mod_self_left p n 1 ∙ mod-eq_of_lt (omega arith)

-- the multiplier of a, taken modulo p, is the inverse of a, and a times it is 1
module _ (p a g : ℕ) (x y : ℤ) (o : OddPrime p) (some : 0 < a) (within : a < p) (t : Bezout a p g x y) where
  -- x + p, which is not negative
  abbrev pub m : ℕ
  m = unsigned_abs (x +ℤ pos p)

  moved : x +ℤ pos p ≡ pos m
  moved = let near : unsigned_abs x ≤ max p 1 = t.x_small in omega (arith, ints)

  pub multiplier_inverts : a * (m % p) % p ≡ 1
  multiplier_inverts =
      let low : 3 ≤ p = o.least in
      mul_mod_mod a m p ∙ inverts p a m x y (omega arith) some (t.combined ∙ ap pos (coprime p a g x y o some within t)) t.y_small moved

  pub inverse_found : inverse_modulo p a ≡ m % p
  inverse_found = inverse_is p a (m % p) (mod-lt m (omega arith)) multiplier_inverts

  pub remainder_found : int_rem_euclid x (pos p) ≡ pos (inverse_modulo p a)
  remainder_found =
      let moved_once : x +ℤ pos (1 * p) ≡ pos m = ap (λ k. x +ℤ pos k) (omega arith) ∙ moved in
      int_rem_euclid_is x (pos p) p 1 m (omega arith) refl moved_once ∙ ap pos (sym inverse_found)

-- so every code but 0 has an inverse
pub has_inverse : (p a : ℕ) → OddPrime p → 0 < a → a < p → a * inverse_modulo p a % p ≡ 1
has_inverse p a o some within =
    let t = bezout p a p (omega arith) in
    ap (λ i. a * i % p) (inverse_found p a t.0 t.1 t.2 o some within t.3) ∙ multiplier_inverts p a t.0 t.1 t.2 o some within t.3
