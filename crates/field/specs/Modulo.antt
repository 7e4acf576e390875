-- Products modulo a number, and inverses there: one that is found is the one that is defined.
use Rattle.std.specs.Prelude.{◌≡◌, ℕ, zero, suc, ◌+◌, ◌*◌, ◌/◌, ◌%◌, ◌<◌, Bool, true, false, nat_eq, refl}
use Rattle.std.proofs.Common.{sym, ap, ◌∙◌, ⊎_elim, mul_comm, mul-one, mod-eq_of_lt, zero-mul, arith}
use Rattle.std.proofs.Math.Nat.{mul-add-mod_self_left, div-add-mod, zero-mod}
use Rattle.std.proofs.lemmas.Bool.{cases_eq, cond-true, cond-false, cases_Bool, eqb-true, eq-eqb, ne_eqb, true≢false}
use Rattle.field.specs.Counting.{last_below}
use Rattle.field.specs.Residues.{inverse_modulo}

pub mod_mul_mod : (a b m : ℕ) → (a % m * b) % m ≡ a * b % m
mod_mul_mod a b m =
    let split : a * b ≡ m * (a / m * b) + a % m * b = ap (λ t. t * b) (sym (div-add-mod a m)) ∙ omega arith in
    sym (ap (λ t. t % m) split ∙ mul-add-mod_self_left m (a / m * b) (a % m * b))

pub mul_mod_mod : (a b m : ℕ) → (a * (b % m)) % m ≡ a * b % m
mul_mod_mod a b m = ap (λ t. t % m) (mul_comm a (b % m)) ∙ mod_mul_mod b a m ∙ ap (λ t. t % m) (mul_comm b a)

-- where one number passes, the last that does passes
last_below_passes : (n : ℕ) (t : ℕ → Bool) (i : ℕ) → i < n → t i ≡ true → t (last_below n t) ≡ true
last_below_passes zero t i h e = absurd (omega arith)
last_below_passes (suc n) t i h e =
    ⊎_elim
    (λ here. ap t (cond-true (t n) n (last_below n t) here) ∙ here)
    (λ not-here. ap t (cond-false (t n) n (last_below n t) not-here)
    ∙ ⊎_elim (λ same. absurd (true≢false (sym e ∙ ap t same ∙ not-here)))
    (λ other. last_below_passes n t i (omega arith) e) (cases_eq i n))
    (cases_Bool (t n))

pub last_below_less : (n : ℕ) (t : ℕ → Bool) → 0 < n → last_below n t < n
last_below_less zero t h = h
last_below_less (suc zero) t h = ⊎_elim (λ here. rw here (omega arith)) (λ not-here. rw not-here (omega arith)) (cases_Bool (t 0))
last_below_less (suc (suc n)) t h =
    let more : last_below (suc n) t < suc n = last_below_less (suc n) t (omega arith) in
    ⊎_elim (λ here. rw here (omega arith)) (λ not-here. rw not-here (omega arith)) (cases_Bool (t (suc n)))

last_below_none : (n : ℕ) (t : ℕ → Bool) → ((i : ℕ) → t i ≡ false) → last_below n t ≡ 0
last_below_none zero t h = refl
last_below_none (suc n) t h = cond-false (t n) n (last_below n t) (h n) ∙ last_below_none n t h

-- i = i (a j) = j (a i) = j modulo p
one_inverse : (p a i j : ℕ) → i < p → j < p → a * i % p ≡ 1 → a * j % p ≡ 1 → i ≡ j
one_inverse p a i j h k e f =
    let back : (i j : ℕ) → i < p → a * j % p ≡ 1 → i * (a * j) % p ≡ i = λ i j h f.
    sym (mul_mod_mod i (a * j) p) ∙ ap (λ t. i * t % p) f ∙ ap (λ t. t % p) (mul-one i) ∙ mod-eq_of_lt h in
    let swap : i * (a * j) ≡ j * (a * i) = omega arith in
    sym (back i j h f) ∙ ap (λ t. t % p) swap ∙ back j i k e

pub inverse_is : (p a i : ℕ) → i < p → a * i % p ≡ 1 → inverse_modulo p a ≡ i
inverse_is p a i h e =
    let t : ℕ → Bool = λ i. nat_eq (a * i % p) 1 in
    one_inverse p a (last_below p t) i (last_below_less p t (omega arith)) h (eqb-true _ _ (last_below_passes p t i h (eq-eqb _ _ e))) e

pub inverse_of_zero : (p : ℕ) → inverse_modulo p 0 ≡ 0
inverse_of_zero p =
    last_below_none p (λ i. nat_eq (0 * i % p) 1)
    (λ i. ne_eqb _ _ (λ e. let z : 0 * i % p ≡ 0 = ap (λ t. t % p) (zero-mul i) ∙ zero-mod p in omega arith))
