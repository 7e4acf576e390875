-- A code that is written into a byte, and the codes of bytes after it.
use Rattle.std.proofs.Common.{◌≡◌, ℕ, ◌+◌, ◌-◌, ◌*◌, ◌/◌, ◌%◌, ◌^◌, ◌<◌, ◌≤◌, cond, eqb, ◌≢◌, List, length, get_or, set, sym, ap, ◌∙◌, ⊎_elim, mul_assoc, mul_comm, add-mul, mul-add, arith, get_or-set_other, get_or-set_same}
use native.Mathlib.Nat.{add-mul-mod_self_right}
use lib.Arith.{digits_lt}
use Rattle.std.proofs.lemmas.Bool.{cases_eq, cases_order, cond-true, cond-false, eq-eqb, ne_eqb}
use Rattle.std.proofs.lemmas.Nat.{pow_pos, pow-add, shr-shr, shr_split, shr_high, mod-pow-add, mod_low, field_of, shr_below, mod_below, div-add-mod', mul-le}
use Rattle.stores.specs.Packed.{code_in, code_at, per_byte_of, replaced}

low_lt : (x e b v : ℕ) → v < 2 ^ b → v * 2 ^ e + x % 2 ^ e < 2 ^ (e + b)
low_lt x e b v h =
    omega (arith, digits_lt {q = v} {m = 2 ^ b} {r = x % 2 ^ e} {c = 2 ^ e} h (mod_below x (2 ^ e) (pow_pos e)), pow-add 2 e b, mul_comm (2 ^ e) (2 ^ b))

pub replaced_lt : (x e b v : ℕ) → x < 2 ^ 8 → e + b ≤ 8 → v < 2 ^ b → replaced x e b v < 2 ^ 8
replaced_lt x e b v small room h =
    let t : (8 - (e + b)) + (e + b) ≡ 8 = omega arith in
    let top : x < 2 ^ ((8 - (e + b)) + (e + b)) = rw t small in
    let all = digits_lt {q = x / 2 ^ (e + b)} {m = 2 ^ (8 - (e + b))} {r = v * 2 ^ e + x % 2 ^ e} {c = 2 ^ (e + b)} (shr_below x (8 - (e + b)) (e + b) top) (low_lt x e b v h) in
    omega (arith, all, pow-add 2 (8 - (e + b)) (e + b), ap (λ n. 2 ^ n) t)

replaced_as : (x e b v : ℕ) → replaced x e b v ≡ (x / 2 ^ (e + b) * 2 ^ b + v) * 2 ^ e + x % 2 ^ e
replaced_as x e b v =
    omega (arith, add-mul (x / 2 ^ (e + b) * 2 ^ b) v (2 ^ e), mul_assoc (x / 2 ^ (e + b)) (2 ^ b) (2 ^ e), ap (λ n. x / 2 ^ (e + b) * n) (pow-add 2 e b ∙ mul_comm (2 ^ e) (2 ^ b)))

-- as code replaces it: the old code taken away, and the new one added
pub replaced_by : (x e b v : ℕ) → x - x / 2 ^ e % 2 ^ b * 2 ^ e + v * 2 ^ e ≡ replaced x e b v
replaced_by x e b v =
    let t : b + e ≡ e + b = omega arith in
    omega (arith, shr_split x (e + b), mod-pow-add x b e, ap (λ n. x % 2 ^ n) t)

here : (x e b v : ℕ) → v < 2 ^ b → replaced x e b v / 2 ^ e % 2 ^ b ≡ v
here x e b v h =
    ap (λ y. y / 2 ^ e % 2 ^ b) (replaced_as x e b v)
    ∙ ap (λ y. y % 2 ^ b) (shr_high (x / 2 ^ (e + b) * 2 ^ b + v) e (x % 2 ^ e) (mod_below x (2 ^ e) (pow_pos e)))
    ∙ mod_low (x / 2 ^ (e + b)) b v h

-- the bits above
above : (x e b v d : ℕ) → v < 2 ^ b → e + b ≤ d → replaced x e b v / 2 ^ d ≡ x / 2 ^ d
above x e b v d h room =
    let t : (e + b) + (d - (e + b)) ≡ d = omega arith in
    let s = shr-shr (replaced x e b v) (e + b) (d - (e + b)) ∙ ap (λ n. replaced x e b v / 2 ^ n) t in
    let u = shr-shr x (e + b) (d - (e + b)) ∙ ap (λ n. x / 2 ^ n) t in
    let split : replaced x e b v ≡ x / 2 ^ (e + b) * 2 ^ (e + b) + (v * 2 ^ e + x % 2 ^ e) = omega arith in
    let q : replaced x e b v / 2 ^ (e + b) ≡ x / 2 ^ (e + b) = ap (λ y. y / 2 ^ (e + b)) split ∙ shr_high (x / 2 ^ (e + b)) (e + b) (v * 2 ^ e + x % 2 ^ e) (low_lt x e b v h) in
    sym s ∙ ap (λ y. y / 2 ^ (d - (e + b))) q ∙ u

-- a multiple of a higher power does not show below
low : (y e f w : ℕ) → f ≤ e → (w * 2 ^ e + y) % 2 ^ f ≡ y % 2 ^ f
low y e f w room =
    let t : (e - f) + f ≡ e = omega arith in
    let s : w * 2 ^ e ≡ (w * 2 ^ (e - f)) * 2 ^ f = ap (λ n. w * n) (ap (λ n. 2 ^ n) (sym t) ∙ pow-add 2 (e - f) f) ∙ sym (mul_assoc w (2 ^ (e - f)) (2 ^ f)) in
    let r : w * 2 ^ e + y ≡ y + (w * 2 ^ (e - f)) * 2 ^ f = omega (arith, s) in
    ap (λ n. n % 2 ^ f) r ∙ add-mul-mod_self_right y (w * 2 ^ (e - f)) (2 ^ f)

below : (x e b v d : ℕ) → d + b ≤ e → replaced x e b v / 2 ^ d % 2 ^ b ≡ x / 2 ^ d % 2 ^ b
below x e b v d room =
    let near : b + d ≤ e = omega arith in
    let both : replaced x e b v % 2 ^ (b + d) ≡ x % 2 ^ (b + d) =
    ap (λ y. y % 2 ^ (b + d)) (replaced_as x e b v) ∙ low (x % 2 ^ e) e (b + d) (x / 2 ^ (e + b) * 2 ^ b + v) near
    ∙ sym (low (x % 2 ^ e) e (b + d) (x / 2 ^ e) near) ∙ ap (λ y. y % 2 ^ (b + d)) (div-add-mod' x (2 ^ e)) in
    sym (field_of (replaced x e b v) b d) ∙ ap (λ y. y / 2 ^ d) both ∙ field_of x b d

-- the codes of the byte, after the k-th is written
pub written_in : (x b k v m : ℕ) → v < 2 ^ b → code_in b (replaced x (b * k) b v) m ≡ cond (eqb m k) v (code_in b x m)
written_in x b k v m h = ⊎_elim
    (λ (e : m ≡ k). ap (λ i. code_in b (replaced x (b * k) b v) i) e ∙ here x (b * k) b v h ∙ sym (cond-true (eqb m k) _ _ (eq-eqb m k e)))
    (⊎_elim
    (λ (l : m < k).
    let step : b * m + b ≤ b * k = omega (arith, mul-le b (m + 1) b k (omega arith) (omega arith), mul-add b m 1) in
    below x (b * k) b v (b * m) step ∙ sym (cond-false (eqb m k) _ _ (ne_eqb m k (λ e. omega arith))))
    (λ (l : k < m).
    let step : b * k + b ≤ b * m = omega (arith, mul-le b (k + 1) b m (omega arith) (omega arith), mul-add b k 1) in
    ap (λ y. y % 2 ^ b) (above x (b * k) b v (b * m) h step) ∙ sym (cond-false (eqb m k) _ _ (ne_eqb m k (λ e. omega arith)))))
    (cases_order m k)

-- the codes of the bytes
pub written_at : (b : ℕ) (xs : List ℕ) (p v q : ℕ) → v < 2 ^ b → p / per_byte_of b < length xs
    → code_at b (set xs (p / per_byte_of b) (replaced (get_or xs (p / per_byte_of b) 0) (b * (p % per_byte_of b)) b v)) q ≡ cond (eqb q p) v (code_at b xs q)
written_at b xs p v q h room =
    let per = per_byte_of b in
    let y = replaced (get_or xs (p / per) 0) (b * (p % per)) b v in
    ⊎_elim
    (λ (e : q / per ≡ p / per).
    let byte : get_or (set xs (p / per) y) (q / per) 0 ≡ y = ap (λ i. get_or (set xs (p / per) y) i 0) e ∙ get_or-set_same xs (p / per) y 0 room in
    let old : get_or xs (p / per) 0 ≡ get_or xs (q / per) 0 = ap (λ i. get_or xs i 0) (sym e) in
    let tests : eqb (q % per) (p % per) ≡ eqb q p = ⊎_elim
    (λ (r : q ≡ p). eq-eqb _ _ (ap (λ n. n % per) r) ∙ sym (eq-eqb q p r))
    (λ (d : q ≡ p → ⊥). ne_eqb _ _ (λ r. d (omega (arith, div-add-mod' q per, div-add-mod' p per, ap (λ n. n * per) e, r))) ∙ sym (ne_eqb q p d))
    (cases_eq q p) in
    ap (λ x. code_in b x (q % per)) byte ∙ written_in (get_or xs (p / per) 0) b (p % per) v (q % per) h
    ∙ ap (λ t. cond t v (code_in b (get_or xs (p / per) 0) (q % per))) tests ∙ ap (λ x. cond (eqb q p) v (code_in b x (q % per))) old)
    (λ (d : q / per ≡ p / per → ⊥).
    let ne : q / per ≢ p / per = d in
    ap (λ x. code_in b x (q % per)) (get_or-set_other xs (p / per) (q / per) y 0 ne) ∙ sym (cond-false (eqb q p) _ _ (ne_eqb q p (λ r. d (ap (λ n. n / per) r)))))
    (cases_eq (q / per) (p / per))
