-- How a put changes the number of nonzero entries.
use Rattle.std.proofs.Common.{◌≡◌, ℕ, zero, suc, ◌+◌, ◌*◌, ◌<◌, ◌≤◌, Bool, true, false, cond, ◌&&◌, eqb, refl, sym, ap, ◌∙◌, ⊎_elim, mul-suc, arith}
use mathlib.Core.Path.{fun_ext}
use Rattle.std.proofs.lemmas.Bool.{eq-eqb, ne_eqb, cases_eq, cond-true, cond-false, and_parts, leb-true}
use Rattle.std.proofs.lemmas.Bool.Decides.{nat_tests}
use Rattle.matrix.specs.Matrix.{Matrix, blank, one_if_not_zero, tally, tally_2, count}
use Rattle.matrix.specs.Theorems.{PutCounts}

pub tally_like : (f h : ℕ → ℕ) (n : ℕ) → ((r : ℕ) → f r ≡ h r) → tally f n ≡ tally h n
tally_like f h n e = ap (λ k. tally k n) (fun_ext e)

abbrev put_1 : (ℕ → ℕ) → ℕ → ℕ → (ℕ → ℕ)
put_1 f i v = λ r. cond (eqb r i) v (f r)

tally_above : (f : ℕ → ℕ) (i v n : ℕ) → n < i → tally (put_1 f i v) n ≡ tally f n
unfolding tally
tally_above f i v zero h = refl
tally_above f i v (suc n) h =
    let q : eqb (suc n) i ≡ false = ne_eqb (suc n) i (λ e. omega arith) in
    let e : put_1 f i v (suc n) ≡ f (suc n) = cond-false (eqb (suc n) i) v (f (suc n)) q in
    let low : n < i = omega arith in
    let ih = tally_above f i v n low in
    cc (ap one_if_not_zero e)

pub tally_at : (f : ℕ → ℕ) (i v n : ℕ) → 1 ≤ i → i ≤ n → tally (put_1 f i v) n + one_if_not_zero (f i) ≡ tally f n + one_if_not_zero v
unfolding tally
tally_at f i v zero p q = absurd (omega arith)
tally_at f i v (suc n) p q = ⊎_elim
    (λ (e : suc n ≡ i).
    let top : put_1 f i v (suc n) ≡ v = cond-true (eqb (suc n) i) v (f (suc n)) (eq-eqb (suc n) i e) in
    let low : n < i = omega arith in
    let rest = tally_above f i v n low in
    omega (arith, rest, ap one_if_not_zero top, ap (λ x. one_if_not_zero (f x)) e))
    (λ (d : suc n ≡ i → ⊥).
    let top : put_1 f i v (suc n) ≡ f (suc n) = cond-false (eqb (suc n) i) v (f (suc n)) (ne_eqb (suc n) i d) in
    let low : i ≤ n = omega (arith, d) in
    omega (arith, tally_at f i v n p low, ap one_if_not_zero top))
    (cases_eq (suc n) i)

abbrev put_2 : (ℕ → ℕ → ℕ) → ℕ → ℕ → ℕ → (ℕ → ℕ → ℕ)
put_2 f i j v = λ r c. cond (eqb r i && eqb c j) v (f r c)

and_true : (b c : Bool) → c ≡ true → (b && c) ≡ b
and_true b c e = grind (arith, nat_tests)

and_false : (b c : Bool) → c ≡ false → (b && c) ≡ false
and_false b c e = grind (arith, nat_tests)

other_column : (f : ℕ → ℕ → ℕ) (i j v n c : ℕ) → (c ≡ j → ⊥) → tally (λ r. put_2 f i j v r c) n ≡ tally (λ r. f r c) n
other_column f i j v n c d = tally_like _ _ n (λ r. cond-false (eqb r i && eqb c j) v (f r c) (and_false (eqb r i) (eqb c j) (ne_eqb c j d)))

same_column : (f : ℕ → ℕ → ℕ) (i j v n c : ℕ) → c ≡ j → tally (λ r. put_2 f i j v r c) n ≡ tally (put_1 (λ r. f r c) i v) n
same_column f i j v n c e = tally_like _ _ n (λ r. ap (λ b. cond b v (f r c)) (and_true (eqb r i) (eqb c j) (eq-eqb c j e)))

tally_2_above : (f : ℕ → ℕ → ℕ) (i j v n k : ℕ) → k < j → tally_2 (put_2 f i j v) n k ≡ tally_2 f n k
unfolding tally_2
tally_2_above f i j v n zero h = refl
tally_2_above f i j v n (suc k) h =
    let low : k < j = omega arith in
    let ih = tally_2_above f i j v n k low in
    let top = other_column f i j v n (suc k) (λ e. omega arith) in
    cc

pub tally_2_at : (f : ℕ → ℕ → ℕ) (i j v n k : ℕ) → 1 ≤ i → i ≤ n → 1 ≤ j → j ≤ k → tally_2 (put_2 f i j v) n k + one_if_not_zero (f i j) ≡ tally_2 f n k + one_if_not_zero v
unfolding tally_2
tally_2_at f i j v n zero p q r s = absurd (omega arith)
tally_2_at f i j v n (suc k) p q r s = ⊎_elim
    (λ (e : suc k ≡ j).
    let top = same_column f i j v n (suc k) e in
    let low : k < j = omega arith in
    let rest = tally_2_above f i j v n k low in
    omega (arith, rest, top, tally_at (λ r. f r (suc k)) i v n p q, ap (λ x. one_if_not_zero (f i x)) e))
    (λ (d : suc k ≡ j → ⊥).
    let top = other_column f i j v n (suc k) d in
    let low : j ≤ k = omega (arith, d) in
    omega (arith, tally_2_at f i j v n k p q r low, top))
    (cases_eq (suc k) j)

pub count_put : PutCounts
count_put m p e =
    let ps = and_parts _ _ e in
    let rs = and_parts _ _ ps.0 in
    let cs = and_parts _ _ ps.1 in
    tally_2_at m.at p.row p.column p.code m.rows m.columns (leb-true _ _ rs.0) (leb-true _ _ rs.1) (leb-true _ _ cs.0) (leb-true _ _ cs.1)

pub one_if_not_zero_le : (n : ℕ) → one_if_not_zero n ≤ 1
one_if_not_zero_le zero = omega arith
one_if_not_zero_le (suc n) = omega arith

tally_le : (f : ℕ → ℕ) (n : ℕ) → tally f n ≤ n
unfolding tally
tally_le f zero = omega arith
tally_le f (suc n) = omega (arith, tally_le f n, one_if_not_zero_le (f (suc n)))

tally_2_le : (f : ℕ → ℕ → ℕ) (n k : ℕ) → tally_2 f n k ≤ n * k
unfolding tally_2
tally_2_le f n zero = omega arith
tally_2_le f n (suc k) = omega (arith, tally_2_le f n k, tally_le (λ i. f i (suc k)) n, mul-suc n k)

pub count_le : (m : Matrix) → count m ≤ m.rows * m.columns
count_le m = tally_2_le m.at m.rows m.columns

tally_none : (f : ℕ → ℕ) (n : ℕ) → ((r : ℕ) → f r ≡ 0) → tally f n ≡ 0
unfolding tally
tally_none f zero h = refl
tally_none f (suc n) h = omega (arith, tally_none f n h, ap one_if_not_zero (h (suc n)))

tally_2_none : (f : ℕ → ℕ → ℕ) (n k : ℕ) → ((r c : ℕ) → f r c ≡ 0) → tally_2 f n k ≡ 0
unfolding tally_2
tally_2_none f n zero h = refl
tally_2_none f n (suc k) h = omega (arith, tally_2_none f n k h, tally_none (λ r. f r (suc k)) n (λ r. h r (suc k)))

pub count_blank : (n k : ℕ) → count (blank n k) ≡ 0
count_blank n k = tally_2_none (λ _ _. 0) n k (λ r c. refl)

pub count_empty : (f : ℕ → ℕ → ℕ) → tally_2 f 0 0 ≡ 0
unfolding tally_2
count_empty f = refl

pub count_none : (m : Matrix) → m.rows ≡ 0 → m.columns ≡ 0 → 0 ≡ count m
count_none m r c = sym (ap (tally_2 m.at m.rows) c ∙ ap (λ n. tally_2 m.at n 0) r ∙ count_empty m.at)
