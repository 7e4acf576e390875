-- The puts of loading and reducing are all taken exactly if the peak is within a store's limit.
use Rattle.std.proofs.Common.{◌≡◌, ℕ, zero, suc, ◌+◌, ◌≤◌, max, Bool, true, false, cond, not, ◌&&◌, eqb, leb, List, [], ◌∷◌, Some, None, Option, sym, refl, ap, ◌∙◌, inl, inr, arith}
use Rattle.std.specs.List.{AllByRecursion}
use Rattle.std.proofs.ByRecursion.{All-append}
use Rattle.std.proofs.lemmas.Bool.{cases_lt, le-leb, lt-leb}
use Rattle.std.proofs.lemmas.Bool.Decides.{nat_tests}
use Rattle.field.specs.Arithmetic.{Arithmetic}
use Rattle.matrix.specs.declared.put.Put.{Put}
use Rattle.matrix.specs.Matrix.{Matrix, Entries, within, inside, blank, one_if_not_zero, count, put_at, put_into, highest}
use Rattle.matrix.specs.Theorems.{Fits}
use Rattle.matrix.proofs.Counts.{count_put, count_blank}
use Rattle.matrix.proofs.Puts.{highest_first, highest_tells}
use Rattle.complex.specs.Systems.{starting}
use Rattle.homology.specs.Reduction.{due, factor, added, Addition, column_puts, loading, addition_puts, course, enough, reduction, all_puts}
use Rattle.homology.specs.Theorems.{takes_all, PeakTells, PeakRefuses}
use Rattle.homology.proofs.Columns.{Coded, starting_codes}
use Rattle.homology.proofs.Lows.{due_to}
use Rattle.homology.proofs.Additions.{turn, added_codes}

-- What holds of each put of loading and reducing: P, if it holds of an entry of the starting matrix put into its own place, and of an
-- entry of a sum, for matrices of which I holds.
module _ (P : Put → Type 0) where
  all_unless : (b : Bool) (p : Put) → P p → AllByRecursion P (cond b [] (p ∷ []))
  all_unless true p h = tt
  all_unless false p h = (h, tt)

  column_all : (n : ℕ) (A : Entries) (c : ℕ) → ((r : ℕ) → 1 ≤ r → r ≤ n → P (put_at r c (A r c))) → AllByRecursion P (column_puts n A c)
  column_all zero A c h = tt
  column_all (suc n) A c h = All-append P (column_puts n A c) _ (column_all n A c (λ r l m. h r l (omega arith))) (all_unless (eqb (A (suc n) c) 0) _ (h (suc n) (omega arith) (omega arith)))

  loading_all : (R : ℕ) (A : Entries) (n : ℕ) → ((r c : ℕ) → 1 ≤ r → r ≤ R → 1 ≤ c → c ≤ n → P (put_at r c (A r c))) → AllByRecursion P (loading R A n)
  loading_all R A zero h = tt
  loading_all R A (suc n) h =
      All-append P (loading R A n) (column_puts R A (suc n)) (loading_all R A n (λ r c a b l m. h r c a b l (omega arith))) (column_all R A (suc n) (λ r l m. h r (suc n) l m (omega arith) (omega arith)))

  -- what an addition puts into row r
  abbrev sum_put : Arithmetic → Entries → Addition → ℕ → Put
  sum_put F M a r = put_at r a.to (F.sum (M r a.to) (F.product (factor F M a) (M r a.from)))

  addition_all : (F : Arithmetic) (n : ℕ) (M : Entries) (a : Addition) → ((r : ℕ) → 1 ≤ r → r ≤ n → P (sum_put F M a r)) → AllByRecursion P (addition_puts F n M a)
  addition_all F zero M a h = tt
  addition_all F (suc n) M a h =
      All-append P (addition_puts F n M a) _ (addition_all F n M a (λ r l m. h r l (omega arith))) (all_unless (eqb (M (suc n) a.from) 0) _ (h (suc n) (omega arith) (omega arith)))

  module _ (F : Arithmetic) (E T : ℕ) (I : Entries → Type 0) (keeps : (M : Entries) (a : Addition) → I M → I (added F M a))
      (puts : (M : Entries) (a : Addition) (r : ℕ) → I M → 1 ≤ r → r ≤ E + T → 1 ≤ a.to → a.to ≤ T + 1 → P (sum_put F M a r)) where
    course_all : (fuel : ℕ) (M : Entries) → I M → AllByRecursion P (course F E T fuel M).puts
    course_all zero M i = tt
    course_all (suc fuel) M i = go (due E T M) refl (λ a. course_all fuel (added F M a) (keeps M a i))
      where
        go : (r : Option Addition) → due E T M ≡ r → ((a : Addition) → AllByRecursion P (course F E T fuel (added F M a)).puts) → AllByRecursion P (turn F E T fuel M r).puts
        go None e more = tt
        go (Some a) e more =
            let h = due_to E T M a e in
            All-append P (addition_puts F (E + T) M a) (course F E T fuel (added F M a)).puts (addition_all F (E + T) M a (λ r l m. puts M a r i l m h.0 h.1)) (more a)

-- a place in the shape
in_shape : (R C r c : ℕ) → 1 ≤ r → r ≤ R → 1 ≤ c → c ≤ C → inside R C r c ≡ true
in_shape R C r c a b d e = grind (arith, nat_tests)

-- A put in the shape is refused exactly if the count would pass the limit; the greatest count decides for all.
full_ways : (old v limit n n' : ℕ) → n ≤ limit → n' + one_if_not_zero old ≡ n + one_if_not_zero v
    → not (eqb old 0 && not (eqb v 0) && leb limit n) ≡ leb n' limit
full_ways zero zero limit n n' h e = grind (arith, nat_tests)
full_ways zero (suc v) limit n n' h e = grind (arith, nat_tests)
full_ways (suc old) zero limit n n' h e = grind (arith, nat_tests)
full_ways (suc old) (suc v) limit n n' h e = grind (arith, nat_tests)

highest_takes : (limit : ℕ) (m : Matrix) (ps : List Put) → AllByRecursion (λ p. within m p.row p.column ≡ true) ps → count m ≤ limit
    → takes_all limit m ps ≡ leb (highest m ps) limit
highest_takes limit m [] w l = sym (le-leb (count m) limit l)
highest_takes limit m (p ∷ ps) w l =
    let n = put_into m p in
    ap (λ b. b && takes_all limit n ps) (full_ways (m.at p.row p.column) p.code limit (count m) (count n) l (count_put m p w.0))
    ∙ elim (cases_lt limit (count n)) [
      | inl over ↦
          ap (λ b. b && takes_all limit n ps) (lt-leb (count n) limit over)
          ∙ sym (lt-leb (max (count m) (highest n ps)) limit (omega (arith, highest_first n ps)))
      | inr under ↦
          ap (λ b. b && takes_all limit n ps) (le-leb (count n) limit under) ∙ highest_takes limit n ps w.1 under ∙ max_ways (count m) (highest n ps) l
    ]
  where
    max_ways : (c h : ℕ) → c ≤ limit → leb h limit ≡ leb (max c h) limit
    max_ways c h l = elim (cases_lt limit h) [
      | inl p ↦ lt-leb h limit p ∙ sym (lt-leb (max c h) limit (omega arith))
      | inr p ↦ le-leb h limit p ∙ sym (le-leb (max c h) limit (omega arith))
    ]

pub peak_tells_lem : PeakTells
peak_tells_lem F S limit =
    let E = S.rows in
    let T = S.columns in
    let P : Put → Type 0 = λ p. inside (E + T) (T + 1) p.row p.column ≡ true in
    highest_takes limit (blank (E + T) (T + 1)) (all_puts F S)
    (All-append P (loading (E + T) (starting S) (T + 1)) (reduction F S).puts
    (loading_all P (E + T) (starting S) (T + 1) (λ r c a b l m. in_shape (E + T) (T + 1) r c a b l m))
    (course_all P F E T (λ _. Unit {0}) (λ M a i. tt) (λ M a r i l m b c. in_shape (E + T) (T + 1) r a.to l m b c) (enough T) (starting S) tt))
    (omega (arith, count_blank (E + T) (T + 1)))

pub peak_refuses_lem : PeakRefuses
peak_refuses_lem F f S coded t bound =
    let E = S.rows in
    let T = S.columns in
    let m = blank (E + T) (T + 1) in
    let P : Put → Type 0 = Fits t m in
    let codes = starting_codes F f S coded in
    highest_tells t m (all_puts F S)
    (All-append P (loading (E + T) (starting S) (T + 1)) (reduction F S).puts
    (loading_all P (E + T) (starting S) (T + 1) (λ r c a b l k. record { place = in_shape (E + T) (T + 1) r c a b l k; code = omega (arith, codes r c) }))
    (course_all P F E T (Coded F) (λ M a i. added_codes F f M i a)
    (λ M a r i l k b c. record { place = in_shape (E + T) (T + 1) r a.to l k b c; code = omega (arith, f.sum_code (M r a.to) (F.product (factor F M a) (M r a.from))) }) (enough T) (starting S) codes))
    (omega (arith, count_blank (E + T) (T + 1)))
