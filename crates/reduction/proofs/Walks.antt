-- The rows of a column at which it is not 0, as a walk finds them.
use Rattle.std.proofs.Common.{◌≡◌, ℕ, zero, suc, ◌+◌, ◌-◌, ◌<◌, ◌≤◌, Bool, true, false, cond, eqb, List, [], ◌∷◌, ◌++◌, Some, None, Option, sym, refl, ap, ◌∙◌, subst, inl, inr, add-one, arith}
use Rattle.std.proofs.lemmas.Bool.{cases_eq, cond-true, cond-false, eq-eqb, ne_eqb}
use Rattle.matrix.specs.Matrix.{Matrix, Entries, Outside}
use Rattle.matrix.specs.Nonzero.{next_in, last_nonzero_of}
use Rattle.matrix.proofs.Nonzeros.{next_is}
use Rattle.homology.specs.Reduction.{low}
use Rattle.reduction.specs.Pivots.{unless_zero}
use Rattle.reduction.specs.Rows.{nonzero_of, rows_from}

-- rows that are 0 are passed
pub nonzero_skip : (f : ℕ → ℕ) (d r k j : ℕ) → k ≡ d + j → ((i : ℕ) → r ≤ i → i < r + d → f i ≡ 0) → nonzero_of f r k ≡ nonzero_of f (r + d) j
nonzero_skip f zero r k j e zeros = let long : k ≡ j = omega arith in let at : r ≡ r + 0 = omega arith in (λ i. nonzero_of f (at i) (long i))
nonzero_skip f (suc d) r k j e zeros =
    let long : k ≡ suc (d + j) = omega arith in
    let at : suc r + d ≡ r + suc d = omega arith in
    ap (nonzero_of f r) long
    ∙ cond-true _ _ _ (eq-eqb (f r) 0 (zeros r (omega arith) (omega arith)))
    ∙ nonzero_skip f d (suc r) (d + j) j refl (λ i a b. zeros i (omega arith) (omega arith))
    ∙ ap (λ s. nonzero_of f s j) at

module _ (m : Matrix) (out : Outside m) (column first last : ℕ) where
  -- the next row, and those behind it
  pub rows_next : (r : ℕ) → Some r ≡ next_in m column first → r ≤ last → rows_from m column first last ≡ r ∷ rows_from m column (r + 1) last
  rows_next r e l =
      let f : ℕ → ℕ = λ r. m.at r column in
      let h = next_is m column first (Some r) out e in
      let at : first + (r - first) ≡ r = omega (arith, h.0) in
      let long : last + 1 - r ≡ suc (last + 1 - (r + 1)) = omega arith in
      nonzero_skip f (r - first) first (last + 1 - first) (last + 1 - r) (omega (arith, h.0)) (λ i a b. h.2 i a (omega (arith, h.0)))
      ∙ (λ i. nonzero_of f (at i) (long i))
      ∙ cond-false _ _ _ (ne_eqb (f r) 0 h.1)
      ∙ ap (λ s. r ∷ nonzero_of f s (last + 1 - (r + 1))) (sym (add-one r))

  -- no row any more
  none_left : ((i : ℕ) → first ≤ i → i ≤ last → m.at i column ≡ 0) → rows_from m column first last ≡ []
  none_left zeros = nonzero_skip (λ r. m.at r column) (last + 1 - first) first (last + 1 - first) 0 (omega arith) (λ i a b. zeros i a (omega arith))

  pub rows_end : (o : Option ℕ) → o ≡ next_in m column first → ((r : ℕ) → o ≡ Some r → last < r) → rows_from m column first last ≡ []
  rows_end None e l = none_left (λ i a b. next_is m column first None out e i a)
  rows_end (Some r) e l = none_left (λ i a b. (next_is m column first (Some r) out e).2 i a (omega (arith, l r refl)))

pub some_is : (r q n : ℕ) → ◌≡◌ {A = Option ℕ} (Some r) (Some q) → n < r → n < q
some_is r q n e l = let same : r ≡ q = cc e in omega (arith, same)

-- the last row of a stretch
pub nonzero_last : (f : ℕ → ℕ) (r k : ℕ) → nonzero_of f r (suc k) ≡ nonzero_of f r k ++ cond (eqb (f (r + k)) 0) [] ((r + k) ∷ [])
nonzero_last f r zero = let at : r ≡ r + 0 = omega arith in ap (λ s. cond (eqb (f s) 0) [] (s ∷ [])) at
nonzero_last f r (suc k) =
    let at : suc r + k ≡ r + suc k = omega arith in
    ap (λ rs. cond (eqb (f r) 0) rs (r ∷ rs)) (nonzero_last f (suc r) k ∙ ap (λ s. nonzero_of f (suc r) k ++ cond (eqb (f s) 0) [] (s ∷ [])) at)
    ∙ joined (eqb (f r) 0) (nonzero_of f (suc r) k) _
  where
    joined : (b : Bool) (xs ys : List ℕ) → cond b (xs ++ ys) (r ∷ (xs ++ ys)) ≡ cond b xs (r ∷ xs) ++ ys
    joined true xs ys = refl
    joined false xs ys = refl

-- those of the whole column
pub rows_all : (m : Matrix) (column last : ℕ) → nonzero_of (λ r. m.at r column) 1 last ≡ rows_from m column 1 last
rows_all m column last = let long : last ≡ last + 1 - 1 = omega arith in ap (nonzero_of (λ r. m.at r column) 1) long

-- the last row that is not 0 is the low
pub low_last : (M : Entries) (j e : ℕ) → last_nonzero_of (λ r. M r j) e ≡ unless_zero (low e M j)
low_last M j zero = refl
low_last M j (suc e) = elim (cases_eq (M (suc e) j) 0) [
  | inl z ↦ cond-true _ _ _ (eq-eqb (M (suc e) j) 0 z) ∙ low_last M j e ∙ ap unless_zero (sym (cond-true _ _ _ (eq-eqb (M (suc e) j) 0 z)))
  | inr n ↦ cond-false _ _ _ (ne_eqb (M (suc e) j) 0 n) ∙ ap unless_zero (sym (cond-false _ _ _ (ne_eqb (M (suc e) j) 0 n)))
]

-- a row as a number, 0 where there is none
abbrev pub or_zero : Option ℕ → ℕ
or_zero None = 0
or_zero (Some r) = r

pub or_zero_most : (f : ℕ → ℕ) (e : ℕ) → or_zero (last_nonzero_of f e) ≤ e
or_zero_most f zero = omega arith
or_zero_most f (suc e) = elim (cases_eq (f (suc e)) 0) [
  | inl z ↦ omega (arith, ap or_zero (cond-true _ (last_nonzero_of f e) (Some (suc e)) (eq-eqb (f (suc e)) 0 z)), or_zero_most f e)
  | inr n ↦ omega (arith, ap or_zero (cond-false _ (last_nonzero_of f e) (Some (suc e)) (ne_eqb (f (suc e)) 0 n)))
]

-- the rows are those of a column of n rows
abbrev pub Between : ℕ → List ℕ → Type 0
Between n [] = Unit {0}
Between n (r ∷ rs) = (1 ≤ r) × (r ≤ n) × Between n rs

pub nonzero_between : (f : ℕ → ℕ) (n r k : ℕ) → 1 ≤ r → r + k ≤ n + 1 → Between n (nonzero_of f r k)
nonzero_between f n r zero a b = tt
nonzero_between f n r (suc k) a b = elim (cases_eq (f r) 0) [
  | inl z ↦ subst (Between n) (sym (cond-true _ _ _ (eq-eqb (f r) 0 z))) (nonzero_between f n (suc r) k (omega arith) (omega arith))
  | inr d ↦ subst (Between n) (sym (cond-false _ _ _ (ne_eqb (f r) 0 d))) (a, omega arith, nonzero_between f n (suc r) k (omega arith) (omega arith))
]
