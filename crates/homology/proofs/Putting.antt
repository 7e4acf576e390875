-- The puts of loading and reducing lead from the blank matrix to the reduced one.
use Rattle.std.proofs.Common.{◌≡◌, ℕ, zero, suc, ◌+◌, ◌-◌, ◌≤◌, false, cond, not, ◌&&◌, eqb, ltb, leb, [], ◌∷◌, ◌++◌, Some, None, Option, sym, refl, ap, ◌∙◌, inl, inr, append-nil, arith}
use Rattle.std.proofs.lemmas.Bool.{cases_eq, ne_eqb, eq-eqb, cond-true, cond-false}
use Rattle.std.proofs.lemmas.Bool.Decides.{nat_tests}
use Rattle.field.specs.Arithmetic.{Arithmetic}
use Rattle.matrix.specs.Matrix.{Matrix, Entries, over, blank, inside, Outside, put_at, put_into, played}
use Rattle.matrix.proofs.Matrices.{same_entries}
use Rattle.matrix.proofs.Puts.{played-++}
use Rattle.matrix.proofs.Multiples.{adding_adds_lem}
use Rattle.complex.specs.Systems.{System, starting, starting_matrix}
use Rattle.homology.specs.Reduction.{due, added, Addition, column_puts, loading, addition_puts, course, enough, reduction}
use Rattle.homology.specs.Theorems.{PutsReduce}
use Rattle.homology.proofs.Lows.{due_to}
use Rattle.homology.proofs.Additions.{turn, added_other, added_zero}

-- by cases on where a place lies
none_ways : (c x y a old : ℕ) → cond (eqb y c && (leb 1 x && (leb x 0 && not (eqb a 0)))) a old ≡ old
none_ways c x y a old = grind (arith, nat_tests)

skip_ways : (r c x y a old : ℕ) → (x ≡ suc r → y ≡ c → a ≡ 0)
    → cond (eqb y c && (leb 1 x && (leb x r && not (eqb a 0)))) a old ≡ cond (eqb y c && (leb 1 x && (leb x (suc r) && not (eqb a 0)))) a old
skip_ways r c x y a old z = grind (arith, nat_tests)

put_ways : (r c x y a b old : ℕ) → (x ≡ suc r → y ≡ c → (b ≡ a) × (a ≡ 0 → ⊥))
    → cond (eqb x (suc r) && eqb y c) b (cond (eqb y c && (leb 1 x && (leb x r && not (eqb a 0)))) a old) ≡ cond (eqb y c && (leb 1 x && (leb x (suc r) && not (eqb a 0)))) a old
put_ways r c x y a b old z = grind (arith, nat_tests)

first_ways : (R x y a : ℕ) → 0 ≡ cond (inside R 0 x y) a 0
first_ways R x y a = grind (arith, nat_tests)

next_ways : (R n x y a : ℕ) → cond (eqb y (suc n) && (leb 1 x && (leb x R && not (eqb a 0)))) a (cond (inside R n x y) a 0) ≡ cond (inside R (suc n) x y) a 0
next_ways R n x y a = grind (arith, nat_tests)

inside_ways : (R C x y a : ℕ) → (inside R C x y ≡ false → a ≡ 0) → cond (inside R C x y) a 0 ≡ a
inside_ways R C x y a z = grind (arith, nat_tests)

-- Loading: the puts of a column leave it as it is to be in the rows done, those of the columns so far in each of them.
module _ (A : Entries) where
  abbrev column_done : ℕ → ℕ → Entries → Entries
  column_done r c M x y = cond (eqb y c && (leb 1 x && (leb x r && not (eqb (A x y) 0)))) (A x y) (M x y)

  played_column : (m : Matrix) (r c : ℕ) → played m (column_puts r A c) ≡ over m (column_done r c m.at)
  played_column m zero c = same_entries m _ _ (λ x y. sym (none_ways c x y (A x y) (m.at x y)))
  played_column m (suc r) c = elim (cases_eq (A (suc r) c) 0) [
    | inl z ↦
        ap (λ ps. played m (column_puts r A c ++ ps)) (cond-true (eqb (A (suc r) c) 0) _ _ (eq-eqb _ _ z)) ∙ ap (played m) (append-nil (column_puts r A c)) ∙ played_column m r c
        ∙ same_entries m _ _ (λ x y. skip_ways r c x y (A x y) (m.at x y) (λ p q. ap (λ x. A x y) p ∙ ap (A (suc r)) q ∙ z))
    | inr n ↦
        ap (λ ps. played m (column_puts r A c ++ ps)) (cond-false (eqb (A (suc r) c) 0) _ _ (ne_eqb _ _ n)) ∙ played-++ m (column_puts r A c) (put_at (suc r) c (A (suc r) c) ∷ [])
        ∙ ap (λ k. put_into k (put_at (suc r) c (A (suc r) c))) (played_column m r c)
        ∙ same_entries m _ _ (λ x y. put_ways r c x y (A x y) (A (suc r) c) (m.at x y) (λ p q.
        let same : A x y ≡ A (suc r) c = ap (λ x. A x y) p ∙ ap (A (suc r)) q in
        (sym same, λ z. n (sym same ∙ z))))
  ]

  abbrev columns_done : ℕ → ℕ → Entries
  columns_done R n x y = cond (inside R n x y) (A x y) 0

  played_loading : (R C n : ℕ) → played (blank R C) (loading R A n) ≡ over (blank R C) (columns_done R n)
  played_loading R C zero = same_entries (blank R C) _ _ (λ x y. first_ways R x y (A x y))
  played_loading R C (suc n) =
      played-++ (blank R C) (loading R A n) (column_puts R A (suc n)) ∙ ap (λ k. played k (column_puts R A (suc n))) (played_loading R C n)
      ∙ played_column (over (blank R C) (columns_done R n)) R (suc n) ∙ same_entries (blank R C) _ _ (λ x y. next_ways R n x y (A x y))

  pub loading_loads : (R C : ℕ) → Outside (over (blank R C) A) → played (blank R C) (loading R A C) ≡ over (blank R C) A
  loading_loads R C out = played_loading R C C ∙ same_entries (blank R C) _ _ (λ x y. inside_ways R C x y (A x y) (out x y))

-- the starting matrix is 0 outside its shape, and stays so
start_ways : (E T r c m v : ℕ) → inside (E + T) (T + 1) r c ≡ false
    → cond (leb 1 r && leb r E && leb 1 c && leb c T) m (cond (leb 1 r && leb r E && eqb c (T + 1)) v (cond (ltb E r && leb r (E + T) && eqb (r - E) c) 1 0)) ≡ 0
start_ways E T r c m v e = grind (arith, nat_tests)

pub starting_outside : (S : System) → Outside (starting_matrix S)
starting_outside S r c e = start_ways S.rows S.columns r c (S.matrix r c) (S.target r) e

other_column : (R C r c d : ℕ) → inside R C r c ≡ false → 1 ≤ c → c ≤ C → inside R C r d ≡ false
other_column R C r c d e l m = grind (arith, nat_tests)

added_outside : (F : Arithmetic) (m : Matrix) (a : Addition) → 1 ≤ a.to → a.to ≤ m.columns → Outside m → Outside (over m (added F m.at a))
added_outside F m a l h out r c e = elim (cases_eq c a.to) [
  | inr n ↦ added_other F m.at a r c n ∙ out r c e
  | inl q ↦ added_zero F m.at a r c (out r a.from (other_column m.rows m.columns r c a.from e (omega arith) (omega arith))) ∙ out r c e
]

-- each addition's puts leave the sum
module _ (F : Arithmetic) (E T : ℕ) where
  abbrev of_shape : Entries → Matrix
  of_shape M = over (blank (E + T) (T + 1)) M

  course_played : (fuel : ℕ) (M : Entries) → Outside (of_shape M) → played (of_shape M) (course F E T fuel M).puts ≡ of_shape (course F E T fuel M).matrix
  course_played zero M out = refl
  course_played (suc fuel) M out =
      go (due E T M) refl (λ a e. let h = due_to E T M a e in course_played fuel (added F M a) (added_outside F (of_shape M) a h.0 h.1 out))
    where
      go : (r : Option Addition) → due E T M ≡ r
          → ((a : Addition) → due E T M ≡ Some a → played (of_shape (added F M a)) (course F E T fuel (added F M a)).puts ≡ of_shape (course F E T fuel (added F M a)).matrix)
          → played (of_shape M) (turn F E T fuel M r).puts ≡ of_shape (turn F E T fuel M r).matrix
      go None e more = refl
      go (Some a) e more =
          played-++ (of_shape M) (addition_puts F (E + T) M a) (course F E T fuel (added F M a)).puts
          ∙ ap (λ k. played k (course F E T fuel (added F M a)).puts) (adding_adds_lem F _ a.from a.to (of_shape M) out) ∙ more a e

pub puts_reduce_lem : PutsReduce
puts_reduce_lem F S =
    let R = S.rows + S.columns in
    let C = S.columns + 1 in
    played-++ (blank R C) (loading R (starting S) C) (reduction F S).puts
    ∙ ap (λ k. played k (reduction F S).puts) (loading_loads (starting S) R C (starting_outside S))
    ∙ course_played F S.rows S.columns (enough S.columns) (starting S) (starting_outside S)
