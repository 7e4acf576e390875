-- The nonzero entries that a scan finds: the definitions by steps give the one answer that is the first, or the last.
use Rattle.std.proofs.Common.{◌≡◌, ℕ, zero, suc, ◌+◌, ◌-◌, ◌<◌, ◌≤◌, eqb, Some, None, Option, sym, refl, ap, ◌∙◌, subst, ⊎_elim, arith}
use Rattle.std.proofs.lemmas.Bool.{cond-true, cond-false, eq-eqb, ne_eqb, cases_eq, cases_order}
use Rattle.std.proofs.lemmas.Bool.Decides.{nat_tests}
use Rattle.matrix.specs.Matrix.{Matrix, Outside}
use Rattle.matrix.specs.Nonzero.{first_nonzero_of, last_nonzero_of, next_in, last_in, First, Last}

-- there is one first, and one last
pub first_one : (f : ℕ → ℕ) (start : ℕ) (o q : Option ℕ) → First f start o → First f start q → o ≡ q
first_one f start None None h g = refl
first_one f start None (Some r) h g = absurd (g.1 (h r g.0))
first_one f start (Some r) None h g = absurd (h.1 (g r h.0))
first_one f start (Some r) (Some s) h g = ⊎_elim
    (λ (e : r ≡ s). ap Some e)
    (⊎_elim
    (λ (l : r < s). absurd (h.1 (g.2 r h.0 l)))
    (λ (l : s < r). absurd (g.1 (h.2 s g.0 l))))
    (cases_order r s)

pub last_one : (f : ℕ → ℕ) (end : ℕ) (o q : Option ℕ) → Last f end o → Last f end q → o ≡ q
last_one f end None None h g = refl
last_one f end None (Some r) h g = absurd (g.2 (h r g.0 g.1))
last_one f end (Some r) None h g = absurd (h.2 (g r h.0 h.1))
last_one f end (Some r) (Some s) h g = ⊎_elim
    (λ (e : r ≡ s). ap Some e)
    (⊎_elim
    (λ (l : r < s). absurd (g.2 (h.3 s l g.1)))
    (λ (l : s < r). absurd (h.2 (g.3 r l h.1))))
    (cases_order r s)

-- one row that is zero passed
first_more : (f : ℕ → ℕ) (start : ℕ) (o : Option ℕ) → f start ≡ 0 → First f (suc start) o → First f start o
first_more f start None z h = λ i l. ⊎_elim (λ (e : i ≡ start). ap f e ∙ z) (λ (d : i ≡ start → ⊥). h i (omega (arith, d))) (cases_eq i start)
first_more f start (Some r) z h =
    (omega (arith, h.0), h.1, λ i l g. ⊎_elim (λ (e : i ≡ start). ap f e ∙ z) (λ (d : i ≡ start → ⊥). h.2 i (omega (arith, d)) g) (cases_eq i start))

last_more : (f : ℕ → ℕ) (end : ℕ) (o : Option ℕ) → f (suc end) ≡ 0 → Last f end o → Last f (suc end) o
last_more f end None z h = λ i l g. ⊎_elim (λ (e : i ≡ suc end). ap f e ∙ z) (λ (d : i ≡ suc end → ⊥). h i l (omega (arith, d))) (cases_eq i (suc end))
last_more f end (Some r) z h =
    (h.0, omega (arith, h.1), h.2, λ i l g. ⊎_elim (λ (e : i ≡ suc end). ap f e ∙ z) (λ (d : i ≡ suc end → ⊥). h.3 i l (omega (arith, d))) (cases_eq i (suc end)))

first_is : (f : ℕ → ℕ) (start k : ℕ) → ((i : ℕ) → start + k ≤ i → f i ≡ 0) → First f start (first_nonzero_of f start k)
first_is f start zero out = λ i l. out i (omega arith)
first_is f start (suc k) out = ⊎_elim
    (λ (z : f start ≡ 0).
    subst (First f start) (sym (cond-true (eqb (f start) 0) _ _ (eq-eqb _ _ z)))
    (first_more f start (first_nonzero_of f (suc start) k) z (first_is f (suc start) k (λ i l. out i (omega arith)))))
    (λ (d : f start ≡ 0 → ⊥).
    subst (First f start) (sym (cond-false (eqb (f start) 0) _ _ (ne_eqb _ _ d))) (omega arith, d, λ i l g. absurd (omega arith)))
    (cases_eq (f start) 0)

last_is : (f : ℕ → ℕ) (end : ℕ) → Last f end (last_nonzero_of f end)
last_is f zero = λ i l g. absurd (omega arith)
last_is f (suc end) = ⊎_elim
    (λ (z : f (suc end) ≡ 0).
    subst (Last f (suc end)) (sym (cond-true (eqb (f (suc end)) 0) _ _ (eq-eqb _ _ z))) (last_more f end (last_nonzero_of f end) z (last_is f end)))
    (λ (d : f (suc end) ≡ 0 → ⊥).
    subst (Last f (suc end)) (sym (cond-false (eqb (f (suc end)) 0) _ _ (ne_eqb _ _ d))) (omega arith, omega arith, d, λ i l g. absurd (omega arith)))
    (cases_eq (f (suc end)) 0)

-- no row past the shape is nonzero
pub past_rows : (m : Matrix) (r c : ℕ) → Outside m → m.rows < r → m.at r c ≡ 0
past_rows m r c out h = out r c (grind (arith, nat_tests))

pub next_first : (m : Matrix) (column start : ℕ) → Outside m → First (λ r. m.at r column) start (next_in m column start)
next_first m column start out = first_is (λ r. m.at r column) start (m.rows + 1 - start) (λ i l. past_rows m i column out (omega arith))

pub last_last : (m : Matrix) (column end : ℕ) → Last (λ r. m.at r column) end (last_in m column end)
last_last m column end = last_is (λ r. m.at r column) end

pub next_is : (m : Matrix) (column start : ℕ) (o : Option ℕ) → Outside m → o ≡ next_in m column start → First (λ r. m.at r column) start o
next_is m column start o out e = subst (First (λ r. m.at r column) start) (sym e) (next_first m column start out)

-- what a scan found is what the definition says
pub next_by : (m : Matrix) (column start : ℕ) (o : Option ℕ) → Outside m → First (λ r. m.at r column) start o → o ≡ next_in m column start
next_by m column start o out h = first_one (λ r. m.at r column) start o (next_in m column start) h (next_first m column start out)

pub last_by : (m : Matrix) (column end : ℕ) (o : Option ℕ) → Last (λ r. m.at r column) end o → o ≡ last_in m column end
last_by m column end o h = last_one (λ r. m.at r column) end o (last_in m column end) h (last_last m column end)
