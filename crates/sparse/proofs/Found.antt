-- The code that cells hold for a row and a column.
use Rattle.std.proofs.Common.{◌≡◌, ℕ, zero, suc, ◌≤◌, Bool, true, false, cond, ◌&&◌, eqb, ◌⊎◌, List, [], ◌∷◌, length, sym, refl, ap, ◌∙◌, ⊎_elim, arith}
use Rattle.std.proofs.lemmas.Bool.{cond-true, cond-false, eq-eqb, cases_Bool, and_parts, and_from, eqb-true}
use Rattle.sparse.specs.declared.cell.Cell.{Cell}
use Rattle.sparse.specs.Cells.{cell, row_at, column_at, code_at, found}

abbrev is_at : ℕ → ℕ → Cell → Bool
is_at r c x = eqb x.row r && eqb x.column c

abbrev pub At : ℕ → ℕ → Cell → Type 0
At r c x = (x.row ≡ r) × (x.column ≡ c)

is_at_true : (r c : ℕ) (x : Cell) → is_at r c x ≡ true → At r c x
is_at_true r c x e = let p = and_parts (eqb x.row r) (eqb x.column c) e in (eqb-true _ _ p.0, eqb-true _ _ p.1)

at_is : (r c : ℕ) (x : Cell) → At r c x → is_at r c x ≡ true
at_is r c x h = and_from _ _ (eq-eqb _ _ h.0) (eq-eqb _ _ h.1)

not_at : (r c : ℕ) (x : Cell) → (At r c x → ⊥) → is_at r c x ≡ false
not_at r c x d = ⊎_elim (λ (e : is_at r c x ≡ true). absurd (d (is_at_true r c x e))) (λ (e : is_at r c x ≡ false). e) (cases_Bool (is_at r c x))

-- no cell has it
pub found_none : (cells : List Cell) (r c : ℕ) → ((q : ℕ) → row_at cells q ≡ r → column_at cells q ≡ c → ⊥) → found cells r c ≡ 0
unfolding found
found_none [] r c h = refl
found_none (x ∷ xs) r c h =
    cond-false (is_at r c x) x.code (found xs r c) (not_at r c x (λ p. h 0 p.0 p.1)) ∙ found_none xs r c (λ q. h (suc q))

-- a cell has it, and every cell that does has its code
pub found_at : (cells : List Cell) (r c k : ℕ) → 1 ≤ r → row_at cells k ≡ r → column_at cells k ≡ c
    → ((q : ℕ) → row_at cells q ≡ r → column_at cells q ≡ c → code_at cells q ≡ code_at cells k) → found cells r c ≡ code_at cells k
unfolding found
found_at [] r c k l e f h = absurd (omega arith)
found_at (x ∷ xs) r c zero l e f h = cond-true (is_at r c x) x.code (found xs r c) (at_is r c x (e, f))
found_at (x ∷ xs) r c (suc k) l e f h = ⊎_elim
    (λ (t : is_at r c x ≡ true). let p = is_at_true r c x t in cond-true (is_at r c x) x.code (found xs r c) t ∙ h 0 p.0 p.1)
    (λ (t : is_at r c x ≡ false). cond-false (is_at r c x) x.code (found xs r c) t ∙ found_at xs r c k l e f (λ q. h (suc q)))
    (cases_Bool (is_at r c x))

-- two cells that tell the same of the row and the column
pub record Same (x y : Cell) : Type 0 where
  pub row : x.row ≡ y.row
  pub column : x.column ≡ y.column
  pub code : x.code ≡ y.code

pub found_like : (xs ys : List Cell) (r c : ℕ) → length xs ≡ length ys
    → ((q : ℕ) → Same (cell xs q) (cell ys q) ⊎ ((At r c (cell xs q) → ⊥) × (At r c (cell ys q) → ⊥))) → found xs r c ≡ found ys r c
unfolding found
found_like [] [] r c l h = refl
found_like [] (y ∷ ys) r c l h = absurd (omega arith)
found_like (x ∷ xs) [] r c l h = absurd (omega arith)
found_like (x ∷ xs) (y ∷ ys) r c l h =
    let rest : found xs r c ≡ found ys r c = found_like xs ys r c (omega arith) (λ q. h (suc q)) in
    ⊎_elim
    (λ (s : Same x y).
    ap (λ b. cond b x.code (found xs r c)) (ap (λ n. eqb n r && eqb x.column c) s.row ∙ ap (λ n. eqb y.row r && eqb n c) s.column)
    ∙ ap (λ n. cond (is_at r c y) n (found xs r c)) s.code ∙ ap (λ n. cond (is_at r c y) y.code n) rest)
    (λ (d : (At r c x → ⊥) × (At r c y → ⊥)).
    cond-false (is_at r c x) x.code (found xs r c) (not_at r c x d.0) ∙ rest ∙ sym (cond-false (is_at r c y) y.code (found ys r c) (not_at r c y d.1)))
    (h 0)
