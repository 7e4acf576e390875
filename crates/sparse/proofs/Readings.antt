-- What a walk along a chain tells of the matrix.
use Rattle.std.proofs.Common.{◌≡◌, ℕ, ◌-◌, ◌<◌, ◌≤◌, true, false, ◌&&◌, leb, List, sym, refl, ap, ◌∙◌, ⊎_elim, arith}
use Rattle.std.proofs.lemmas.Bool.{cond-true, cond-false, cases_Bool, and_parts, leb-true}
use Rattle.std.proofs.lemmas.Bool.Decides.{nat_tests}
use Rattle.matrix.specs.Matrix.{inside}
use Rattle.sparse.specs.declared.cell.Cell.{Cell}
use Rattle.sparse.specs.Cells.{row_at, column_at, code_at, found, held}
use Rattle.sparse.specs.Chains.{row_of, Spotted, OneEach, Filled, RowsTo}
use Rattle.sparse.proofs.Found.{found_none, found_at}

-- no row between the two links of a spot is held
pub between : (cells : List Cell) (c r before at i : ℕ) → Spotted cells c r before at → row_of cells before < i → ((at ≡ 0 → ⊥) → i < row_at cells (at - 1)) → found cells i c ≡ 0
between cells c r before at i s l h = found_none cells i c (λ q e f.
    let n = s.nearest q f (omega arith) in
    omega (arith, n.1, h n.0))

-- the code of the cell at a place in use
pub found_here : (cells : List Cell) (k : ℕ) → OneEach cells → 1 ≤ row_at cells k → found cells (row_at cells k) (column_at cells k) ≡ code_at cells k
found_here cells k one l = found_at cells _ _ k l refl refl (λ q e f. ap (code_at cells) (sym (one k q l (sym e) (sym f))))

-- the code at a place in use
pub found_by : (cells : List Cell) (k r c v : ℕ) → OneEach cells → row_at cells k ≡ r → 1 ≤ r → column_at cells k ≡ c → code_at cells k ≡ v → found cells r c ≡ v
found_by cells k r c v one er l ec ev = ap (λ x. found cells x c) (sym er) ∙ ap (found cells (row_at cells k)) (sym ec) ∙ found_here cells k one (omega arith) ∙ ev

pub held_in : (rows columns : ℕ) (cells : List Cell) (r c : ℕ) → 1 ≤ r → r ≤ rows → 1 ≤ c → c ≤ columns → (held rows columns cells).at r c ≡ found cells r c
held_in rows columns cells r c a b p q = cond-true (inside rows columns r c) _ _ (grind (arith, nat_tests))

-- zero where no cell has it, or outside the shape
pub held_none : (rows columns : ℕ) (cells : List Cell) (r c : ℕ) → (1 ≤ r → r ≤ rows → found cells r c ≡ 0) → (held rows columns cells).at r c ≡ 0
held_none rows columns cells r c h = ⊎_elim
    (λ (t : inside rows columns r c ≡ true).
    let p = and_parts (leb 1 r) (leb r rows) (and_parts (leb 1 r && leb r rows) (leb 1 c && leb c columns) t).0 in
    cond-true (inside rows columns r c) _ _ t ∙ h (leb-true _ _ p.0) (leb-true _ _ p.1))
    (λ (t : inside rows columns r c ≡ false). cond-false (inside rows columns r c) _ _ t)
    (cases_Bool (inside rows columns r c))

pub held_past : (rows columns : ℕ) (cells : List Cell) (r c : ℕ) → (1 ≤ c → columns < c) → (held rows columns cells).at r c ≡ 0
held_past rows columns cells r c h = cond-false (inside rows columns r c) _ _ (grind (arith, nat_tests))

-- an entry that a cell in use holds is not zero
pub held_filled : (rows columns : ℕ) (cells : List Cell) (c k : ℕ) → OneEach cells → Filled cells → RowsTo rows cells → 1 ≤ c → c ≤ columns → 1 ≤ row_at cells k → column_at cells k ≡ c
    → (held rows columns cells).at (row_at cells k) c ≡ 0 → ⊥
held_filled rows columns cells c k one full to a b l e z =
    omega (arith, full k l, sym (found_here cells k one l) ∙ ap (found cells (row_at cells k)) e ∙ sym (held_in rows columns cells (row_at cells k) c l (to k) a b) ∙ z)
