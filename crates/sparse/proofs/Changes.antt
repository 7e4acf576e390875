-- One cell changed: what the cells hold then, and what else stays.
use Rattle.std.proofs.Common.{◌≡◌, ℕ, ◌<◌, ◌≤◌, true, false, cond, ◌&&◌, eqb, leb, ◌⊎◌, List, length, sym, ap, ◌∙◌, inl, inr, ⊎_elim, arith}
use Rattle.std.proofs.lemmas.Bool.{cond-true, cond-false, eq-eqb, cases_eq, cases_Bool, and_parts, and_from, eqb-true, leb-true, both_ways}
use Rattle.matrix.specs.Matrix.{inside, put_at, put_into}
use Rattle.matrix.proofs.Matrices.{same_entries}
use Rattle.sparse.specs.declared.cell.Cell.{Cell}
use Rattle.sparse.specs.Cells.{cell, row_at, column_at, code_at, found, held}
use Rattle.sparse.specs.Chains.{Filled, RowsTo, Unused}
use Rattle.sparse.specs.Puts.{Kept}
use Rattle.sparse.proofs.Found.{At, Same, found_like}
use Rattle.sparse.proofs.Readings.{held_in}

-- only the cell at the place k is changed, and before and after it is out of use or that of the row and the column
pub record Changed (cells cells' : List Cell) (r c k : ℕ) : Type 0 where
  pub others : (q : ℕ) → (q ≡ k → ⊥) → Same (cell cells' q) (cell cells q)
  pub old : (row_at cells k ≡ 0) ⊎ At r c (cell cells k)
  pub new : (row_at cells' k ≡ 0) ⊎ At r c (cell cells' k)
  pub many : length cells' ≡ length cells

-- such a cell is not of another row or column
not_there : (r c i j : ℕ) (x : Cell) → 1 ≤ i → (i ≡ r → j ≡ c → ⊥) → (x.row ≡ 0) ⊎ At r c x → At i j x → ⊥
not_there r c i j x l d h p = ⊎_elim (λ (z : x.row ≡ 0). omega (arith, p.0)) (λ (q : At r c x). d (sym p.0 ∙ q.0) (sym p.1 ∙ q.1)) h

found_changed : (cells cells' : List Cell) (r c k i j : ℕ) → Changed cells cells' r c k → 1 ≤ i → (i ≡ r → j ≡ c → ⊥) → found cells' i j ≡ found cells i j
found_changed cells cells' r c k i j h l d = found_like cells' cells i j h.many (λ q. ⊎_elim
    (λ (e : q ≡ k). inr (
      (λ p. not_there r c i j (cell cells' k) l d h.new (sym (ap (row_at cells') e) ∙ p.0, sym (ap (column_at cells') e) ∙ p.1)),
      λ p. not_there r c i j (cell cells k) l d h.old (sym (ap (row_at cells) e) ∙ p.0, sym (ap (column_at cells) e) ∙ p.1),
    ))
    (λ (ne : q ≡ k → ⊥). inl (h.others q ne))
    (cases_eq q k))

pub held_changed : (rows columns : ℕ) (cells cells' : List Cell) (r c k v : ℕ) → 1 ≤ r → r ≤ rows → 1 ≤ c → c ≤ columns → Changed cells cells' r c k → found cells' r c ≡ v
    → held rows columns cells' ≡ put_into (held rows columns cells) (put_at r c v)
held_changed rows columns cells cells' r c k v rf rt cf ct h is = same_entries (held rows columns cells) (held rows columns cells').at (put_into (held rows columns cells) (put_at r c v)).at (λ i j.
    ⊎_elim
    (λ (t : (eqb i r && eqb j c) ≡ true).
    let p = and_parts (eqb i r) (eqb j c) t in
    ap (λ y. (held rows columns cells').at y j) (eqb-true _ _ p.0) ∙ ap ((held rows columns cells').at r) (eqb-true _ _ p.1) ∙ held_in rows columns cells' r c rf rt cf ct ∙ is
    ∙ sym (cond-true (eqb i r && eqb j c) v ((held rows columns cells).at i j) t))
    (λ (t : (eqb i r && eqb j c) ≡ false).
    let ne : i ≡ r → j ≡ c → ⊥ = λ er ec. both_ways (eqb i r && eqb j c) t (and_from _ _ (eq-eqb _ _ er) (eq-eqb _ _ ec)) in
    ⊎_elim
    (λ (w : inside rows columns i j ≡ true).
    let l = leb-true 1 i (and_parts (leb 1 i) (leb i rows) (and_parts (leb 1 i && leb i rows) (leb 1 j && leb j columns) w).0).0 in
    ap (λ y. cond (inside rows columns i j) y 0) (found_changed cells cells' r c k i j h l ne))
    (λ (w : inside rows columns i j ≡ false). cond-false (inside rows columns i j) (found cells' i j) 0 w ∙ sym (cond-false (inside rows columns i j) (found cells i j) 0 w))
    (cases_Bool (inside rows columns i j))
    ∙ sym (cond-false (eqb i r && eqb j c) v ((held rows columns cells).at i j) t))
    (cases_Bool (eqb i r && eqb j c)))

pub filled_changed : (cells cells' : List Cell) (r c k : ℕ) → Changed cells cells' r c k → Filled cells → (1 ≤ row_at cells' k → 1 ≤ code_at cells' k) → Filled cells'
filled_changed cells cells' r c k h f here q l = ⊎_elim
    (λ (e : q ≡ k). let x = here (omega (arith, ap (row_at cells') e)) in omega (arith, ap (code_at cells') e))
    (λ (ne : q ≡ k → ⊥). let o = h.others q ne in omega (arith, o.code, f q (omega (arith, o.row))))
    (cases_eq q k)

pub rows_to_changed : (rows : ℕ) (cells cells' : List Cell) (r c k : ℕ) → Changed cells cells' r c k → r ≤ rows → RowsTo rows cells → RowsTo rows cells'
rows_to_changed rows cells cells' r c k h l f q = ⊎_elim
    (λ (e : q ≡ k). ⊎_elim (λ (z : row_at cells' k ≡ 0). omega (arith, ap (row_at cells') e)) (λ (p : At r c (cell cells' k)). omega (arith, ap (row_at cells') e, p.0)) h.new)
    (λ (ne : q ≡ k → ⊥). omega (arith, (h.others q ne).row, f q))
    (cases_eq q k)

pub unused_changed : (n m : ℕ) (cells cells' : List Cell) (r c k : ℕ) → Changed cells cells' r c k → k < m → n ≤ m → Unused n cells → Unused m cells'
unused_changed n m cells cells' r c k h l t u q g =
    let ne : q ≡ k → ⊥ = λ e. omega arith in
    (h.others q ne).row ∙ u q (omega arith)

pub kept_changed : (cells cells' : List Cell) (r c k : ℕ) → Changed cells cells' r c k → 1 ≤ r → Kept cells cells' r c
kept_changed cells cells' r c k h rf = record {
  stays = λ q l d.
      let ne : q ≡ k → ⊥ = λ e. not_there r c (row_at cells q) (column_at cells q) (cell cells k) l d h.old (sym (ap (row_at cells) e), sym (ap (column_at cells) e)) in
      let o = h.others q ne in
      (o.row, o.column);
  was = λ q l d.
      let ne : q ≡ k → ⊥ = λ e. not_there r c (row_at cells' q) (column_at cells' q) (cell cells' k) l d h.new (sym (ap (row_at cells') e), sym (ap (column_at cells') e)) in
      let o = h.others q ne in
      (o.row, o.column);
}
