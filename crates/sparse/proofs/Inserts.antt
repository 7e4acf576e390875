-- A cell inserted into the chain of its column.
use Rattle.std.proofs.Common.{◌≡◌, ℕ, ◌+◌, ◌-◌, ◌<◌, ◌≤◌, List, get_or, sym, refl, ap, ◌∙◌, subst, ⊎_elim, arith}
use Rattle.std.proofs.lemmas.Bool.{cases_eq, cases_lt}
use Rattle.sparse.specs.declared.cell.Cell.{Cell}
use Rattle.sparse.specs.Cells.{cell, row_at, column_at, next_at}
use Rattle.sparse.specs.Chains.{Follows, row_of, Chained, Spotted}
use Rattle.sparse.proofs.Rows.{row_of_none, row_of_some}
use Rattle.sparse.proofs.Walks.{follows_by, first_follows, next_follows, chained_by}
use Rattle.sparse.proofs.Found.{Same}
use Rattle.sparse.proofs.Relinks.{Edited}

module _ (n : ℕ) (heads heads' : List ℕ) (cells cells' : List Cell) (c r b a l : ℕ) (x : Cell)
    (ch : Chained n heads cells) (s : Spotted cells c r b a) (new : (a ≡ 0 → ⊥) → r < row_at cells (a - 1))
    (idle : row_at cells (l - 1) ≡ 0) (r-from : 1 ≤ r) (l-from : 1 ≤ l) (c-from : 1 ≤ c) (c-to : c ≤ n)
    (xr : x.row ≡ r) (xc : x.column ≡ c) (xn : x.next ≡ a) (e : Edited heads heads' cells cells' c b l l x) where
  row_here : row_at cells' (l - 1) ≡ r
  row_here = ap (λ (u : Cell). u.row) e.here ∙ xr

  column_here : column_at cells' (l - 1) ≡ c
  column_here = ap (λ (u : Cell). u.column) e.here ∙ xc

  -- a cell in use stays as it is
  apart : (q : ℕ) → 1 ≤ row_at cells q → q ≡ l - 1 → ⊥
  apart q h eq = omega (arith, ap (row_at cells) eq ∙ idle)

  keep : (d p link : ℕ) → Follows cells d p link → (d ≡ c → p < r → (link ≡ 0 → ⊥) × (row_at cells (link - 1) ≤ r)) → Follows cells' d p link
  keep d p link f h =
      let still : (link ≡ 0 → ⊥) → Same (cell cells' (link - 1)) (cell cells (link - 1)) = λ z. e.others (link - 1) (apart (link - 1) (omega (arith, (f.0 z).1))) in (
        λ z. ((still z).column ∙ (f.0 z).0, omega (arith, (still z).row, (f.0 z).1)),
        λ q qc qr. ⊎_elim
            (λ (eq : q ≡ l - 1).
            let is : row_at cells' q ≡ r = ap (row_at cells') eq ∙ row_here in
            let k = h (sym qc ∙ ap (column_at cells') eq ∙ column_here) (omega arith) in
            (k.0, omega (arith, (still k.0).row, k.1)))
            (λ (ne : q ≡ l - 1 → ⊥).
            let o = e.others q ne in
            let k = f.1 q (sym o.column ∙ qc) (omega (arith, o.row)) in
            (k.0, omega (arith, (still k.0).row, k.1, o.row)))
            (cases_eq q (l - 1)),
      )

  -- the new cell follows the one before it, and is followed by the one that was next
  follows_before : Follows cells' c (row_of cells b) l
  follows_before = (
    λ _. (column_here, omega (arith, row_here, s.below)),
    λ q qc qr. ⊎_elim
        (λ (eq : q ≡ l - 1). ((λ z. omega arith), omega (arith, ap (row_at cells') eq)))
        (λ (ne : q ≡ l - 1 → ⊥).
        let o = e.others q ne in
        let k = s.nearest q (sym o.column ∙ qc) (omega (arith, o.row)) in
        ((λ z. omega arith), omega (arith, row_here, o.row, k.1, new k.0)))
        (cases_eq q (l - 1)),
  )

  follows_here : Follows cells' c r a
  follows_here =
      let still : (a ≡ 0 → ⊥) → Same (cell cells' (a - 1)) (cell cells (a - 1)) = λ z. e.others (a - 1) (apart (a - 1) (omega (arith, new z))) in (
        λ z. ((still z).column ∙ (s.ahead z).0, omega (arith, (still z).row, new z)),
        λ q qc qr. ⊎_elim
            (λ (eq : q ≡ l - 1). absurd (omega (arith, ap (row_at cells') eq, row_here)))
            (λ (ne : q ≡ l - 1 → ⊥).
            let o = e.others q ne in
            let k = s.nearest q (sym o.column ∙ qc) (omega (arith, o.row, s.below)) in
            (k.0, omega (arith, (still k.0).row, k.1, o.row)))
            (cases_eq q (l - 1)),
      )

  -- the link of another cell of the column before the row does not pass it
  passes : (q : ℕ) → 1 ≤ row_at cells q → column_at cells q ≡ c → row_at cells q < r → (q + 1 ≡ b → ⊥) → (next_at cells q ≡ 0 → ⊥) × (row_at cells (next_at cells q - 1) ≤ r)
  passes q h qc lt other = ⊎_elim
      (λ (past : row_of cells b < row_at cells q). let k = s.nearest q qc past in absurd (omega (arith, k.1, new k.0)))
      (λ (to : row_at cells q ≤ row_of cells b).
      let z : b ≡ 0 → ⊥ = λ z. omega (arith, row_of_none cells b z) in
      let is = row_of_some cells b z in
      let ne : row_at cells q ≡ row_at cells (b - 1) → ⊥ = λ eq. other (let at = ch.one_each q (b - 1) h eq (qc ∙ sym (s.stands z).0) in omega (arith, at, z)) in
      let k = ch.nexts_nearest q h (b - 1) ((s.stands z).0 ∙ sym qc) (omega (arith, is, ne)) in
      (k.0, omega (arith, k.1, is, s.below)))
      (cases_lt (row_of cells b) (row_at cells q))

  passes_head : (b ≡ 0 → ⊥) → (get_or heads (c - 1) 0 ≡ 0 → ⊥) × (row_at cells (get_or heads (c - 1) 0 - 1) ≤ r)
  passes_head z =
      let k = ch.heads_nearest c c-from c-to (b - 1) (s.stands z).0 (omega (arith, (s.stands z).1)) in
      (k.0, omega (arith, k.1, row_of_some cells b z, s.below))

  insert_heads : (d : ℕ) → 1 ≤ d → d ≤ n → Follows cells' d 0 (get_or heads' (d - 1) 0)
  insert_heads d df dt = ⊎_elim
      (λ (z : b ≡ 0). ⊎_elim
      (λ (eq : d ≡ c). follows_by cells' _ _ _ _ _ _ (sym eq) (row_of_none cells b z) (sym (e.head d z eq)) follows_before)
      (λ (ne : d ≡ c → ⊥). follows_by cells' _ _ _ _ _ _ refl refl (sym (e.heads_same d df (λ _. ne))) (keep d 0 _ (first_follows n heads cells d ch df dt) (λ eq. absurd (ne eq))))
      (cases_eq d c))
      (λ (z : b ≡ 0 → ⊥). follows_by cells' _ _ _ _ _ _ refl refl (sym (e.heads_same d df (λ y. absurd (z y)))) (keep d 0 _ (first_follows n heads cells d ch df dt)
      (λ eq _. subst (λ y. (get_or heads (y - 1) 0 ≡ 0 → ⊥) × (row_at cells (get_or heads (y - 1) 0 - 1) ≤ r)) (sym eq) (passes_head z))))
      (cases_eq b 0)

  insert_nexts : (k : ℕ) → 1 ≤ row_at cells' k → Follows cells' (column_at cells' k) (row_at cells' k) (next_at cells' k)
  insert_nexts k h = ⊎_elim
      (λ (eq : k ≡ l - 1). follows_by cells' _ _ _ _ _ _ (sym (ap (column_at cells') eq ∙ column_here)) (sym (ap (row_at cells') eq ∙ row_here))
      (sym (ap (next_at cells') eq ∙ ap (λ (u : Cell). u.next) e.here ∙ xn)) follows_here)
      (λ (ne : k ≡ l - 1 → ⊥).
      let o = e.others k ne in
      let used : 1 ≤ row_at cells k = omega (arith, o.row) in
      ⊎_elim
      (λ (eq : k + 1 ≡ b).
      let z : b ≡ 0 → ⊥ = λ z. omega arith in
      let at : b - 1 ≡ k = omega arith in
      follows_by cells' _ _ _ _ _ _ (sym (s.stands z).0 ∙ ap (column_at cells) at ∙ sym o.column) (row_of_some cells b z ∙ ap (row_at cells) at ∙ sym o.row) (sym (e.before k eq)) follows_before)
      (λ (other : k + 1 ≡ b → ⊥). follows_by cells' _ _ _ _ _ _ (sym o.column) (sym o.row) (sym (e.nexts k ne other))
      (keep _ _ _ (next_follows n heads cells k ch used) (λ kc lt. passes k used kc lt other)))
      (cases_eq (k + 1) b))
      (cases_eq k (l - 1))

  -- no other cell had the row
  fresh_row : (q : ℕ) → row_at cells q ≡ r → column_at cells q ≡ c → ⊥
  fresh_row q qr qc = let k = s.nearest q qc (omega (arith, s.below)) in omega (arith, k.1, new k.0)

  insert_one : (p q : ℕ) → 1 ≤ row_at cells' p → row_at cells' p ≡ row_at cells' q → column_at cells' p ≡ column_at cells' q → p ≡ q
  insert_one p q h er ec = ⊎_elim
      (λ (ep : p ≡ l - 1). ⊎_elim
      (λ (eq : q ≡ l - 1). ep ∙ sym eq)
      (λ (nq : q ≡ l - 1 → ⊥). let o = e.others q nq in
      absurd (fresh_row q (sym o.row ∙ sym er ∙ ap (row_at cells') ep ∙ row_here) (sym o.column ∙ sym ec ∙ ap (column_at cells') ep ∙ column_here)))
      (cases_eq q (l - 1)))
      (λ (np : p ≡ l - 1 → ⊥). let o = e.others p np in ⊎_elim
      (λ (eq : q ≡ l - 1). absurd (fresh_row p (sym o.row ∙ er ∙ ap (row_at cells') eq ∙ row_here) (sym o.column ∙ ec ∙ ap (column_at cells') eq ∙ column_here)))
      (λ (nq : q ≡ l - 1 → ⊥). let w = e.others q nq in ch.one_each p q (omega (arith, o.row)) (sym o.row ∙ er ∙ w.row) (sym o.column ∙ ec ∙ w.column))
      (cases_eq q (l - 1)))
      (cases_eq p (l - 1))

  pub insert_chained : Chained n heads' cells'
  insert_chained = chained_by n heads' cells' insert_heads insert_nexts insert_one
