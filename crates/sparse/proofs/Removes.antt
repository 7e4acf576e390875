-- A cell taken out of the chain of its column.
use Rattle.std.proofs.Common.{◌≡◌, ℕ, ◌+◌, ◌-◌, ◌<◌, ◌≤◌, List, get_or, sym, refl, ap, ◌∙◌, ⊎_elim, arith}
use Rattle.std.proofs.lemmas.Bool.{cases_eq, cases_lt}
use Rattle.sparse.specs.declared.cell.Cell.{Cell}
use Rattle.sparse.specs.Cells.{row_at, column_at, next_at}
use Rattle.sparse.specs.Chains.{Follows, row_of, Chained, Spotted}
use Rattle.sparse.proofs.Rows.{row_of_none, row_of_some}
use Rattle.sparse.proofs.Walks.{follows_by, first_follows, next_follows, chained_by}
use Rattle.sparse.proofs.Relinks.{Edited}

module _ (n : ℕ) (heads heads' : List ℕ) (cells cells' : List Cell) (c r b a : ℕ) (x : Cell)
    (ch : Chained n heads cells) (s : Spotted cells c r b a) (some : a ≡ 0 → ⊥) (hit : row_at cells (a - 1) ≡ r)
    (r-from : 1 ≤ r) (c-from : 1 ≤ c) (c-to : c ≤ n)
    (gone : x.row ≡ 0) (e : Edited heads heads' cells cells' c b a (next_at cells (a - 1)) x) where
  column_there : column_at cells (a - 1) ≡ c
  column_there = (s.ahead some).0

  -- a cell in use is another
  apart : (q : ℕ) → 1 ≤ row_at cells' q → q ≡ a - 1 → ⊥
  apart q h eq = omega (arith, ap (row_at cells') eq ∙ ap (λ (u : Cell). u.row) e.here ∙ gone)

  keep : (d p link : ℕ) → Follows cells d p link → ((link ≡ 0 → ⊥) → link - 1 ≡ a - 1 → ⊥) → Follows cells' d p link
  keep d p link f away = (
    λ z. let o = e.others (link - 1) (away z) in (o.column ∙ (f.0 z).0, omega (arith, o.row, (f.0 z).1)),
    λ q qc qr.
        let o = e.others q (apart q (omega arith)) in
        let k = f.1 q (sym o.column ∙ qc) (omega (arith, o.row)) in
        let w = e.others (link - 1) (away k.0) in
        (k.0, omega (arith, w.row, k.1, o.row)),
  )

  after : Follows cells c r (next_at cells (a - 1))
  after = follows_by cells _ _ _ _ _ _ column_there hit refl (next_follows n heads cells (a - 1) ch (omega arith))

  -- what followed the cell follows the one before it
  joined : Follows cells' c (row_of cells b) (next_at cells (a - 1))
  joined =
      let away : (next_at cells (a - 1) ≡ 0 → ⊥) → next_at cells (a - 1) - 1 ≡ a - 1 → ⊥ = λ z eq. omega (arith, (after.0 z).1, ap (row_at cells) eq) in (
        λ z. let o = e.others (next_at cells (a - 1) - 1) (away z) in (o.column ∙ (after.0 z).0, omega (arith, o.row, (after.0 z).1, s.below)),
        λ q qc qr.
            let ne = apart q (omega arith) in
            let o = e.others q ne in
            let qc' : column_at cells q ≡ c = sym o.column ∙ qc in
            let to = s.nearest q qc' (omega (arith, o.row)) in
            let other : row_at cells q ≡ r → ⊥ = λ eq. ne (ch.one_each q (a - 1) (omega arith) (eq ∙ sym hit) (qc' ∙ sym column_there)) in
            let k = after.1 q qc' (omega (arith, to.1, other)) in
            let w = e.others (next_at cells (a - 1) - 1) (away k.0) in
            (k.0, omega (arith, w.row, k.1, o.row)),
      )

  -- no other link led to the cell
  away_next : (q : ℕ) → 1 ≤ row_at cells q → (q + 1 ≡ b → ⊥) → (next_at cells q ≡ 0 → ⊥) → next_at cells q - 1 ≡ a - 1 → ⊥
  away_next q h other z eq =
      let f = ch.nexts_ahead q h z in
      let low : row_at cells q < r = omega (arith, f.1, ap (row_at cells) eq) in
      let qc : column_at cells q ≡ c = sym f.0 ∙ ap (column_at cells) eq ∙ column_there in
      ⊎_elim
      (λ (past : row_of cells b < row_at cells q). omega (arith, (s.nearest q qc past).1))
      (λ (to : row_at cells q ≤ row_of cells b).
      let bz : b ≡ 0 → ⊥ = λ y. omega (arith, row_of_none cells b y) in
      let is = row_of_some cells b bz in
      let ne : row_at cells q ≡ row_at cells (b - 1) → ⊥ = λ er. other (let at = ch.one_each q (b - 1) h er (qc ∙ sym (s.stands bz).0) in omega (arith, at, bz)) in
      let k = ch.nexts_nearest q h (b - 1) ((s.stands bz).0 ∙ sym qc) (omega (arith, is, ne)) in
      omega (arith, k.1, is, s.below, ap (row_at cells) eq))
      (cases_lt (row_of cells b) (row_at cells q))

  away_head : (d : ℕ) → 1 ≤ d → d ≤ n → (b ≡ 0 → d ≡ c → ⊥) → (get_or heads (d - 1) 0 ≡ 0 → ⊥) → get_or heads (d - 1) 0 - 1 ≡ a - 1 → ⊥
  away_head d df dt other z eq =
      let is_c : d ≡ c = sym (ch.heads_ahead d df dt z).0 ∙ ap (column_at cells) eq ∙ column_there in
      let bz : b ≡ 0 → ⊥ = λ y. other y is_c in
      let k = ch.heads_nearest d df dt (b - 1) ((s.stands bz).0 ∙ sym is_c) (omega (arith, (s.stands bz).1)) in
      omega (arith, k.1, row_of_some cells b bz, s.below, ap (row_at cells) eq)

  remove_heads : (d : ℕ) → 1 ≤ d → d ≤ n → Follows cells' d 0 (get_or heads' (d - 1) 0)
  remove_heads d df dt =
      let old : (b ≡ 0 → d ≡ c → ⊥) → Follows cells' d 0 (get_or heads' (d - 1) 0) = λ o.
      follows_by cells' _ _ _ _ _ _ refl refl (sym (e.heads_same d df o)) (keep d 0 _ (first_follows n heads cells d ch df dt) (away_head d df dt o)) in
      ⊎_elim
      (λ (z : b ≡ 0). ⊎_elim
      (λ (eq : d ≡ c). follows_by cells' _ _ _ _ _ _ (sym eq) (row_of_none cells b z) (sym (e.head d z eq)) joined)
      (λ (ne : d ≡ c → ⊥). old (λ _. ne))
      (cases_eq d c))
      (λ (z : b ≡ 0 → ⊥). old (λ y. absurd (z y)))
      (cases_eq b 0)

  remove_nexts : (k : ℕ) → 1 ≤ row_at cells' k → Follows cells' (column_at cells' k) (row_at cells' k) (next_at cells' k)
  remove_nexts k h =
      let ne = apart k h in
      let o = e.others k ne in
      let used : 1 ≤ row_at cells k = omega (arith, o.row) in
      ⊎_elim
      (λ (eq : k + 1 ≡ b).
      let z : b ≡ 0 → ⊥ = λ z. omega arith in
      let at : b - 1 ≡ k = omega arith in
      follows_by cells' _ _ _ _ _ _ (sym (s.stands z).0 ∙ ap (column_at cells) at ∙ sym o.column) (row_of_some cells b z ∙ ap (row_at cells) at ∙ sym o.row) (sym (e.before k eq)) joined)
      (λ (other : k + 1 ≡ b → ⊥). follows_by cells' _ _ _ _ _ _ (sym o.column) (sym o.row) (sym (e.nexts k ne other))
      (keep _ _ _ (next_follows n heads cells k ch used) (away_next k used other)))
      (cases_eq (k + 1) b)

  remove_one : (p q : ℕ) → 1 ≤ row_at cells' p → row_at cells' p ≡ row_at cells' q → column_at cells' p ≡ column_at cells' q → p ≡ q
  remove_one p q h er ec =
      let o = e.others p (apart p h) in
      let w = e.others q (apart q (omega arith)) in
      ch.one_each p q (omega (arith, o.row)) (sym o.row ∙ er ∙ w.row) (sym o.column ∙ ec ∙ w.column)

  pub remove_chained : Chained n heads' cells'
  remove_chained = chained_by n heads' cells' remove_heads remove_nexts remove_one
