-- The three ways of a put, as the code goes them.
use Rattle.std.proofs.Common.{◌≡◌, ◌≢◌, ℕ, ◌+◌, ◌-◌, ◌<◌, ◌≤◌, min, cond, ◌&&◌, ◌==◌, List, length, set, refl, ap, ◌∙◌, ⊎_elim, arith}
use Rattle.std.proofs.lemmas.Bool.{cases_eq}
use Rattle.std.proofs.lemmas.Bool.Decides.{nat_tests}
use Rattle.matrix.specs.Matrix.{Matrix, put_at, put_into}
use Rattle.refusal.specs.Outcomes.{Outcome, accepted, refused}
use Rattle.matrix.specs.Terms.{Terms, left_by, put_outcome, put_after}
use Rattle.matrix.proofs.Matrices.{same_entries}
use Rattle.sparse.specs.declared.cell.Cell.{Cell}
use Rattle.sparse.specs.declared.chains.Spare.{Spare}
use Rattle.sparse.specs.declared.chains.Spot.{Spot}
use Rattle.sparse.specs.declared.sparse.Sparse.{Sparse}
use Rattle.sparse.specs.Cells.{cell, row_at, next_at}
use Rattle.sparse.specs.Chains.{recoded, linked_cells, linked_heads}
use Rattle.sparse.specs.States.{cells_of, heads_of, entry_at, Taken, Inside}
use Rattle.sparse.proofs.Rows.{used_lt, row_of_some}
use Rattle.sparse.proofs.Relinks.{edited}
use Rattle.sparse.proofs.Locating.{entry_here, entry_none}
use Rattle.sparse.proofs.Takes.{taking}
use Rattle.sparse.proofs.Puts.{Place, Put, put_inserted, put_removed, used_from, put_replaced}

same_ways : (i j r c v x : ℕ) → (i ≡ r → j ≡ c → x ≡ v) → x ≡ cond (i == r && j == c) v x
same_ways i j r c v x h = grind (arith, nat_tests)

left_same : (o : Outcome (Unit {0})) (m n : Matrix) → m ≡ n → m ≡ left_by o n m
left_same (accepted _) m n e = e
left_same (refused _) m n e = refl

-- a put of what is there changes nothing
pub put_same : (t : Terms) (m : Matrix) (r c v : ℕ) → m.at r c ≡ v → m ≡ put_after t m (put_at r c v)
put_same t m r c v e = left_same (put_outcome t m (put_at r c v)) m _
    (same_entries m m.at (put_into m (put_at r c v)).at (λ i j. same_ways i j r c v (m.at i j) (λ f g. rw (f, g) e)))

-- the place of a spot
pub place : {s : Sparse} {p : Spot} → Inside s p → Place s.shape.rows s.shape.columns p.row p.column
place i = record { row_from = i.located.row_from; row_to = i.row_to; column_from = i.located.column_from; column_to = i.located.column_to }

-- the cell that is picked is there
pub taken_from : (s : Sparse) {l : ℕ} {left : Spare} → s.used < min (length (cells_of s)) 65535 → Taken (cells_of s) s.spare l left → (1 ≤ l) × (l ≤ length (cells_of s))
taken_from s {l} {left} room t = let k = taking s.sound room l left.free left.fresh t.link_is t.free_is t.fresh_is in (k.from, omega (arith, k.to, k.lent))

module _ (s : Sparse) {p : Spot} (i : Inside s p) where
  in_heads : p.column ≤ length (heads_of s)
  in_heads = omega (arith, s.sound.wide, i.located.column_to)

  -- an entry that is 0 has no cell
  none_there : entry_at s p ≡ 0 → p.at ≢ 0 → p.row < row_at (cells_of s) (p.at - 1)
  none_there z d =
      let ne : row_at (cells_of s) (p.at - 1) ≢ p.row = λ e. omega (arith, s.sound.filled (p.at - 1) (omega (arith, i.located.row_from)), entry_here s p i.located d e) in
      omega (arith, i.located.spotted.reached d)

  pub insert_left : {heads' : List ℕ} {cells' : List Cell} {v l : ℕ} {left : Spare} → entry_at s p ≡ 0 → v ≢ 0 → s.used < min (length (cells_of s)) 65535 → Taken (cells_of s) s.spare l left
      → cells' ≡ linked_cells (set (cells_of s) (l - 1) (record { column = p.column; row = p.row; code = v; next = p.at })) p.before l → heads' ≡ linked_heads (heads_of s) p.column p.before l
      → Put s.shape.rows s.shape.columns (s.used + 1) left.free left.fresh (heads_of s) heads' (cells_of s) cells' p.row p.column v
  insert_left {heads'} {cells'} {v} {l} {left} zero some room taken ec eh =
      let t = i.located.spotted in
      let k = taking s.sound room l left.free left.fresh taken.link_is taken.free_is taken.fresh_is in
      let apart : p.before ≢ 0 → (p.before - 1 < length (cells_of s)) × (p.before - 1 ≢ l - 1) = λ d. (used_lt (cells_of s) (p.before - 1) (t.stands d).1, λ e. omega (arith, (t.stands d).1, ap (row_at (cells_of s)) e, k.idle)) in
      put_inserted s.sound (place i) t l left.free left.fresh (record { column = p.column; row = p.row; code = v; next = p.at }) (none_there zero) (omega (arith, some)) k refl refl refl refl
      (edited (heads_of s) heads' (cells_of s) cells' p.column p.before l l _ i.located.column_from in_heads (omega (arith, k.from, k.to, k.lent)) apart ec eh)

  module _ (there : entry_at s p ≢ 0) where
    at_some : p.at ≢ 0
    at_some z = there (entry_none s p i.located (λ d. absurd (d z)))

    hit : row_at (cells_of s) (p.at - 1) ≡ p.row
    hit = ⊎_elim
        (λ (e : row_at (cells_of s) (p.at - 1) ≡ p.row). e)
        (λ (n : row_at (cells_of s) (p.at - 1) ≢ p.row). absurd (there (entry_none s p i.located (λ _. n))))
        (cases_eq (row_at (cells_of s) (p.at - 1)) p.row)

    at_lt : p.at - 1 < length (cells_of s)
    at_lt = used_lt (cells_of s) (p.at - 1) (omega (arith, hit, i.located.row_from))

    pub at_range : (1 ≤ p.at) × (p.at ≤ length (cells_of s))
    at_range = (omega (arith, at_some), omega (arith, at_lt))

    pub remove_left : {heads' : List ℕ} {cells' : List Cell} {to : ℕ} (x : Cell) → x.row ≡ 0 → x.next ≡ s.spare.free → to ≡ next_at (cells_of s) (p.at - 1)
        → cells' ≡ linked_cells (set (cells_of s) (p.at - 1) x) p.before to → heads' ≡ linked_heads (heads_of s) p.column p.before to
        → Put s.shape.rows s.shape.columns (s.used - 1) p.at s.spare.fresh (heads_of s) heads' (cells_of s) cells' p.row p.column 0
    remove_left {heads'} {cells'} x gone xn en ec eh =
        let t = i.located.spotted in
        let apart : p.before ≢ 0 → (p.before - 1 < length (cells_of s)) × (p.before - 1 ≢ p.at - 1) = λ d. (used_lt (cells_of s) (p.before - 1) (t.stands d).1, λ e. omega (arith, t.below, row_of_some (cells_of s) p.before d, ap (row_at (cells_of s)) e, hit)) in
        put_removed s.sound (place i) t at_some hit x gone xn
        (edited (heads_of s) heads' (cells_of s) cells' p.column p.before p.at _ x i.located.column_from in_heads at_lt apart
        (ec ∙ ap (linked_cells (set (cells_of s) (p.at - 1) x) p.before) en) (eh ∙ ap (linked_heads (heads_of s) p.column p.before) en))

    pub remove_from : 1 ≤ s.used
    remove_from = used_from s.sound (place i) i.located.spotted at_some hit

    pub replace_left : {cells' : List Cell} {v : ℕ} → v ≢ 0 → cells' ≡ set (cells_of s) (p.at - 1) (recoded (cell (cells_of s) (p.at - 1)) v)
        → Put s.shape.rows s.shape.columns s.used s.spare.free s.spare.fresh (heads_of s) (heads_of s) (cells_of s) cells' p.row p.column v
    replace_left some ec = put_replaced s.sound (place i) i.located.spotted at_some hit (omega (arith, some)) refl ec
