-- A walk along the chain of a column.
use Rattle.std.proofs.Common.{◌≡◌, ◌≢◌, ℕ, ◌-◌, ◌≤◌, List, get_or, subst}
use Rattle.sparse.specs.declared.cell.Cell.{Cell}
use Rattle.sparse.specs.Cells.{cell, row_at, column_at, next_at}
use Rattle.sparse.specs.Chains.{row_of, Follows, OneEach, Chained, Walkable, Stands}
use Rattle.sparse.proofs.Rows.{row_of_some}

-- the link after a cell
pub after_cell : (cells : List Cell) (heads : List ℕ) (c link : ℕ) (x : Cell) → Walkable c heads cells → Stands cells c link → (link ≢ 0) × (x ≡ cell cells (link - 1)) → Follows cells c (row_of cells link) x.next
after_cell cells heads c link x w s h =
    rw (row_of_some cells link h.0, h.1)
    (subst (λ d. Follows cells d (row_at cells (link - 1)) (next_at cells (link - 1))) (s h.0).0 (w.nexts_ahead (link - 1) (s h.0).1, w.nexts_nearest (link - 1) (s h.0).1))

pub follows_by : (cells : List Cell) (c d r p l k : ℕ) → c ≡ d → r ≡ p → l ≡ k → Follows cells c r l → Follows cells d p k
follows_by cells c d r p l k ec er el f = subst (λ x. Follows cells x p k) ec (subst (λ x. Follows cells c x k) er (subst (Follows cells c r) el f))

pub first_follows : (n : ℕ) (heads : List ℕ) (cells : List Cell) (c : ℕ) → Chained n heads cells → 1 ≤ c → c ≤ n → Follows cells c 0 (get_or heads (c - 1) 0)
first_follows n heads cells c h l t = (h.heads_ahead c l t, h.heads_nearest c l t)

pub next_follows : (n : ℕ) (heads : List ℕ) (cells : List Cell) (k : ℕ) → Chained n heads cells → 1 ≤ row_at cells k → Follows cells (column_at cells k) (row_at cells k) (next_at cells k)
next_follows n heads cells k h l = (h.nexts_ahead k l, h.nexts_nearest k l)

pub chained_by : (n : ℕ) (heads : List ℕ) (cells : List Cell) → ((c : ℕ) → 1 ≤ c → c ≤ n → Follows cells c 0 (get_or heads (c - 1) 0))
    → ((k : ℕ) → 1 ≤ row_at cells k → Follows cells (column_at cells k) (row_at cells k) (next_at cells k)) → OneEach cells → Chained n heads cells
chained_by n heads cells f g one = record {
  heads_ahead = λ c l t. (f c l t).0;
  heads_nearest = λ c l t. (f c l t).1;
  nexts_ahead = λ k l. (g k l).0;
  nexts_nearest = λ k l. (g k l).1;
  one_each = one;
}
