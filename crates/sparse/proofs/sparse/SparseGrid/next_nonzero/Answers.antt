-- The first cell that is not before the row has the next entry.
use Rattle.std.proofs.Common.{Some, ap, ◌∙◌}
use Rattle.sparse.specs.declared.cell.Cell.{Cell}
use Rattle.sparse.proofs.Locating.{next_none, next_end, next_some}
use Rattle.sparse.proofs.sparse.SparseGrid.next_nonzero.Goals as goal

pub returns-in_err-spot : goal.returns-in_err-spot
returns-in_err-spot c = c.from_residual.ensures ∙ next_none c.args.self.now c.args.column _ c.args.first c.in_err-spot.ensures c.max.ensures

pub returns-in_err-cell : goal.returns-in_err-cell
returns-in_err-cell c =
    let h = c.in_ok-spot.ensures in
    c.from_residual-in_err-cell.ensures ∙ rw (← h.1) (next_end c.args.self.now c.in_ok-spot.spot h.2 c.args.first (h.0 ∙ c.max.ensures) c.in_err-cell.ensures)

pub returns : goal.returns
returns c =
    let h = c.in_ok-spot.ensures in
    let k = c.in_ok-cell.ensures in
    ap (λ (x : Cell). Some x.row) k.1 ∙ rw (← h.1) (next_some c.args.self.now c.in_ok-spot.spot h.2 c.args.first (h.0 ∙ c.max.ensures) k.0)
