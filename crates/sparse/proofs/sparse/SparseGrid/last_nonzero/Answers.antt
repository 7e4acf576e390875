-- The last cell before the row after has the last entry.
use Rattle.std.proofs.Common.{◌+◌, Some, ap, ◌∙◌}
use Rattle.sparse.specs.declared.cell.Cell.{Cell}
use Rattle.sparse.proofs.Locating.{last_none, last_end, last_some}
use Rattle.sparse.proofs.sparse.SparseGrid.last_nonzero.Goals as goal

pub returns-in_err-spot : goal.returns-in_err-spot
returns-in_err-spot c = c.from_residual.ensures ∙ last_none c.args.self.now c.args.column _ c.args.last c.in_err-spot.ensures (ap (λ n. n + 1) c.min.ensures)

pub returns-in_err-cell : goal.returns-in_err-cell
returns-in_err-cell c =
    let h = c.in_ok-spot.ensures in
    c.from_residual-in_err-cell.ensures ∙ rw (← h.1) (last_end c.args.self.now c.in_ok-spot.spot h.2 c.args.last (h.0 ∙ ap (λ n. n + 1) c.min.ensures) c.in_err-cell.ensures)

pub returns : goal.returns
returns c =
    let h = c.in_ok-spot.ensures in
    let k = c.in_ok-cell.ensures in
    ap (λ (x : Cell). Some x.row) k.1 ∙ rw (← h.1) (last_some c.args.self.now c.in_ok-spot.spot h.2 c.args.last (h.0 ∙ ap (λ n. n + 1) c.min.ensures) k.0)
