-- Each step leads to the nearest cell of the column past the last one.
use Rattle.std.proofs.Common.{ap, arith}
use Rattle.sparse.specs.declared.cell.Cell.{Cell}
use Rattle.sparse.specs.Chains.{Stands}
use Rattle.sparse.proofs.Rows.{row_of_some}
use Rattle.sparse.proofs.Walks.{after_cell}
use Rattle.sparse.proofs.chains.seek.Goals as goal

pub loop-cell-preserved : goal.loop-cell-preserved
loop-cell-preserved c =
    let here = c.in-Some.ensures in
    let ahead = c.loop-cell.invariant.ahead here.0 in
    let stands : Stands c.args.cells.now c.args.column c.loop-cell.at = λ _. (ahead.0, omega (arith, ahead.1)) in
    let follows = after_cell _ _ _ _ _ c.requires.chain stands here in record {
      stands = stands;
      below = omega (arith, row_of_some c.args.cells.now c.loop-cell.at here.0, ap (λ (x : Cell). x.row) here.1);
      ahead = follows.0;
      nearest = follows.1;
    }
