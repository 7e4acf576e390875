-- Between the two links stands no cell of the column.
use Rattle.std.proofs.Common.{◌-◌, ◌<◌}
use Rattle.sparse.specs.Chains.{Ahead, Nearest, Stands, row_of}
use Rattle.sparse.proofs.chains.seek.Given as goal

abbrev pub invariant-loop-cell : goal.invariant-loop-cell
invariant-loop-cell l = record {
  stands : Stands l.cells l.column l.before;
  below : row_of l.cells l.before < l.row;
  ahead : Ahead l.cells l.column (row_of l.cells l.before) l.at;
  nearest : Nearest l.cells l.column (row_of l.cells l.before) l.at;
}

abbrev pub decreases-loop-cell : goal.decreases-loop-cell
decreases-loop-cell l = l.row - row_of l.cells l.before
