-- Outside the columns every entry is 0.
use Rattle.std.proofs.Common.{arith}
use Rattle.complex.proofs.Columns.{column_outside, next_found}
use Rattle.complex.proofs.boundary_grid.reads.BoundaryGridGrid.next_nonzero.Goals as goal

pub returns-then-column-triangles : goal.returns-then-column-triangles
returns-then-column-triangles c =
    let g = c.args.self.now in
    next_found g _ _ _ (column_outside g.minus g.edges.now g.triangles.now g.fence.now c.args.column c.args.first (λ a b. grind arith))
