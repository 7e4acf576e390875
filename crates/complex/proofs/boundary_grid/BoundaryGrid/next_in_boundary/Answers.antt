-- The four rows of a triangle's column.
use Rattle.std.proofs.Common.{arith}
use Rattle.complex.proofs.Columns.{boundary_none, boundary_first, next_found}
use Rattle.complex.proofs.boundary_grid.BoundaryGrid.next_in_boundary.Goals as goal

pub returns-then-first-own : goal.returns-then-first-own
returns-then-first-own c =
    let g = c.args.self.now in
    next_found g _ _ _ (boundary_none g.minus g.edges.now g.triangles.now g.fence.now c.args.column c.requires.0 c.requires.1 c.args.first (omega arith))

pub returns : goal.returns
returns c =
    let g = c.args.self.now in
    next_found g _ _ _
    (boundary_first g.minus g.edges.now g.triangles.now g.fence.now c.args.column c.requires.0 c.requires.1 c.args.first _ _ _ (omega arith) c.nearer-nearest.ensures c.nearer-nearest-2.ensures c.nearer.ensures)
