-- What the search has passed, and the steps still to come.
use Rattle.std.proofs.Common.{get_or, drop}
use Rattle.survey.specs.Surveys.{steps_from}
use Rattle.complex.proofs.Columns.{Passing}
use Rattle.complex.proofs.boundary_grid.BoundaryGrid.next_in_fence.Given as goal

abbrev pub invariant-loop-i : goal.invariant-loop-i
invariant-loop-i l =
    let fence = l.self.fence.now in
    Passing l.self.minus l.self.edges.now l.self.triangles.now fence l.first l.nearest (steps_from (get_or fence 0 0) (drop l.i fence))
