-- An edge below that of a place is below all behind it; the others are looked up from that place on.
use Rattle.std.proofs.Common.{◌-◌, sym, ◌∙◌, arith}
use Rattle.complex.specs.Boundaries.{no_edge}
use Rattle.complex.proofs.Columns.{past_none, row_found, row_none}
use Rattle.complex.proofs.boundary_grid.BoundaryGrid.row_of.Goals as goal
use Rattle.complex.proofs.boundary_grid.BoundaryGrid.row_of.Goals.{then-passed-self-via-then-passed-self, then-passed-self-via-else-passed-self+then-is_below}

pub returns-then-passed-self : goal.returns-then-passed-self
returns-then-passed-self c i l k s =
    let passed = c.saturating_sub-passed.ensures in
    let lt = s.0 in
    elim c.then-passed-self.branch [
      | then-passed-self-via-then-passed-self w ↦ let end = w.if-passed-self.true in omega arith
      | then-passed-self-via-else-passed-self+then-is_below w ↦
          past_none c.args.self.now.edges.now c.args.self.now.rising c.args.edge c.saturating_sub-passed.result no_edge
          (sym w.is_below.ensures ∙ w.if-is_below.true) (i - 1) (omega arith) s
    ]

pub returns-in_err-place : goal.returns-in_err-place
returns-in_err-place c =
    rw c.from_residual.ensures (row_none c.args.self.now.edges.now c.args.self.now.rising c.args.first _ c.args.edge c.saturating_sub-passed.ensures c.in_err-place.ensures)

pub returns : goal.returns
returns c = row_found c.args.self.now.edges.now c.args.first _ _ c.args.edge c.saturating_sub-passed.ensures c.in_ok-place.ensures
