-- An edge that is not below that of a row stands in none before.
use Rattle.std.proofs.Common.{◌-◌, sym, ◌∙◌, subst, arith}
use Rattle.std.proofs.lemmas.Bool.{not-true}
use Rattle.complex.specs.Boundaries.{no_edge}
use Rattle.complex.specs.Grids.{Before}
use Rattle.complex.proofs.Columns.{behind_none}
use Rattle.complex.proofs.boundary_grid.BoundaryGrid.is_behind.Goals as goal

pub returns-then-place-self : goal.returns-then-place-self
returns-then-place-self c t i l b s =
    let before = subst (Before i) c.in-Some.is b in
    behind_none c.args.self.now.edges.now c.args.self.now.rising c.args.edge c.saturating_sub-place.result no_edge c.if-place-self.true
    (sym c.is_below.ensures ∙ not-true c.is_below.result t) (i - 1) (omega (arith, c.saturating_sub-place.ensures)) s
