-- The column has come to a low, and so many additions are done.
use Rattle.reduction.proofs.Walks.{or_zero}
use Rattle.reduction.specs.Stores.{Stays}
use Rattle.reduction.proofs.Settling.{InColumn}
use Rattle.reduction.proofs.reducer.Reducer.settle_column.Given as goal

abbrev pub invariant-loop-low : goal.invariant-loop-low
invariant-loop-low g l =
    InColumn (g.F.Field.arithmetic l.self.field.now) (g.met.F.Field.laws l.self.field.now) l.self.shape.edges l.self.shape.triangles (g.S.Store.terms l.initial.store) (g.S.Grid.holds l.initial.store)
    l.initial.additions l.column l.self.pivots.owners (g.S.Grid.holds l.store) l.additions l.low
    × Stays g.S.Store.terms g.S.Store.backing l.initial.store l.store

abbrev pub decreases-loop-low : goal.decreases-loop-low
decreases-loop-low g l = or_zero l.low
