-- The rows behind this one are quiet.
use Rattle.reduction.specs.Stores.{Stays}
use Rattle.reduction.proofs.Settling.{InTarget}
use Rattle.reduction.proofs.reducer.Reducer.settle_target.Given as goal

abbrev pub invariant-loop-row : goal.invariant-loop-row
invariant-loop-row g l =
    InTarget (g.F.Field.arithmetic l.self.field.now) (g.met.F.Field.laws l.self.field.now) l.self.shape.edges l.self.shape.triangles (g.S.Store.terms l.initial.store) (g.S.Grid.holds l.initial.store)
    l.initial.additions l.self.pivots.owners (g.S.Grid.holds l.store) l.additions l.row
    × Stays g.S.Store.terms g.S.Store.backing l.initial.store l.store
