-- The columns before this one are reduced.
use Rattle.std.proofs.Common.{◌≡◌, ◌+◌, ◌≤◌}
use Rattle.reduction.specs.Stores.{Stays}
use Rattle.reduction.proofs.Settling.{InColumns}
use Rattle.reduction.proofs.reducer.Reducer.settle_columns.Given as goal

abbrev pub invariant-loop-column : goal.invariant-loop-column
invariant-loop-column g l =
    InColumns (g.F.Field.arithmetic l.self.field.now) (g.met.F.Field.laws l.self.field.now) l.self.shape.edges l.self.shape.triangles (g.S.Store.terms l.initial.store) (g.S.Grid.holds l.initial.store)
    l.column l.self.pivots.owners (g.S.Grid.holds l.store) l.additions
    × Stays g.S.Store.terms g.S.Store.backing l.initial.store l.store
    × (l.self.field ≡ l.initial.self.field)
    × (l.self.shape ≡ l.initial.self.shape)
    × (l.column ≤ l.initial.self.shape.triangles + 1)
