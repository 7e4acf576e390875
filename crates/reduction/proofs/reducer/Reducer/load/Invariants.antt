-- The puts still to come are those of this column and those behind it.
use Rattle.std.proofs.Common.{◌+◌, ◌-◌}
use Rattle.matrix.proofs.Puts.{Leads}
use Rattle.complex.specs.Systems.{starting}
use Rattle.reduction.specs.Grids.{system_in, loads}
use Rattle.reduction.specs.Stores.{Stays}
use Rattle.reduction.proofs.Turns.{columns_on}
use Rattle.reduction.proofs.reducer.Reducer.load.Given as goal

abbrev pub invariant-loop-column : goal.invariant-loop-column
invariant-loop-column g l =
    let S = system_in (g.F.Field.arithmetic l.self.field.now) l.self.shape (g.G.Grid.holds l.start) in
    Leads (g.S.Store.terms l.initial.store) (g.S.Grid.holds l.initial.store) (loads S) (g.S.Grid.holds l.store) (columns_on (S.rows + S.columns) (starting S) l.column (S.columns + 1 + 1 - l.column))
    × Stays g.S.Store.terms g.S.Store.backing l.initial.store l.store
