-- The puts still to come are those in the rows that are left.
use Rattle.matrix.proofs.Puts.{Leads}
use Rattle.homology.specs.Reduction.{column_puts}
use Rattle.reduction.specs.Grids.{codes_of}
use Rattle.reduction.specs.Rows.{rows_from}
use Rattle.reduction.specs.Stores.{Stays}
use Rattle.reduction.proofs.Turns.{puts_in}
use Rattle.reduction.proofs.reducer.Reducer.load_codes.Given as goal

abbrev pub invariant-loop-row : goal.invariant-loop-row
invariant-loop-row g l =
    let A = codes_of (g.F.Field.arithmetic l.self.field.now) (g.G.Grid.holds l.start) in
    let rows = rows_from (g.G.Grid.holds l.row-iterator.grid.now) l.row-iterator.column l.row-iterator.next l.row-iterator.last in
    (goal.iterator-loop-row g).can_next l.row-iterator
    × (goal.iterator-loop-row g).is_finite l.row-iterator
    × Leads (g.S.Store.terms l.initial.store) (g.S.Grid.holds l.initial.store) (column_puts l.self.shape.edges A l.column) (g.S.Grid.holds l.store) (puts_in A l.column rows)
    × Stays g.S.Store.terms g.S.Store.backing l.initial.store l.store
