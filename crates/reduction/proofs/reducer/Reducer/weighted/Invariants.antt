-- The sum still to come is that of the rows that are left.
use Rattle.std.proofs.Common.{◌≡◌}
use Rattle.homology.specs.Linear.{total}
use Rattle.reduction.specs.Rows.{rows_from}
use Rattle.reduction.proofs.Values.{term, sum_in}
use Rattle.reduction.proofs.Walks.{Between}
use Rattle.reduction.proofs.reducer.Reducer.weighted.Given as goal

abbrev pub invariant-loop-row : goal.invariant-loop-row
invariant-loop-row g l =
    let a = g.F.Field.arithmetic l.self.field.now in
    let laws = g.met.F.Field.laws l.self.field.now in
    let N = (g.G.Grid.holds l.reduced).at in
    let rows = rows_from (g.G.Grid.holds l.row-iterator.grid.now) l.row-iterator.column l.row-iterator.next l.row-iterator.last in
    (goal.iterator-loop-row g).can_next l.row-iterator
    × (goal.iterator-loop-row g).is_finite l.row-iterator
    × (sum_in a laws l.values N l.column l.sum rows ≡ total a l.last (term a laws l.values N l.column))
    × Between l.last rows
