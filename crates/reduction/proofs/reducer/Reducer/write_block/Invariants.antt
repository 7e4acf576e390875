-- The values of the rows before this one are written.
use Rattle.std.proofs.Common.{◌≡◌, ◌++◌, drop}
use Rattle.homology.specs.Certificate.{listed, values}
use Rattle.reduction.proofs.reducer.Reducer.write_block.Given as goal

abbrev pub invariant-loop-before : goal.invariant-loop-before
invariant-loop-before g l =
    l.codes ≡ listed l.before (values (g.F.Field.arithmetic l.self.field.now) l.self.shape.edges l.self.shape.triangles (g.G.Grid.holds l.reduced).at l.before) ++ drop l.before l.initial.codes
