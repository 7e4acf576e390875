-- The coefficients before this one are written.
use Rattle.std.proofs.Common.{◌≡◌, ◌+◌, ◌++◌, drop}
use Rattle.homology.specs.Certificate.{listed}
use Rattle.reduction.proofs.reducer.Reducer.write_filling.Given as goal

abbrev pub invariant-loop-t : goal.invariant-loop-t
invariant-loop-t g l =
    l.codes ≡ listed l.t (λ t. (g.F.Field.arithmetic l.self.field.now).negative ((g.G.Grid.holds l.reduced).at (l.self.shape.edges + t) (l.self.shape.triangles + 1))) ++ drop l.t l.initial.codes
