-- What the codes before this one come to.
use Rattle.std.proofs.Common.{◌≡◌}
use Rattle.homology.specs.Certificate.{vector}
use Rattle.checking.specs.Equations.{along, weighted}
use Rattle.checking.proofs.equations.Equations.weighted_sum.Given as goal

abbrev pub invariant-loop-i : goal.invariant-loop-i
invariant-loop-i g l =
    l.sum ≡ weighted (g.F.Field.arithmetic l.self.field.now) l.i (vector l.codes) (along (g.G.Grid.holds l.self.grid.now).at l.line)
