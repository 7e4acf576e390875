-- One code more.
use Rattle.checking.specs.Equations.{along}
use Rattle.checking.proofs.Terms.{weighted_more}
use Rattle.checking.proofs.equations.Equations.weighted_sum.Goals as goal

pub loop-i-preserved : goal.loop-i-preserved
loop-i-preserved g c =
    weighted_more (g.F.Field.arithmetic c.args.self.now.field.now) c.args.codes.now (along (g.G.Grid.holds c.args.self.now.grid.now).at c.args.line)
    _ _ _ _ _ c.loop-i.invariant c.entry_of-entry.ensures c.product.ensures c.sum-sum.ensures
