-- A shape that is taken leaves no cell in use.
use Rattle.std.proofs.Common.{arith}
use Rattle.std.proofs.lemmas.Grind.{common_steps}
use Rattle.sparse.proofs.Starts.{held_blank, begun_sound}
use Rattle.sparse.proofs.sparse.SparseStore.begin.Goals as goal

pub invariant_of-self : goal.invariant_of-self
invariant_of-self c =
    let k = c.clear.ensures in
    record { sound = begun_sound _ _ _ _ _ _ (omega arith) (omega arith) k.cells k.heads c.default-self.ensures.0 c.default-self.ensures.1 }

pub returns-clause-after : goal.returns-clause-after
returns-clause-after c = let blanked = held_blank c.args.rows c.args.columns _ c.clear.ensures.cells in grind (arith, common_steps)
