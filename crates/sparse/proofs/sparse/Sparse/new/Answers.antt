-- No cell is in use.
use Rattle.std.proofs.Common.{arith}
use Rattle.std.proofs.lemmas.Grind.{common_steps}
use Rattle.sparse.specs.Chains.{Unused}
use Rattle.sparse.proofs.Starts.{begun_sound}
use Rattle.sparse.proofs.sparse.Sparse.new.Goals as goal

pub invariant_of-result : goal.invariant_of-result
invariant_of-result c =
    let none : Unused 0 c.fill.new.self = grind (arith, common_steps) in
    record { sound = begun_sound 0 0 _ _ _ _ (omega arith) (omega arith) none (λ k h. absurd (omega arith)) c.default-2.ensures.0 c.default-2.ensures.1 }
