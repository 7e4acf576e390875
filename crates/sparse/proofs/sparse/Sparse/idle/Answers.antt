-- A cell is left where fewer are in use than can be.
use Rattle.std.proofs.Common.{arith}
use Rattle.sparse.proofs.Takes.{take_free_to, take_fresh_to}
use Rattle.sparse.proofs.sparse.Sparse.idle.Goals as goal

pub bounds-self-from : goal.bounds-self-from
bounds-self-from c = omega (arith, take_free_to c.args.self.now.sound, c.in-Some.ensures.0, c.in-Some.ensures.1, c.from.ensures)

pub overflow_add-result-in-None : goal.overflow_add-result-in-None
overflow_add-result-in-None c = omega (arith, take_fresh_to c.args.self.now.sound c.requires (omega (arith, c.in-None.ensures)))

pub overflow_add-result : goal.overflow_add-result
overflow_add-result c = omega (arith, take_fresh_to c.args.self.now.sound c.requires (omega (arith, c.in-None.ensures)))
