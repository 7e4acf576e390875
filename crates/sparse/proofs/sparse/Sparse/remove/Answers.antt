-- The cell before leads on to the one after.
use Rattle.std.proofs.Common.{refl, arith}
use Rattle.sparse.proofs.Steps.{at_range, remove_left, remove_from}
use Rattle.sparse.proofs.sparse.Sparse.remove.Goals as goal

pub next-next-requires : goal.next-next-requires
next-next-requires c = at_range c.args.self.now c.requires.spot c.requires.there

pub edit-requires-clause-link : goal.edit-requires-clause-link
edit-requires-clause-link c = at_range c.args.self.now c.requires.spot c.requires.there

pub overflow_sub-self : goal.overflow_sub-self
overflow_sub-self c = remove_from c.args.self.now c.requires.spot c.requires.there

pub invariant_of-self : goal.invariant_of-self
invariant_of-self c =
    record { sound = (remove_left c.args.self.now c.requires.spot c.requires.there _ (omega (arith, c.default.ensures.1.0)) refl c.next-next.ensures c.edit.ensures.cells c.edit.ensures.heads).is_sound }

pub returns : goal.returns
returns c =
    let p = remove_left c.args.self.now c.requires.spot c.requires.there _ (omega (arith, c.default.ensures.1.0)) refl c.next-next.ensures c.edit.ensures.cells c.edit.ensures.heads in
    record { holds = p.holds; stays = record { rows = refl; columns = refl; terms = p.terms; kept = p.kept } }
