-- The cell that is taken was out of use, and stands where the row belongs.
use Rattle.std.proofs.Common.{refl}
use Rattle.sparse.proofs.Steps.{taken_from, insert_left}
use Rattle.sparse.proofs.sparse.Sparse.insert.Goals as goal

pub edit-requires-clause-link : goal.edit-requires-clause-link
edit-requires-clause-link c = taken_from c.args.self.now c.requires.room c.idle-link.ensures

pub invariant_of-self : goal.invariant_of-self
invariant_of-self c =
    let h = c.requires in
    record { sound = (insert_left c.args.self.now h.spot h.none h.code h.room c.idle-link.ensures c.edit.ensures.cells c.edit.ensures.heads).is_sound }

pub returns : goal.returns
returns c =
    let h = c.requires in
    let p = insert_left c.args.self.now h.spot h.none h.code h.room c.idle-link.ensures c.edit.ensures.cells c.edit.ensures.heads in
    record { holds = p.holds; stays = record { rows = refl; columns = refl; terms = p.terms; kept = p.kept } }
