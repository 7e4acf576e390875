-- Only a code is changed.
use Rattle.std.proofs.Common.{refl}
use Rattle.sparse.proofs.Steps.{at_range, replace_left}
use Rattle.sparse.proofs.sparse.Sparse.replace.Goals as goal

pub recode-requires : goal.recode-requires
recode-requires c = at_range c.args.self.now c.requires.spot c.requires.there

pub invariant_of-self : goal.invariant_of-self
invariant_of-self c = record { sound = (replace_left c.args.self.now c.requires.spot c.requires.there c.requires.code c.recode.ensures).is_sound }

pub returns : goal.returns
returns c =
    let p = replace_left c.args.self.now c.requires.spot c.requires.there c.requires.code c.recode.ensures in
    record { holds = p.holds; stays = record { rows = refl; columns = refl; terms = p.terms; kept = p.kept } }
