-- A zero put where there is none changes nothing.
use Rattle.std.proofs.Common.{sym, ◌∙◌}
use Rattle.sparse.specs.States.{matrix_of, terms_of}
use Rattle.sparse.proofs.Steps.{put_same}
use Rattle.sparse.proofs.sparse.Sparse.set.Goals as goal

pub returns-in-0-eq0-clause-after : goal.returns-in-0-eq0-clause-after
returns-in-0-eq0-clause-after c = put_same (terms_of c.args.self.now) (matrix_of c.args.self.now) c.args.spot.row c.args.spot.column c.args.code (sym c.requires.old ∙ c.in-0-eq0.is-0 ∙ sym c.in-0-eq0.is-1)
