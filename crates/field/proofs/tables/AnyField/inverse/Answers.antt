-- The table has the answers.
use Rattle.std.proofs.Common.{get_or, ap, ◌∙◌}
use Rattle.field.proofs.Lookups.{looked_up}
use Rattle.field.proofs.tables.AnyField.inverse.Goals as goal

pub returns : goal.returns
returns g c = c.unary.ensures ∙ ap (λ t. get_or t c.args.a 0) c.inverses.ensures ∙ looked_up g.T.Tables.codes.order g.T.Tables.codes.inverse c.args.a
