-- The table has the answers.
use Rattle.std.proofs.Common.{get_or, ap, ◌∙◌}
use Rattle.field.proofs.Lookups.{looked_up}
use Rattle.field.proofs.tables.AnyField.negative.Goals as goal

pub returns : goal.returns
returns g c = c.unary.ensures ∙ ap (λ t. get_or t c.args.a 0) c.negatives.ensures ∙ looked_up g.T.Tables.codes.order g.T.Tables.codes.negative c.args.a
