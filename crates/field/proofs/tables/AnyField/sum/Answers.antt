-- The table has the answers.
use Rattle.std.proofs.Common.{[], get_or, ap, ◌∙◌}
use Rattle.field.proofs.Lookups.{looked_up₂}
use Rattle.field.proofs.tables.AnyField.sum.Goals as goal

pub returns : goal.returns
returns g c = c.binary.ensures ∙ ap (λ t. get_or (get_or t c.args.a []) c.args.b 0) c.sums.ensures ∙ looked_up₂ g.T.Tables.codes.order g.T.Tables.codes.sum c.args.a c.args.b
