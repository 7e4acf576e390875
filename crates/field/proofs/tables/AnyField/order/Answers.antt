-- A table has an entry for each code.
use Rattle.std.proofs.Common.{length, ap, ◌∙◌, arith}
use Rattle.field.proofs.Lookups.{length_table}
use Rattle.field.proofs.tables.AnyField.order.Goals as goal

pub returns : goal.returns
returns g c = ap length c.negatives.ensures ∙ length_table _ _

pub overflow_cast-result : goal.overflow_cast-result
overflow_cast-result g c = omega (arith, ap length c.negatives.ensures ∙ length_table _ _, g.met.T.Tables.laws.most)
