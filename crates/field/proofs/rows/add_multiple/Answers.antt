-- At the end the places below both lengths are done, and the others as they were.
use Rattle.std.proofs.Common.{arith}
use Rattle.field.proofs.RowLaws.{plus_multiple_is}
use Rattle.field.proofs.rows.add_multiple.Goals as goal

pub returns : goal.returns
returns g c =
    plus_multiple_is (g.F.Field.arithmetic c.args.field.now) c.args.factor c.args.row.now c.args.other.now c.loop-i.row
    (omega arith) (λ i h l. c.loop-i.invariant.0 i (omega arith)) (λ i h. c.loop-i.invariant.1 i (omega arith))
