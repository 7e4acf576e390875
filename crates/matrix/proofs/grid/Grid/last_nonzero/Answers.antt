-- What the loop stops at is the last, since the rows behind it are zero.
use Rattle.std.proofs.Common.{Some, None, ◌∙◌, arith}
use Rattle.matrix.proofs.Nonzeros.{last_by}
use Rattle.matrix.proofs.grid.Grid.last_nonzero.Goals as goal

pub returns-then-entry-ne0 : goal.returns-then-entry-ne0
returns-then-entry-ne0 g c =
    last_by (g.Self.Grid.holds c.args.self.now) c.args.column c.args.last (Some c.loop-row.row)
    (omega arith, omega (arith, c.min-row.ensures), λ z. c.if-entry-ne0.true (c.entry.ensures ∙ z), c.loop-row.invariant)

pub returns : goal.returns
returns g c =
    last_by (g.Self.Grid.holds c.args.self.now) c.args.column c.args.last None
    (λ i l h. c.loop-row.invariant i (omega arith) h)
