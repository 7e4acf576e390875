-- What the scan stops at is the first, since the rows before it are zero.
use Rattle.std.proofs.Common.{◌≡◌, ◌<◌, ◌≤◌, Some, None, sym, ap, ◌∙◌, ⊎_elim, arith}
use Rattle.std.proofs.lemmas.Bool.{cases_eq, cases_lt}
use Rattle.matrix.proofs.Nonzeros.{next_by, past_rows}
use Rattle.matrix.proofs.grid.Grid.next_nonzero.Goals as goal

pub returns-then-entry-ne0 : goal.returns-then-entry-ne0
returns-then-entry-ne0 g c =
    let s = c.args.self.now in
    next_by (g.Self.Grid.holds s) c.args.column c.args.first (Some c.loop-row.row) (g.Self.Grid.outside s)
    (omega arith, λ z. c.if-entry-ne0.true (c.entry.ensures ∙ z), c.loop-row.invariant)

pub returns-else-entry-ne0 : goal.returns-else-entry-ne0
returns-else-entry-ne0 g c =
    let s = c.args.self.now in
    next_by (g.Self.Grid.holds s) c.args.column c.args.first None (g.Self.Grid.outside s)
    (λ i l. ⊎_elim
    (λ (lt : i < c.loop-row.row). c.loop-row.invariant i l lt)
    (λ (le : c.loop-row.row ≤ i). ⊎_elim
    (λ (e : i ≡ c.loop-row.row). ap (λ r. (g.Self.Grid.holds s).at r c.args.column) e ∙ sym c.entry.ensures ∙ c.if-entry-ne0.false)
    (λ (d : i ≡ c.loop-row.row → ⊥). past_rows (g.Self.Grid.holds s) i c.args.column (g.Self.Grid.outside s) (omega (arith, d, c.rows-row-end.ensures)))
    (cases_eq i c.loop-row.row))
    (cases_lt i c.loop-row.row))
