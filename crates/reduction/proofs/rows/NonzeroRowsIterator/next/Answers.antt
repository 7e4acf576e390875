-- The row that the grid finds, if it is not behind the last.
use Rattle.std.proofs.Common.{◌+◌, ◌<◌, Some, None, length, sym, subst, arith}
use Rattle.reduction.specs.Rows.{rows_from}
use Rattle.reduction.proofs.Walks.{rows_next, rows_end, some_is}
use Rattle.reduction.proofs.rows.NonzeroRowsIterator.next.Goals as goal

pub returns-in_err-row-clause-steps : goal.returns-in_err-row-clause-steps
returns-in_err-row-clause-steps g c =
    let s = c.args.self.now in
    let e = rows_end (g.G.Grid.holds s.grid.now) (g.G.Grid.outside s.grid.now) s.column s.next s.last None c.in_err-row.ensures (λ r is. absurd (cc is)) in
    rw c.from_residual.ensures (e, e)

pub returns-then-row-self-clause-steps : goal.returns-then-row-self-clause-steps
returns-then-row-self-clause-steps g c =
    let s = c.args.self.now in
    let e = rows_end (g.G.Grid.holds s.grid.now) (g.G.Grid.outside s.grid.now) s.column s.next s.last (Some c.in_ok-row.row) c.in_ok-row.ensures
    (λ r is. some_is c.in_ok-row.row r s.last is c.if-row-self.true) in
    (e, e)

pub returns-clause-steps : goal.returns-clause-steps
returns-clause-steps g c =
    let s = c.args.self.now in
    rows_next (g.G.Grid.holds s.grid.now) (g.G.Grid.outside s.grid.now) s.column s.next s.last c.in_ok-row.row c.in_ok-row.ensures c.if-row-self.false

pub returns-clause-goes : goal.returns-clause-goes
returns-clause-goes g c =
    let s = c.args.self.now in
    let e = rows_next (g.G.Grid.holds s.grid.now) (g.G.Grid.outside s.grid.now) s.column s.next s.last c.in_ok-row.row c.in_ok-row.ensures c.if-row-self.false in
    record { on = λ _. (tt, tt, subst (λ l. length (rows_from (g.G.Grid.holds s.grid.now) s.column (c.in_ok-row.row + 1) s.last) < length l) (sym e) (omega arith)); keeps = tt; rests = λ _. tt }
