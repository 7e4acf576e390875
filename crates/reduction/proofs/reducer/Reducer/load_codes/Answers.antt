-- Each row that is left puts its code, unless that is 0.
use Rattle.std.proofs.Common.{◌∷◌, ◌∙◌, ap, sym}
use Rattle.std.proofs.lemmas.Result.{err_from_is_err_and}
use Rattle.matrix.specs.Matrix.{put_at}
use Rattle.matrix.specs.Terms.{put_outcome, put_after}
use Rattle.matrix.proofs.Puts.{leads_start, leads_by, leads_put, leads_refused, leads_end}
use Rattle.homology.specs.Reduction.{column_puts}
use Rattle.reduction.specs.Grids.{code_of, codes_of}
use Rattle.reduction.specs.Rows.{rows_from}
use Rattle.reduction.proofs.Stores.{stays_itself, stays_over}
use Rattle.reduction.proofs.Turns.{code_zero, puts_in, column_rows, puts_pass, puts_due}
use Rattle.reduction.proofs.Walks.{rows_all}
use Rattle.reduction.proofs.reducer.Reducer.load_codes.Goals as goal

pub loop-row-init : goal.loop-row-init
loop-row-init g c =
    let a = g.F.Field.arithmetic c.args.self.now.field.now in
    let start = g.G.Grid.holds c.args.start.now in
    let A = codes_of a start in
    let k = c.args.column in
    let E = c.args.self.now.shape.edges in
    let rows = ap (λ s. rows_from (g.G.Grid.holds s.grid.now) s.column s.next s.last) c.into_iter-row-iterator.ensures.into_iter_gives ∙ c.of-row-items.ensures in (
      tt,
      tt,
      leads_start (g.S.Store.terms c.args.store.now) (g.S.Grid.holds c.args.store.now) _ _
          (column_rows A k (λ r. start.at r k) (λ r z. code_zero a (start.at r k) z) E ∙ ap (puts_in A k) (rows_all start k E ∙ sym rows)),
      stays_itself g.S.Store.terms g.S.Store.backing c.args.store.now,
    )

pub returns-in_err-put : goal.returns-in_err-put
returns-in_err-put g c =
    let a = g.F.Field.arithmetic c.args.self.now.field.now in
    let A = codes_of a (g.G.Grid.holds c.args.start.now) in
    let k = c.args.column in
    let t = g.S.Store.terms c.args.store.now in
    let m = g.S.Grid.holds c.args.store.now in
    let n = g.S.Grid.holds c.loop-row.store in
    let next = c.next.new.self in
    let left = rows_from (g.G.Grid.holds next.grid.now) next.column next.next next.last in
    let put = c.put.ensures in
    let p = put_at c.in-Some.row k c.code-code.result in
    let stays = c.loop-row.invariant.3 in
    let x = err_from_is_err_and c.from_residual.result c.from_residual.ensures.1 in
    let code = c.code-code.ensures ∙ ap (code_of a) c.entry.ensures in
    let due = leads_by t m n (column_puts c.args.self.now.shape.edges A k) _ (p ∷ puts_in A k left) (ap (puts_in A k) c.in-Some.ensures.steps ∙ puts_due A k c.in-Some.row c.code-code.result left code c.if-code-ne0.true) c.loop-row.invariant.2 in
    let e = leads_refused t m n (g.S.Grid.holds c.put.new.self) (column_puts c.args.self.now.shape.edges A k) p (puts_in A k left) c.put.result c.from_residual.result c.in_err-put.field-0.0 x.0 due
    (put.answer ∙ ap (λ u. put_outcome u n p) stays.terms_stay) (put.after ∙ ap (λ u. put_after u n p) stays.terms_stay) c.in_err-put.was x.1 x.2 in
    record { answer = e.answer; after = e.after; stays = stays_over g.S.Store.terms g.S.Store.backing c.args.store.now c.loop-row.store c.put.new.self stays put.terms put.backing }

pub loop-row-preserved : goal.loop-row-preserved
loop-row-preserved g c =
    let a = g.F.Field.arithmetic c.args.self.now.field.now in
    let A = codes_of a (g.G.Grid.holds c.args.start.now) in
    let k = c.args.column in
    let next = c.next.new.self in
    let left = rows_from (g.G.Grid.holds next.grid.now) next.column next.next next.last in
    let code = c.code-code.ensures ∙ ap (code_of a) c.entry.ensures in (
      tt,
      tt,
      leads_by (g.S.Store.terms c.args.store.now) (g.S.Grid.holds c.args.store.now) (g.S.Grid.holds c.loop-row.store) (column_puts c.args.self.now.shape.edges A k) _ (puts_in A k left)
          (ap (puts_in A k) c.in-Some.ensures.steps ∙ puts_pass A k c.in-Some.row c.code-code.result left code c.if-code-ne0.false) c.loop-row.invariant.2,
      c.loop-row.invariant.3,
    )

pub loop-row-preserved-in-Continue-1 : goal.loop-row-preserved-in-Continue-1
loop-row-preserved-in-Continue-1 g c =
    let a = g.F.Field.arithmetic c.args.self.now.field.now in
    let A = codes_of a (g.G.Grid.holds c.args.start.now) in
    let k = c.args.column in
    let t = g.S.Store.terms c.args.store.now in
    let m = g.S.Grid.holds c.args.store.now in
    let n = g.S.Grid.holds c.loop-row.store in
    let next = c.next.new.self in
    let left = rows_from (g.G.Grid.holds next.grid.now) next.column next.next next.last in
    let put = c.put.ensures in
    let p = put_at c.in-Some.row k c.code-code.result in
    let stays = c.loop-row.invariant.3 in
    let code = c.code-code.ensures ∙ ap (code_of a) c.entry.ensures in
    let due = leads_by t m n (column_puts c.args.self.now.shape.edges A k) _ (p ∷ puts_in A k left) (ap (puts_in A k) c.in-Some.ensures.steps ∙ puts_due A k c.in-Some.row c.code-code.result left code c.if-code-ne0.true) c.loop-row.invariant.2 in (
      tt,
      tt,
      leads_put t m n (g.S.Grid.holds c.put.new.self) (column_puts c.args.self.now.shape.edges A k) p (puts_in A k left) c.put.result tt due
          (put.answer ∙ ap (λ u. put_outcome u n p) stays.terms_stay) (put.after ∙ ap (λ u. put_after u n p) stays.terms_stay) c.in_ok-put.was,
      stays_over g.S.Store.terms g.S.Store.backing c.args.store.now c.loop-row.store c.put.new.self stays put.terms put.backing,
    )

pub returns : goal.returns
returns g c =
    let A = codes_of (g.F.Field.arithmetic c.args.self.now.field.now) (g.G.Grid.holds c.args.start.now) in
    let e = leads_end (g.S.Store.terms c.args.store.now) (g.S.Grid.holds c.args.store.now) (g.S.Grid.holds c.loop-row.store) _ _ c.loop-row.invariant.2 (ap (puts_in A c.args.column) c.in-None.ensures.steps.0) in
    record { answer = e.answer; after = e.after; stays = c.loop-row.invariant.3 }
