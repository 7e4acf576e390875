-- Each turn makes the put that is due at the next nonzero row, and the puts still to come stay those of the definition.
use Rattle.std.proofs.Common.{None, refl, ap, ◌∙◌, arith}
use Rattle.std.proofs.lemmas.Result.{err_from_is_err_and}
use Rattle.matrix.specs.Matrix.{put_at}
use Rattle.matrix.specs.Terms.{put_outcome, put_after}
use Rattle.matrix.proofs.Multiples.{adding_start, adding_put, adding_refused, adding_end, next_reached}
use Rattle.matrix.proofs.Nonzeros.{next_is, past_rows}
use Rattle.matrix.proofs.store.Store.add_multiple.Goals as goal

pub loop-done-init : goal.loop-done-init
loop-done-init g c =
    (adding_start (g.F.Field.arithmetic c.args.field.now) c.args.factor c.args.from c.args.to (g.Self.Store.terms c.args.self.now) (g.Self.Grid.holds c.args.self.now), refl, refl)

pub returns-in_default : goal.returns-in_default
returns-in_default g c =
    let s = c.loop-done.self in
    let n = g.Self.Grid.holds s in
    let first = next_is n c.args.from _ None (g.Self.Grid.outside s) c.in_default.ensures in
    let e = adding_end (g.F.Field.arithmetic c.args.field.now) c.args.factor c.args.from c.args.to (g.Self.Store.terms c.args.self.now) (g.Self.Grid.holds c.args.self.now) n c.loop-done.done
    c.loop-done.invariant.0 (λ i l. first i (omega arith)) in
    record { answer = e.answer; after = e.after; terms = c.loop-done.invariant.1; backing = c.loop-done.invariant.2 }

pub returns-in_err-put : goal.returns-in_err-put
returns-in_err-put g c =
    let a = g.F.Field.arithmetic c.args.field.now in
    let m = g.Self.Grid.holds c.args.self.now in
    let s = c.loop-done.self in
    let n = g.Self.Grid.holds s in
    let t = g.Self.Store.terms c.args.self.now in
    let row = c.in-Some.row in
    let put = c.put.ensures in
    let p = put_at row c.args.to c.sum-sum.result in
    let x = err_from_is_err_and c.from_residual.result c.from_residual.ensures.1 in
    let e = adding_refused a c.args.factor c.args.from c.args.to t m n (g.Self.Grid.holds c.put.new.self) c.loop-done.done row c.entry-code.result c.entry.result c.product.result c.sum-sum.result
    c.put.result c.from_residual.result c.in_err-put.field-0.0 x.0
    (next_reached a c.args.factor c.args.from c.args.to t m n c.loop-done.done row (g.Self.Grid.outside s) c.loop-done.invariant.0 c.in-Some.ensures)
    (record { from_entry = c.entry-code.ensures; to_entry = c.entry.ensures; product = c.product.ensures; sum = c.sum-sum.ensures })
    (put.answer ∙ ap (λ u. put_outcome u n p) c.loop-done.invariant.1) (put.after ∙ ap (λ u. put_after u n p) c.loop-done.invariant.1) c.in_err-put.was x.1 x.2 in
    record { answer = e.answer; after = e.after; terms = put.terms ∙ c.loop-done.invariant.1; backing = put.backing ∙ c.loop-done.invariant.2 }

pub loop-done-smaller : goal.loop-done-smaller
loop-done-smaller g c =
    let s = c.loop-done.self in
    let first = next_is (g.Self.Grid.holds s) c.args.from _ _ (g.Self.Grid.outside s) c.in-Some.ensures in
    omega (arith, first.0, c.rows.ensures, c.loop-done.invariant.0.same_rows)

pub loop-done-preserved : goal.loop-done-preserved
loop-done-preserved g c =
    let a = g.F.Field.arithmetic c.args.field.now in
    let m = g.Self.Grid.holds c.args.self.now in
    let s = c.loop-done.self in
    let n = g.Self.Grid.holds s in
    let t = g.Self.Store.terms c.args.self.now in
    let row = c.in-Some.row in
    let put = c.put.ensures in
    let p = put_at row c.args.to c.sum-sum.result in (
      adding_put a c.args.factor c.args.from c.args.to t m n (g.Self.Grid.holds c.put.new.self) c.loop-done.done row c.entry-code.result c.entry.result c.product.result c.sum-sum.result
          c.put.result tt
          (next_reached a c.args.factor c.args.from c.args.to t m n c.loop-done.done row (g.Self.Grid.outside s) c.loop-done.invariant.0 c.in-Some.ensures)
          (record { from_entry = c.entry-code.ensures; to_entry = c.entry.ensures; product = c.product.ensures; sum = c.sum-sum.ensures })
          (put.answer ∙ ap (λ u. put_outcome u n p) c.loop-done.invariant.1) (put.after ∙ ap (λ u. put_after u n p) c.loop-done.invariant.1) c.in_ok-put.was,
      put.terms ∙ c.loop-done.invariant.1,
      put.backing ∙ c.loop-done.invariant.2,
    )

pub returns : goal.returns
returns g c =
    let s = c.loop-done.self in
    let n = g.Self.Grid.holds s in
    let e = adding_end (g.F.Field.arithmetic c.args.field.now) c.args.factor c.args.from c.args.to (g.Self.Store.terms c.args.self.now) (g.Self.Grid.holds c.args.self.now) n c.loop-done.done
    c.loop-done.invariant.0 (λ i l. past_rows n i c.args.from (g.Self.Grid.outside s) (omega (arith, c.rows.ensures))) in
    record { answer = e.answer; after = e.after; terms = c.loop-done.invariant.1; backing = c.loop-done.invariant.2 }
