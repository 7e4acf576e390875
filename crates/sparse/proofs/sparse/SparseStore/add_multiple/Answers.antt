-- Each turn makes the put that is due next.
use Rattle.std.proofs.Common.{◌<◌, ◌≤◌, refl, ◌∙◌, arith}
use Rattle.std.proofs.lemmas.Result.{err_from_is_err_and}
use Rattle.sparse.proofs.Merges.{merge_nothing, merge_start, link_to, merge_end, merge_outside, inside_spot, merge_refused, merge_put, merge_less}
use Rattle.sparse.proofs.sparse.SparseStore.add_multiple.Goals as goal
use Rattle.sparse.proofs.sparse.SparseStore.add_multiple.Goals.{then-to-eq0-via-then-to-eq0, then-to-eq0-via-else-to-eq0+then-to-self}

pub returns-in_default : goal.returns-in_default
returns-in_default g c =
    let e = merge_nothing (g.F.Field.arithmetic c.args.field.now) c.args.factor c.args.from c.args.to c.args.self.now c.in_default.ensures in
    record { answer = e.answer; after = e.after; terms = refl; backing = refl }

pub returns-in-Some-start : goal.returns-in-Some-start
returns-in-Some-start g c =
    let past : 1 ≤ c.in-Some-start.field-0.row → 1 ≤ c.args.to → c.args.self.now.shape.columns < c.args.to = λ _ h. elim c.then-to-eq0.branch [
      | then-to-eq0-via-then-to-eq0 q ↦ omega (arith, q.if-to-eq0.true, h)
      | then-to-eq0-via-else-to-eq0+then-to-self q ↦ omega (arith, q.if-to-self.true, h)
    ] in
    let e = merge_outside _ _ _ _ (merge_start (g.F.Field.arithmetic c.args.field.now) c.args.factor c.args.from c.args.to c.args.self.now c.in-Some.first c.in-Some.ensures) c.in-Some-start.field-0 c.in-Some-start.ensures past in
    record { answer = e.answer; after = e.after; terms = refl; backing = refl }

pub returns-in-None : goal.returns-in-None
returns-in-None g c =
    let e = merge_end _ _ _ _ (merge_start (g.F.Field.arithmetic c.args.field.now) c.args.factor c.args.from c.args.to c.args.self.now c.in-Some.first c.in-Some.ensures) c.in-None.ensures in
    record { answer = e.answer; after = e.after; terms = refl; backing = refl }

pub cell-requires : goal.cell-requires
cell-requires g c = link_to _ _ _ _ c.loop-cell.invariant.1

pub loop-cell-init : goal.loop-cell-init
loop-cell-init g c = (0, merge_start _ _ _ _ c.args.self.now c.in-Some.first c.in-Some.ensures)

pub set-requires-clause-spot : goal.set-requires-clause-spot
set-requires-clause-spot g c = inside_spot _ _ _ _ c.loop-cell.invariant.1 c.in-Some-cell.cell c.in-Some-cell.ensures c.spot_after-spot.result c.spot_after-spot.ensures

pub returns-in_err-set : goal.returns-in_err-set
returns-in_err-set g c =
    let w = c.loop-cell.invariant.1 in
    let k = c.set.ensures in
    let z = err_from_is_err_and c.from_residual.result c.from_residual.ensures.1 in
    let e = merge_refused _ _ _ _ w c.in-Some-cell.cell c.in-Some-cell.ensures c.spot_after-spot.result c.spot_after-spot.ensures c.code-old.ensures c.product.ensures c.sum-sum.ensures
    _ c.set.result c.from_residual.result c.in_err-set.field-0.0 z.0 k.answer k.after c.in_err-set.was z.1 z.2 in
    record { answer = e.answer; after = e.after; terms = k.stays.terms ∙ w.same_terms; backing = refl }

pub loop-cell-smaller : goal.loop-cell-smaller
loop-cell-smaller g c =
    merge_less _ _ _ _ c.loop-cell.invariant.1 c.in-Some-cell.cell c.in-Some-cell.ensures c.spot_after-spot.result c.spot_after-spot.ensures c.code-old.ensures c.product.ensures c.sum-sum.ensures
    c.set.new.self c.set.ensures.stays

pub loop-cell-preserved : goal.loop-cell-preserved
loop-cell-preserved g c =
    let k = c.set.ensures in (
      c.in-Some-cell.cell.row,
      merge_put _ _ _ _ c.loop-cell.invariant.1 c.in-Some-cell.cell c.in-Some-cell.ensures c.spot_after-spot.result c.spot_after-spot.ensures c.code-old.ensures c.product.ensures c.sum-sum.ensures
          c.set.new.self k.stays c.set.result tt k.answer k.after c.in_ok-set.was,
    )

pub returns : goal.returns
returns g c =
    let w = c.loop-cell.invariant.1 in
    let e = merge_end _ _ _ _ w c.in_default-cell.ensures in
    record { answer = e.answer; after = e.after; terms = w.same_terms; backing = refl }
