-- Each row that is left adds its product.
use Rattle.std.proofs.Common.{sym, ap, ◌∙◌, subst, arith}
use Rattle.reduction.specs.Rows.{rows_from}
use Rattle.reduction.proofs.Values.{sum_in, sum_rows, sum_more}
use Rattle.reduction.proofs.Walks.{Between, rows_all, nonzero_between}
use Rattle.reduction.proofs.reducer.Reducer.weighted.Goals as goal

pub loop-row-init : goal.loop-row-init
loop-row-init g c =
    let m = g.G.Grid.holds c.args.reduced.now in
    let k = c.args.column in
    let n = c.args.last in
    let sums = sum_in (g.F.Field.arithmetic c.args.self.now.field.now) (g.met.F.Field.laws c.args.self.now.field.now) c.args.values.now m.at k in
    let rows = rows_all m k n ∙ sym (ap (λ s. rows_from (g.G.Grid.holds s.grid.now) s.column s.next s.last) c.into_iter-row-iterator.ensures.into_iter_gives ∙ c.of-row-items.ensures) in (
      tt,
      tt,
      ap (sums 0) (sym rows) ∙ sum_rows (g.F.Field.arithmetic c.args.self.now.field.now) (g.met.F.Field.laws c.args.self.now.field.now) c.args.values.now m.at k n,
      subst (Between n) rows (nonzero_between (λ r. m.at r k) n 1 n (omega arith) (omega arith)),
    )

pub overflow_sub-value : goal.overflow_sub-value
overflow_sub-value g c = (subst (Between c.args.last) c.in-Some.ensures.steps c.loop-row.invariant.3).0

pub bounds-values-row : goal.bounds-values-row
bounds-values-row g c = let h = subst (Between c.args.last) c.in-Some.ensures.steps c.loop-row.invariant.3 in omega (arith, h.0, h.1, c.requires.0)

pub loop-row-preserved : goal.loop-row-preserved
loop-row-preserved g c =
    let a = g.F.Field.arithmetic c.args.self.now.field.now in
    let laws = g.met.F.Field.laws c.args.self.now.field.now in
    let m = g.G.Grid.holds c.args.reduced.now in
    let k = c.args.column in
    let next = c.next.new.self in
    let left = rows_from (g.G.Grid.holds next.grid.now) next.column next.next next.last in
    let h = subst (Between c.args.last) c.in-Some.ensures.steps c.loop-row.invariant.3 in (
      tt,
      tt,
      sym (ap (sum_in a laws c.args.values.now m.at k c.loop-row.sum) c.in-Some.ensures.steps
          ∙ sum_more a laws c.args.values.now m.at k c.in-Some.row c.loop-row.sum c.product.result c.entry.result c.sum-sum.result left h.0 c.entry.ensures c.product.ensures c.sum-sum.ensures)
          ∙ c.loop-row.invariant.2,
      h.2,
    )

pub returns : goal.returns
returns g c =
    sym (ap (sum_in (g.F.Field.arithmetic c.args.self.now.field.now) (g.met.F.Field.laws c.args.self.now.field.now) c.args.values.now (g.G.Grid.holds c.args.reduced.now).at c.args.column c.loop-row.sum) c.in-None.ensures.steps.0)
    ∙ c.loop-row.invariant.2
