-- A column that is reduced goes on from those before it, and its low is entered in the table.
use Rattle.std.proofs.Common.{◌≡◌, ◌+◌, None, rules, Err, sym, refl, ap, ◌∙◌, subst, arith}
use Rattle.std.proofs.lemmas.Result.{err_from_is_err_and}
use Rattle.reduction.specs.Progress.{Settles, ColumnSettled}
use Rattle.reduction.proofs.Stores.{stays_itself, stays_on}
use Rattle.reduction.proofs.Settling.{in_columns_none, in_columns_stops, in_columns_dead, in_columns_more, in_columns_all, settled_inside}
use Rattle.reduction.proofs.reducer.Reducer.settle_columns.Goals as goal
use Rattle.reduction.proofs.reducer.Reducer.settle_columns.Goals.{in-Some, in_default}

pub loop-column-init : goal.loop-column-init
loop-column-init g c = (in_columns_none c.requires.ready c.requires.pivots, stays_itself g.S.Store.terms g.S.Store.backing c.args.store.now, refl, refl, omega arith)

pub settle_column-requires : goal.settle_column-requires
settle_column-requires g c =
    let h = c.loop-column.invariant.0 in
    record { ready = h.onward.ready; pivots = h.pivots; inside = (c.loop-column.auto.column, omega (arith, c.loop-column-test.true, ap (λ s. s.triangles) c.loop-column.invariant.3)) }

pub returns-in_err-settled : goal.returns-in_err-settled
returns-in_err-settled g c =
    let inv = c.loop-column.invariant in
    let made = c.settle_column.ensures in
    let s = c.loop-column.self in
    let new = g.S.Grid.holds c.settle_column.new.store in
    let p = err_from_is_err_and c.from_residual.result c.from_residual.ensures.1 in
    let settles = subst (λ u. Settles (g.F.Field.arithmetic s.field.now) s.shape.edges s.shape.triangles u (g.S.Grid.holds c.loop-column.store) c.loop-column.additions c.loop-column.column s.pivots.owners new c.settle_column.result) inv.1.terms_stay made.settles in
    record {
      settles = rw (p.1, sym inv.2, sym inv.3) (in_columns_stops inv.0 new settles (c.in_err-settled.was ∙ ap Err (sym p.2)));
      stays = stays_on g.S.Store.terms g.S.Store.backing c.args.store.now c.loop-column.store c.settle_column.new.store inv.1 made.stays;
      field = inv.2;
      shape = inv.3;
    }

pub own-requires : goal.own-requires
own-requires g c =
    let inv = c.loop-column.invariant in
    let s = c.loop-column.self in
    let settled = subst (λ u. ColumnSettled (g.F.Field.arithmetic s.field.now) s.shape.edges s.shape.triangles u (g.S.Grid.holds c.loop-column.store) c.loop-column.additions c.loop-column.column s.pivots.owners (g.S.Grid.holds c.settle_column.new.store) c.in_ok-settled.settled)
    inv.1.terms_stay c.in_ok-settled.ensures.settles in
    (omega (arith, settled_inside inv.0 c.loop-column.auto.column settled c.in-Some.is, s.shape.few_edges), omega (arith, c.loop-column-test.true, c.args.self.now.shape.few_triangles))

pub loop-column-preserved : goal.loop-column-preserved
loop-column-preserved g c =
    let inv = c.loop-column.invariant in
    let s = c.loop-column.self in
    let least = c.loop-column.auto.column in
    let settled = subst (λ u. ColumnSettled (g.F.Field.arithmetic s.field.now) s.shape.edges s.shape.triangles u (g.S.Grid.holds c.loop-column.store) c.loop-column.additions c.loop-column.column s.pivots.owners (g.S.Grid.holds c.settle_column.new.store) c.in_ok-settled.settled)
    inv.1.terms_stay c.in_ok-settled.ensures.settles in
    let stays = stays_on g.S.Store.terms g.S.Store.backing c.args.store.now c.loop-column.store c.settle_column.new.store inv.1 c.settle_column.ensures.stays in
    elim c.match-settled.branch [
      | in-Some w ↦ rw w.self-is (rw w.own.ensures (in_columns_more inv.0 least settled w.in-Some.is), stays, inv.2, inv.3, omega arith)
      | in_default w ↦
          let none : c.in_ok-settled.settled.low ≡ None = search rules in
          rw w.self-is (in_columns_dead inv.0 least settled none, stays, inv.2, inv.3, omega arith)
    ]

pub returns : goal.returns
returns g c =
    let inv = c.loop-column.invariant in
    let end : c.loop-column.column ≡ c.loop-column.self.shape.triangles + 1 = omega (arith, inv.4, c.loop-column-test.false, ap (λ s. s.triangles) inv.3) in
    record { settles = rw (sym inv.2, sym inv.3) (in_columns_all inv.0 end); stays = inv.1; field = inv.2; shape = inv.3 }

pub returns-after-settled : goal.returns-after-settled
returns-after-settled g c =
    let inv = c.loop-column.invariant in
    let s = c.loop-column.self in
    let least = c.loop-column.auto.column in
    let settled = subst (λ u. ColumnSettled (g.F.Field.arithmetic s.field.now) s.shape.edges s.shape.triangles u (g.S.Grid.holds c.loop-column.store) c.loop-column.additions c.loop-column.column s.pivots.owners (g.S.Grid.holds c.settle_column.new.store) c.in_ok-settled.settled)
    inv.1.terms_stay c.in_ok-settled.ensures.settles in
    let stays = stays_on g.S.Store.terms g.S.Store.backing c.args.store.now c.loop-column.store c.settle_column.new.store inv.1 c.settle_column.ensures.stays in
    let end : c.loop-column.column + 1 ≡ s.shape.triangles + 1 = omega (arith, ap (λ s. s.triangles) inv.3) in
    elim c.match-settled.branch [
      | in-Some w ↦ rw w.self-is (record {
        settles = rw (sym inv.2, sym inv.3, w.own.ensures) (in_columns_all (in_columns_more inv.0 least settled w.in-Some.is) end);
        stays = stays;
        field = inv.2;
        shape = inv.3;
      })
      | in_default w ↦
          let none : c.in_ok-settled.settled.low ≡ None = search rules in
          rw w.self-is (record { settles = rw (sym inv.2, sym inv.3) (in_columns_all (in_columns_dead inv.0 least settled none) end); stays = stays; field = inv.2; shape = inv.3 })
    ]
