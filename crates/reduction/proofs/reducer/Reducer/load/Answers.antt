-- Column by column, the puts still to come are those of the columns still to come.
use Rattle.std.proofs.Common.{◌≡◌, ◌+◌, arith}
use Rattle.std.proofs.lemmas.Result.{err_from_is_err_and}
use Rattle.matrix.proofs.Puts.{leads_start}
use Rattle.complex.specs.Systems.{starting}
use Rattle.reduction.specs.Grids.{system_in, loads}
use Rattle.reduction.proofs.Stores.{stays_itself, stays_on}
use Rattle.reduction.proofs.Turns.{columns_all, column_refused, column_loaded, columns_loaded}
use Rattle.reduction.proofs.reducer.Reducer.load.Goals as goal

pub loop-column-init : goal.loop-column-init
loop-column-init g c =
    let S = system_in (g.F.Field.arithmetic c.args.self.now.field.now) c.args.self.now.shape (g.G.Grid.holds c.args.start.now) in (
      leads_start (g.S.Store.terms c.args.store.now) (g.S.Grid.holds c.args.store.now) (loads S) _ (columns_all (S.rows + S.columns) (starting S) (S.columns + 1)),
      stays_itself g.S.Store.terms g.S.Store.backing c.args.store.now,
    )

pub returns-in_err-load_column : goal.returns-in_err-load_column
returns-in_err-load_column g c =
    let S = system_in (g.F.Field.arithmetic c.args.self.now.field.now) c.args.self.now.shape (g.G.Grid.holds c.args.start.now) in
    let made = c.load_column.ensures in
    let x = err_from_is_err_and c.from_residual.result c.from_residual.ensures.1 in
    let e = column_refused (S.rows + S.columns) (starting S) c.loop-column-test.true c.loop-column.invariant.0 c.loop-column.invariant.1.terms_stay made.answer made.after c.in_err-load_column.was x.1 x.2 in
    record { answer = e.answer; after = e.after; stays = stays_on g.S.Store.terms g.S.Store.backing c.args.store.now c.loop-column.store c.load_column.new.store c.loop-column.invariant.1 made.stays }

pub loop-column-preserved : goal.loop-column-preserved
loop-column-preserved g c =
    let S = system_in (g.F.Field.arithmetic c.args.self.now.field.now) c.args.self.now.shape (g.G.Grid.holds c.args.start.now) in
    let made = c.load_column.ensures in (
      column_loaded (S.rows + S.columns) (starting S) c.loop-column-test.true c.loop-column.invariant.0 c.loop-column.invariant.1.terms_stay made.answer made.after c.in_ok-load_column.was,
      stays_on g.S.Store.terms g.S.Store.backing c.args.store.now c.loop-column.store c.load_column.new.store c.loop-column.invariant.1 made.stays,
    )

pub returns-in_ok-load_column : goal.returns-in_ok-load_column
returns-in_ok-load_column g c =
    let S = system_in (g.F.Field.arithmetic c.args.self.now.field.now) c.args.self.now.shape (g.G.Grid.holds c.args.start.now) in
    let made = c.load_column.ensures in
    let last : c.loop-column.column ≡ c.args.self.now.shape.triangles + 1 = omega arith in
    let e = columns_loaded (S.rows + S.columns) (starting S) c.loop-column-test.true c.loop-column.invariant.0 c.loop-column.invariant.1.terms_stay made.answer made.after c.in_ok-load_column.was last in
    record { answer = e.answer; after = e.after; stays = stays_on g.S.Store.terms g.S.Store.backing c.args.store.now c.loop-column.store c.load_column.new.store c.loop-column.invariant.1 made.stays }
