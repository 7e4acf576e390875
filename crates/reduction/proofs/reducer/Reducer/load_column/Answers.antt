-- The codes of the column are put first, and then its own row.
use Rattle.std.proofs.lemmas.Result.{err_from_is_err_and}
use Rattle.reduction.proofs.Stores.{stays_over}
use Rattle.reduction.proofs.Turns.{codes_refused, own_none, own_refused, own_loaded}
use Rattle.reduction.proofs.reducer.Reducer.load_column.Goals as goal

pub returns-in_err-load_codes : goal.returns-in_err-load_codes
returns-in_err-load_codes g c =
    let made = c.load_codes.ensures in
    let x = err_from_is_err_and c.from_residual.result c.from_residual.ensures.1 in
    let e = codes_refused (g.F.Field.arithmetic c.args.self.now.field.now) (g.G.Grid.holds c.args.start.now) c.args.self.now.shape.edges c.args.self.now.shape.triangles
    {t = g.S.Store.terms c.args.store.now} c.requires made.answer made.after c.in_err-load_codes.was x.1 x.2 in
    record { answer = e.answer; after = e.after; stays = made.stays }

pub returns-in_err-put : goal.returns-in_err-put
returns-in_err-put g c =
    let made = c.load_codes.ensures in
    let put = c.put.ensures in
    let x = err_from_is_err_and c.from_residual-in_err-put.result c.from_residual-in_err-put.ensures.1 in
    let e = own_refused (g.F.Field.arithmetic c.args.self.now.field.now) (g.G.Grid.holds c.args.start.now) c.args.self.now.shape.edges c.args.self.now.shape.triangles
    {t = g.S.Store.terms c.args.store.now} c.requires made.answer made.after c.in_ok-load_codes.was c.if-column-self.true made.stays.terms_stay put.answer put.after c.in_err-put.was x.1 x.2 in
    record { answer = e.answer; after = e.after; stays = stays_over g.S.Store.terms g.S.Store.backing c.args.store.now c.load_codes.new.store c.put.new.self made.stays put.terms put.backing }

pub returns-in_ok-put : goal.returns-in_ok-put
returns-in_ok-put g c =
    let made = c.load_codes.ensures in
    let put = c.put.ensures in
    let e = own_loaded (g.F.Field.arithmetic c.args.self.now.field.now) (g.G.Grid.holds c.args.start.now) c.args.self.now.shape.edges c.args.self.now.shape.triangles
    {t = g.S.Store.terms c.args.store.now} c.requires made.answer made.after c.in_ok-load_codes.was c.if-column-self.true made.stays.terms_stay put.answer put.after c.in_ok-put.was in
    record { answer = e.answer; after = e.after; stays = stays_over g.S.Store.terms g.S.Store.backing c.args.store.now c.load_codes.new.store c.put.new.self made.stays put.terms put.backing }

pub returns-else-column-self : goal.returns-else-column-self
returns-else-column-self g c =
    let made = c.load_codes.ensures in
    let e = own_none (g.F.Field.arithmetic c.args.self.now.field.now) (g.G.Grid.holds c.args.start.now) c.args.self.now.shape.edges c.args.self.now.shape.triangles
    {t = g.S.Store.terms c.args.store.now} c.requires made.answer made.after c.in_ok-load_codes.was c.if-column-self.false in
    record { answer = e.answer; after = e.after; stays = made.stays }
