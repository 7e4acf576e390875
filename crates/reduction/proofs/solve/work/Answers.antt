-- Loaded, reduced and read off; a refusal on the way is that of all puts together.
use Rattle.std.proofs.Common.{replicate, ℕ, Err, sym, refl, ap, ◌∙◌, subst, arith}
use lib.ListN.{length-replicate}
use Rattle.std.proofs.lemmas.Result.{err_from_is_err_and}
use Rattle.reduction.specs.Progress.{Stops, Cleared, AllSettled}
use Rattle.reduction.proofs.Steps.{onward_join, onward_stops}
use Rattle.reduction.proofs.Stores.{stays_on, subst_three}
use Rattle.reduction.proofs.Tables.{zeros, table_none}
use Rattle.reduction.proofs.Whole.{loaded_by, load_refused, loaded_ready, reduce_refused, read_worked}
use Rattle.reduction.proofs.solve.work.Goals as goal

pub returns-in_err-load : goal.returns-in_err-load
returns-in_err-load g c =
    let laws = g.met.F.Field.laws c.args.field.now in
    let made = c.load.ensures in
    let loaded = loaded_by laws (g.G.Grid.holds c.args.start.now) c.args.shape.edges c.args.shape.triangles (g.S.Store.terms c.args.store.now) c.requires.begun made.answer made.after in
    let p = err_from_is_err_and c.from_residual.result c.from_residual.ensures.1 in
    record { works = rw p.1 (load_refused laws loaded (c.in_err-load.was ∙ ap Err (sym p.2)), refl); stays = made.stays }

pub settle_columns-requires : goal.settle_columns-requires
settle_columns-requires g c =
    let laws = g.met.F.Field.laws c.args.field.now in
    let made = c.load.ensures in
    let n = g.S.Grid.holds c.load.new.store in
    let loaded = loaded_by laws (g.G.Grid.holds c.args.start.now) c.args.shape.edges c.args.shape.triangles (g.S.Store.terms c.args.store.now) c.requires.begun made.answer made.after in
    record {
      ready = loaded_ready laws loaded c.in_ok-load.was;
      pivots = rw c.new.ensures (table_none c.args.shape.edges n.at (replicate 513 0) (omega (arith, length-replicate {A = ℕ} 513 0, c.args.shape.few_edges)) (zeros 513));
    }

pub returns-in_err-first : goal.returns-in_err-first
returns-in_err-first g c =
    let a = g.F.Field.arithmetic c.args.field.now in
    let laws = g.met.F.Field.laws c.args.field.now in
    let E = c.args.shape.edges in
    let T = c.args.shape.triangles in
    let made = c.load.ensures in
    let loaded = loaded_by laws (g.G.Grid.holds c.args.start.now) E T (g.S.Store.terms c.args.store.now) c.requires.begun made.answer made.after in
    let p = err_from_is_err_and c.from_residual-in_err-first.result c.from_residual-in_err-first.ensures.1 in
    let e = c.in_err-first.field-0.0 in
    let stops = subst (λ u. Stops a E T u (g.S.Grid.holds c.load.new.store) 0 e) made.stays.terms_stay c.in_err-first.ensures.settles in
    record {
      works = rw (p.1 ∙ ap Err p.2) (reduce_refused laws loaded c.in_ok-load.was e stops, refl);
      stays = stays_on g.S.Store.terms g.S.Store.backing c.args.store.now c.load.new.store c.settle_columns.new.store made.stays c.settle_columns.ensures.stays;
    }

pub settle_target-requires : goal.settle_target-requires
settle_target-requires g c =
    let settled = c.in_ok-first.ensures.settles in
    rw (c.settle_columns.ensures.field, c.settle_columns.ensures.shape) (record { ready = settled.onward.ready; pivots = settled.pivots })

pub returns-in_err-additions : goal.returns-in_err-additions
returns-in_err-additions g c =
    let a = g.F.Field.arithmetic c.args.field.now in
    let laws = g.met.F.Field.laws c.args.field.now in
    let E = c.args.shape.edges in
    let T = c.args.shape.triangles in
    let t = g.S.Store.terms c.args.store.now in
    let n = g.S.Grid.holds c.load.new.store in
    let mid = g.S.Grid.holds c.settle_columns.new.store in
    let new = g.S.Grid.holds c.settle_target.new.store in
    let table = c.settle_columns.new.self.pivots.owners in
    let k = c.in_ok-first.first in
    let made = c.load.ensures in
    let loaded = loaded_by laws (g.G.Grid.holds c.args.start.now) E T (g.S.Store.terms c.args.store.now) c.requires.begun made.answer made.after in
    let columns = c.settle_columns.ensures in
    let stays = stays_on g.S.Store.terms g.S.Store.backing c.args.store.now c.load.new.store c.settle_columns.new.store made.stays columns.stays in
    let p = err_from_is_err_and c.from_residual-in_err-additions.result c.from_residual-in_err-additions.ensures.1 in
    let settled = subst (λ u. AllSettled a E T u n table mid k) made.stays.terms_stay c.in_ok-first.ensures.settles in
    let e = c.in_err-additions.field-0.0 in
    let stops = subst_three (λ f s u. Stops (g.F.Field.arithmetic f.now) s.edges s.triangles u mid k e) columns.field columns.shape stays.terms_stay c.in_err-additions.ensures.clears in
    record {
      works = rw (p.1 ∙ ap Err p.2) (reduce_refused laws loaded c.in_ok-load.was e (onward_stops a laws E T t n mid 0 k e settled.onward stops), refl);
      stays = stays_on g.S.Store.terms g.S.Store.backing c.args.store.now c.settle_columns.new.store c.settle_target.new.store stays c.settle_target.ensures.stays;
    }

pub read_off-kind-requires : goal.read_off-kind-requires
read_off-kind-requires g c = record {
  pivots = c.in_ok-additions.ensures.clears.pivots;
  room = rw c.settle_columns.ensures.shape c.requires.room;
}

pub returns : goal.returns
returns g c =
    let a = g.F.Field.arithmetic c.args.field.now in
    let laws = g.met.F.Field.laws c.args.field.now in
    let E = c.args.shape.edges in
    let T = c.args.shape.triangles in
    let t = g.S.Store.terms c.args.store.now in
    let n = g.S.Grid.holds c.load.new.store in
    let mid = g.S.Grid.holds c.settle_columns.new.store in
    let new = g.S.Grid.holds c.settle_target.new.store in
    let table = c.settle_columns.new.self.pivots.owners in
    let k = c.in_ok-first.first in
    let j = c.in_ok-additions.additions in
    let made = c.load.ensures in
    let loaded = loaded_by laws (g.G.Grid.holds c.args.start.now) E T (g.S.Store.terms c.args.store.now) c.requires.begun made.answer made.after in
    let columns = c.settle_columns.ensures in
    let read = c.read_off-kind.ensures in
    let stays = stays_on g.S.Store.terms g.S.Store.backing c.args.store.now c.load.new.store c.settle_columns.new.store made.stays columns.stays in
    let settled = subst (λ u. AllSettled a E T u n table mid k) made.stays.terms_stay c.in_ok-first.ensures.settles in
    let cleared = subst_three (λ f s u. Cleared (g.F.Field.arithmetic f.now) s.edges s.triangles u mid k table new j) columns.field columns.shape stays.terms_stay c.in_ok-additions.ensures.clears in
    record {
      works = read_worked laws loaded c.in_ok-load.was (onward_join a laws E T t n mid new 0 k j settled.onward cleared.onward) cleared.none
          (rw (sym columns.shape) read.kind) (rw (sym columns.field, sym columns.shape) read.codes);
      stays = stays_on g.S.Store.terms g.S.Store.backing c.args.store.now c.settle_columns.new.store c.settle_target.new.store stays c.settle_target.ensures.stays;
    }
