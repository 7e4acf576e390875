-- Each turn makes the addition that is due to the column, which clears its low.
use Rattle.std.proofs.Common.{◌≡◌, ◌-◌, None, rules, Err, sym, ap, ◌∙◌, arith}
use Rattle.std.proofs.lemmas.Result.{err_from_is_err_and}
use Rattle.reduction.proofs.Stores.{stays_itself, stays_on}
use Rattle.reduction.proofs.Settling.{asked_of, enough_small, in_column_none, in_column_inside, in_column_row, in_column_few, in_column_stops, in_column_more, in_column_dead, in_column_free}
use Rattle.reduction.proofs.Walks.{or_zero, or_zero_most}
use Rattle.reduction.proofs.reducer.Reducer.settle_column.Goals as goal

pub loop-low-init : goal.loop-low-init
loop-low-init g c = (in_column_none c.requires.ready c.requires.pivots c.last_nonzero-low.ensures, stays_itself g.S.Store.terms g.S.Store.backing c.args.store.now)

pub owner_of-requires : goal.owner_of-requires
owner_of-requires g c = omega (arith, in_column_inside c.loop-low.invariant.0 c.in-Some.is c.requires.inside, c.args.self.now.shape.few_edges)

pub returns-in_err-clear : goal.returns-in_err-clear
returns-in_err-clear g c =
    let h = c.loop-low.invariant.0 in
    let stays = c.loop-low.invariant.1 in
    let made = c.clear.ensures in
    let p = err_from_is_err_and c.from_residual.result c.from_residual.ensures.1 in
    let asked = asked_of (record { from = c.in-Some-owner_of.owner; to = c.args.column; row = c.in-Some.row }) stays.terms_stay (g.S.Grid.outside c.loop-low.store) made.answer made.after in
    record {
      settles = rw p.1 (in_column_stops h c.in-Some.is c.requires.inside c.in-Some-owner_of.ensures asked (c.in_err-clear.was ∙ ap Err (sym p.2)));
      stays = stays_on g.S.Store.terms g.S.Store.backing c.args.store.now c.loop-low.store c.clear.new.store stays made.stays;
    }

pub loop-low-smaller : goal.loop-low-smaller
loop-low-smaller g c =
    let last = c.last_nonzero-low-in-loop-low in
    omega (arith, ap or_zero last.ensures, or_zero_most (λ r. (g.S.Grid.holds c.clear.new.store).at r c.args.column) (c.in-Some.row - 1), in_column_row c.loop-low.invariant.0 c.in-Some.is, ap or_zero c.in-Some.is)

pub loop-low-preserved : goal.loop-low-preserved
loop-low-preserved g c =
    let h = c.loop-low.invariant.0 in
    let stays = c.loop-low.invariant.1 in
    let made = c.clear.ensures in
    let asked = asked_of (record { from = c.in-Some-owner_of.owner; to = c.args.column; row = c.in-Some.row }) stays.terms_stay (g.S.Grid.outside c.loop-low.store) made.answer made.after in (
      in_column_more h c.in-Some.is c.requires.inside c.in-Some-owner_of.ensures asked c.in_ok-clear.was c.last_nonzero-low-in-loop-low.ensures,
      stays_on g.S.Store.terms g.S.Store.backing c.args.store.now c.loop-low.store c.clear.new.store stays made.stays,
    )

pub overflow_add-additions : goal.overflow_add-additions
overflow_add-additions g c = omega (arith, enough_small _ c.args.self.now.shape.few_triangles, in_column_few c.loop-low.invariant.0 c.in-Some.is c.requires.inside c.in-Some-owner_of.ensures)

pub overflow_sub-row : goal.overflow_sub-row
overflow_sub-row g c = in_column_row c.loop-low.invariant.0 c.in-Some.is

pub returns-in-loop-low : goal.returns-in-loop-low
returns-in-loop-low g c =
    let none : c.loop-low.low ≡ None = search rules in
    record { settles = in_column_dead c.loop-low.invariant.0 none; stays = c.loop-low.invariant.1 }

pub returns-in-Some : goal.returns-in-Some
returns-in-Some g c =
    let none : c.owner_of.result ≡ None = search rules in
    record { settles = rw (sym c.in-Some.is) (in_column_free c.loop-low.invariant.0 c.in-Some.is (sym none ∙ c.owner_of.ensures)); stays = c.loop-low.invariant.1 }
