-- Each row whose owner has a nonzero entry in the last column takes one addition, and is quiet then.
use Rattle.std.proofs.Common.{◌≡◌, ◌+◌, ◌≤◌, None, rules, Err, sym, ap, ◌∙◌, arith}
use Rattle.std.proofs.lemmas.Result.{err_from_is_err_and}
use Rattle.reduction.proofs.Stores.{stays_itself, stays_on}
use Rattle.reduction.proofs.Settling.{asked_of, enough_small, in_target_none, in_target_free, in_target_skip, in_target_few, in_target_stops, in_target_more, in_target_all}
use Rattle.reduction.proofs.reducer.Reducer.settle_target.Goals as goal
use Rattle.reduction.proofs.reducer.Reducer.settle_target.Goals.{in-Some+then-entry-ne0+in_ok-clear, in_default, in_default-via-in-None-1, in_default-via-in-Some+else-entry-ne0}

pub loop-row-init : goal.loop-row-init
loop-row-init g c = (in_target_none c.requires.ready c.requires.pivots, stays_itself g.S.Store.terms g.S.Store.backing c.args.store.now)

pub owner_of-requires : goal.owner_of-requires
owner_of-requires g c = omega (arith, c.loop-row.auto.row, c.args.self.now.shape.few_edges)

pub returns-in_err-clear : goal.returns-in_err-clear
returns-in_err-clear g c =
    let inv = c.loop-row.invariant in
    let made = c.clear.ensures in
    let p = err_from_is_err_and c.from_residual.result c.from_residual.ensures.1 in
    let asked = asked_of (record { from = c.in-Some.owner; to = c.args.self.now.shape.triangles + 1; row = c.loop-row.row }) inv.1.terms_stay (g.S.Grid.outside c.loop-row.store) made.answer made.after in
    record {
      clears = rw p.1 (in_target_stops inv.0 (c.loop-row-test.true, c.loop-row.auto.row) c.in-Some.ensures (λ z. c.if-entry-ne0.true (c.entry.ensures ∙ z)) asked (c.in_err-clear.was ∙ ap Err (sym p.2)));
      stays = stays_on g.S.Store.terms g.S.Store.backing c.args.store.now c.loop-row.store c.clear.new.store inv.1 made.stays;
    }

pub overflow_add-additions : goal.overflow_add-additions
overflow_add-additions g c =
    omega (
      arith,
      enough_small _ c.args.self.now.shape.few_triangles,
      in_target_few c.loop-row.invariant.0 (c.loop-row-test.true, c.loop-row.auto.row) c.in-Some.ensures (λ z. c.if-entry-ne0.true (c.entry.ensures ∙ z)),
    )

pub loop-row-preserved : goal.loop-row-preserved
loop-row-preserved g c =
    let inv = c.loop-row.invariant in
    let within : (1 ≤ c.loop-row.row) × (c.loop-row.row ≤ c.args.self.now.shape.edges) = (c.loop-row-test.true, c.loop-row.auto.row) in
    elim c.match-owner_of.branch [
      | in-Some+then-entry-ne0+in_ok-clear w ↦
          let made = w.clear.ensures in
          let asked = asked_of (record { from = w.in-Some.owner; to = c.args.self.now.shape.triangles + 1; row = c.loop-row.row }) inv.1.terms_stay (g.S.Grid.outside c.loop-row.store) made.answer made.after in
          rw (w.store-is, w.additions-is) (
            in_target_more inv.0 within w.in-Some.ensures (λ z. w.if-entry-ne0.true (w.entry.ensures ∙ z)) asked w.in_ok-clear.was,
            stays_on g.S.Store.terms g.S.Store.backing c.args.store.now c.loop-row.store w.clear.new.store inv.1 made.stays,
          )
      | in_default w ↦ rw (w.store-is, w.additions-is) (
        elim w.in_default.branch [
          | in_default-via-in-None-1 v ↦ let none : c.owner_of.result ≡ None = search rules in in_target_free inv.0 within (sym none ∙ c.owner_of.ensures)
          | in_default-via-in-Some+else-entry-ne0 v ↦ in_target_skip inv.0 within v.in-Some.ensures (sym v.entry.ensures ∙ v.if-entry-ne0.false)
        ],
        inv.1,
      )
    ]

pub returns : goal.returns
returns g c = let none : c.loop-row.row ≡ 0 = omega arith in record { clears = in_target_all c.loop-row.invariant.0 none; stays = c.loop-row.invariant.1 }
