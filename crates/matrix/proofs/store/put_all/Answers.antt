-- Each turn makes the first of the puts still to come.
use Rattle.std.proofs.Common.{◌≡◌, ℕ, ◌+◌, ◌<◌, List, ◌∷◌, length, get_or, drop, sym, refl, ap, ◌∙◌, add-one, drop-cons}
use Rattle.std.proofs.lemmas.List.{drop_all}
use Rattle.std.proofs.lemmas.Result.{err_from_is_err_and}
use Rattle.matrix.specs.declared.put.Put.{Put}
use Rattle.matrix.specs.Matrix.{put_at}
use Rattle.matrix.specs.Terms.{put_outcome, put_after}
use Rattle.matrix.proofs.Counts.{count_put}
use Rattle.matrix.proofs.Puts.{highest-++, highest_tells, first_past_limit, accepted_played, leads_start, leads_by, leads_put, leads_refused, leads_end}
use Rattle.matrix.proofs.store.put_all.Goals as goal

next_put : (ps : List Put) (i : ℕ) → i < length ps → drop i ps ≡ get_or ps i (put_at 0 0 0) ∷ drop (i + 1) ps
next_put ps i h = drop-cons ps i (put_at 0 0 0) h ∙ ap (λ k. get_or ps i (put_at 0 0 0) ∷ drop k ps) (sym (add-one i))

pub loop-p-init : goal.loop-p-init
loop-p-init g c = (leads_start (g.S.Store.terms c.args.store.now) (g.S.Grid.holds c.args.store.now) c.args.puts.now _ refl, refl, refl)

pub returns-in_err-put : goal.returns-in_err-put
returns-in_err-put g c =
    let m = g.S.Grid.holds c.args.store.now in
    let n = g.S.Grid.holds c.loop-p.store in
    let t = g.S.Store.terms c.args.store.now in
    let ps = c.args.puts.now in
    let i = c.loop-p.p-index in
    let p = get_or ps i (put_at 0 0 0) in
    let put = c.put.ensures in
    let x = err_from_is_err_and c.from_residual.result c.from_residual.ensures.1 in
    let e = leads_refused t m n (g.S.Grid.holds c.put.new.self) ps p (drop (i + 1) ps) c.put.result c.from_residual.result c.in_err-put.field-0.0 x.0
    (leads_by t m n ps _ _ (next_put ps i c.loop-p-test.true) c.loop-p.invariant.0)
    (put.answer ∙ ap (λ u. put_outcome u n p) c.loop-p.invariant.1) (put.after ∙ ap (λ u. put_after u n p) c.loop-p.invariant.1) c.in_err-put.was x.1 x.2 in
    record {
      answer = e.answer;
      after = e.after;
      terms = put.terms ∙ c.loop-p.invariant.1;
      backing = put.backing ∙ c.loop-p.invariant.2;
      counts = count_put;
      splits = highest-++;
      tells = highest_tells;
      past = first_past_limit;
      played = accepted_played;
    }

pub loop-p-preserved : goal.loop-p-preserved
loop-p-preserved g c =
    let m = g.S.Grid.holds c.args.store.now in
    let n = g.S.Grid.holds c.loop-p.store in
    let t = g.S.Store.terms c.args.store.now in
    let ps = c.args.puts.now in
    let i = c.loop-p.p-index in
    let p = get_or ps i (put_at 0 0 0) in
    let put = c.put.ensures in (
      leads_put t m n (g.S.Grid.holds c.put.new.self) ps p (drop (i + 1) ps) c.put.result tt
          (leads_by t m n ps _ _ (next_put ps i c.loop-p-test.true) c.loop-p.invariant.0)
          (put.answer ∙ ap (λ u. put_outcome u n p) c.loop-p.invariant.1) (put.after ∙ ap (λ u. put_after u n p) c.loop-p.invariant.1) c.in_ok-put.was,
      put.terms ∙ c.loop-p.invariant.1,
      put.backing ∙ c.loop-p.invariant.2,
    )

pub returns : goal.returns
returns g c =
    let e = leads_end (g.S.Store.terms c.args.store.now) (g.S.Grid.holds c.args.store.now) (g.S.Grid.holds c.loop-p.store) c.args.puts.now _ c.loop-p.invariant.0 (drop_all c.loop-p.p-index c.args.puts.now c.loop-p-test.false) in
    record {
      answer = e.answer;
      after = e.after;
      terms = c.loop-p.invariant.1;
      backing = c.loop-p.invariant.2;
      counts = count_put;
      splits = highest-++;
      tells = highest_tells;
      past = first_past_limit;
      played = accepted_played;
    }
