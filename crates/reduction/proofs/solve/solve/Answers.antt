-- By each way that the function ends.
use Rattle.std.proofs.Common.{◌≡◌, ◌+◌, ◌-◌, ◌≤◌, max, length, Err, sym, refl, ap, ◌∙◌, subst, inl, inr, arith}
use Rattle.std.proofs.lemmas.Result.{err_from_is_err_and}
use Rattle.refusal.specs.declared.Refusal.TheVariants.{ShapeNotTaken}
use Rattle.matrix.specs.Terms.{told, begin_after}
use Rattle.reduction.specs.Grids.{shaped, height_of, width_of}
use Rattle.reduction.specs.Verdicts.{Works}
use Rattle.reduction.proofs.Solving.{Way, way_itself, way_systems, way_short, way_large, way_rows, way_columns, way_shape, way_worked, begun_empty}
use Rattle.reduction.proofs.solve.solve.Goals as goal

pub returns-then-codes-max : goal.returns-then-codes-max
returns-then-codes-max g c =
    let a = g.F.Field.arithmetic c.args.field.now in
    let laws = g.met.F.Field.laws c.args.field.now in
    let start = g.G.Grid.holds c.args.start.now in
    let t = g.S.Store.terms c.args.store.now in
    let m = g.S.Grid.holds c.args.store.now in
    let old = c.args.codes.now in
    let T = c.saturating_sub-triangles.result in
    let E = c.saturating_sub-edges.result in
    let q : T ≡ width_of start = c.saturating_sub-triangles.ensures ∙ ap (λ x. x - 1) c.columns.ensures in
    let p : E ≡ height_of start = c.saturating_sub-edges.ensures ∙ (λ i. c.rows.ensures i - q i) in
    let way = way_short a laws start t old m E T (omega (arith, c.max.ensures)) in
    record { solves = way_itself a laws start t old m E T p q _ old m way; systems = way_systems a laws start t old m E T p q _ old m way; terms = refl; backing = refl }

pub returns-then-order-code_bound : goal.returns-then-order-code_bound
returns-then-order-code_bound g c =
    let a = g.F.Field.arithmetic c.args.field.now in
    let laws = g.met.F.Field.laws c.args.field.now in
    let start = g.G.Grid.holds c.args.start.now in
    let t = g.S.Store.terms c.args.store.now in
    let m = g.S.Grid.holds c.args.store.now in
    let old = c.args.codes.now in
    let T = c.saturating_sub-triangles.result in
    let E = c.saturating_sub-edges.result in
    let q : T ≡ width_of start = c.saturating_sub-triangles.ensures ∙ ap (λ x. x - 1) c.columns.ensures in
    let p : E ≡ height_of start = c.saturating_sub-edges.ensures ∙ (λ i. c.rows.ensures i - q i) in
    let way = way_large a laws start t old m E T (omega (arith, c.max.ensures)) (omega (arith, c.order.ensures, c.code_bound.ensures)) in
    record { solves = way_itself a laws start t old m E T p q _ old m way; systems = way_systems a laws start t old m E T p q _ old m way; terms = refl; backing = refl }

pub returns-then-edges-gt512 : goal.returns-then-edges-gt512
returns-then-edges-gt512 g c =
    let a = g.F.Field.arithmetic c.args.field.now in
    let laws = g.met.F.Field.laws c.args.field.now in
    let start = g.G.Grid.holds c.args.start.now in
    let t = g.S.Store.terms c.args.store.now in
    let m = g.S.Grid.holds c.args.store.now in
    let old = c.args.codes.now in
    let T = c.saturating_sub-triangles.result in
    let E = c.saturating_sub-edges.result in
    let q : T ≡ width_of start = c.saturating_sub-triangles.ensures ∙ ap (λ x. x - 1) c.columns.ensures in
    let p : E ≡ height_of start = c.saturating_sub-edges.ensures ∙ (λ i. c.rows.ensures i - q i) in
    let fit : max E T ≤ length old = omega (arith, c.max.ensures) in
    let bound : a.order ≤ t.bound = omega (arith, c.order.ensures, c.code_bound.ensures) in
    let way : Way a laws start t old m E T (Err ShapeNotTaken) old m = elim c.then-edges-gt512.either [
      | inl l ↦ way_rows a laws start t old m E T fit bound l
      | inr l ↦ way_columns a laws start t old m E T fit bound l.1
    ] in
    record { solves = way_itself a laws start t old m E T p q _ old m way; systems = way_systems a laws start t old m E T p q _ old m way; terms = refl; backing = refl }

pub returns-in_err-begin : goal.returns-in_err-begin
returns-in_err-begin g c =
    let a = g.F.Field.arithmetic c.args.field.now in
    let laws = g.met.F.Field.laws c.args.field.now in
    let start = g.G.Grid.holds c.args.start.now in
    let t = g.S.Store.terms c.args.store.now in
    let m = g.S.Grid.holds c.args.store.now in
    let old = c.args.codes.now in
    let n = g.S.Grid.holds c.begin.new.self in
    let T = c.saturating_sub-triangles.result in
    let E = c.saturating_sub-edges.result in
    let q : T ≡ width_of start = c.saturating_sub-triangles.ensures ∙ ap (λ x. x - 1) c.columns.ensures in
    let p : E ≡ height_of start = c.saturating_sub-edges.ensures ∙ (λ i. c.rows.ensures i - q i) in
    let x = err_from_is_err_and c.from_residual.result c.from_residual.ensures.1 in
    let way = way_shape a laws start t old m E T (omega (arith, c.max.ensures)) (omega (arith, c.order.ensures, c.code_bound.ensures)) c.from_residual.result x.0 n x.1
    (sym (ap told (c.in_err-begin.was ∙ ap Err (sym x.2))) ∙ c.begin.ensures.answer) c.begin.ensures.after in
    record { solves = way_itself a laws start t old m E T p q _ old n way; systems = way_systems a laws start t old m E T p q _ old n way; terms = c.begin.ensures.terms; backing = c.begin.ensures.backing }

pub work-verdict-requires : goal.work-verdict-requires
work-verdict-requires g c =
    let a = g.F.Field.arithmetic c.args.field.now in
    let laws = g.met.F.Field.laws c.args.field.now in
    let start = g.G.Grid.holds c.args.start.now in
    let t = g.S.Store.terms c.args.store.now in
    let m = g.S.Grid.holds c.args.store.now in
    let old = c.args.codes.now in
    let T = c.saturating_sub-triangles.result in
    let E = c.saturating_sub-edges.result in
    record {
      room = (omega (arith, c.max.ensures), omega (arith, c.max.ensures));
      begun = c.begin.ensures.after
          ∙ begun_empty a laws start t old m E T (omega (arith, c.max.ensures)) (omega (arith, c.order.ensures, c.code_bound.ensures)) c.if-edges-gt512.false c.if-triangles-gt1024.false
          (sym (ap told c.in_ok-begin.was) ∙ c.begin.ensures.answer) m;
    }

pub returns : goal.returns
returns g c =
    let a = g.F.Field.arithmetic c.args.field.now in
    let laws = g.met.F.Field.laws c.args.field.now in
    let start = g.G.Grid.holds c.args.start.now in
    let t = g.S.Store.terms c.args.store.now in
    let m = g.S.Grid.holds c.args.store.now in
    let old = c.args.codes.now in
    let new = c.work-verdict.new.codes in
    let k = g.S.Grid.holds c.work-verdict.new.store in
    let n = g.S.Grid.holds c.begin-2.new.self in
    let r = c.work-verdict.result in
    let T = c.saturating_sub-triangles.result in
    let E = c.saturating_sub-edges.result in
    let q : T ≡ width_of start = c.saturating_sub-triangles.ensures ∙ ap (λ x. x - 1) c.columns.ensures in
    let p : E ≡ height_of start = c.saturating_sub-edges.ensures ∙ (λ i. c.rows.ensures i - q i) in
    let stays = c.work-verdict.ensures.stays in
    let terms = stays.terms_stay ∙ c.begin.ensures.terms in
    let way = way_worked a laws start t old m E T (omega (arith, c.max.ensures)) (omega (arith, c.order.ensures, c.code_bound.ensures)) c.if-edges-gt512.false c.if-triangles-gt1024.false
    (sym (ap told c.in_ok-begin.was) ∙ c.begin.ensures.answer) r new k n
    (subst (λ u. Works a (shaped a start E T) u old new r) c.begin.ensures.terms c.work-verdict.ensures.works) (c.begin-2.ensures.after ∙ ap (λ u. begin_after u k (E + T) (T + 1)) terms) in
    record { solves = way_itself a laws start t old m E T p q r new n way; systems = way_systems a laws start t old m E T p q r new n way; terms = c.begin-2.ensures.terms ∙ terms; backing = c.begin-2.ensures.backing ∙ stays.backing_stays ∙ c.begin.ensures.backing }
