-- Each turn writes the coefficient behind those before it.
use Rattle.std.proofs.Common.{◌≡◌, ◌+◌, ◌++◌, drop, set, refl, ap, ◌∙◌, arith}
use Rattle.complex.specs.Systems.{Vector}
use Rattle.homology.specs.Certificate.{listed}
use Rattle.reduction.proofs.Listing.{listed_more}
use Rattle.reduction.proofs.reducer.Reducer.write_filling.Goals as goal

pub loop-t-init : goal.loop-t-init
loop-t-init g c = refl

pub loop-t-preserved : goal.loop-t-preserved
loop-t-preserved g c =
    let a = g.F.Field.arithmetic c.args.self.now.field.now in
    let N = (g.G.Grid.holds c.args.reduced.now).at in
    let E = c.args.self.now.shape.edges in
    let T = c.args.self.now.shape.triangles in
    let t = c.loop-t.t in
    let v : Vector = λ t. a.negative (N (E + t) (T + 1)) in
    let row : E + t + 1 ≡ E + (t + 1) = omega arith in
    ap (λ xs. set xs t c.negative.result) c.loop-t.invariant
    ∙ listed_more t v c.args.codes.now c.negative.result (omega (arith, c.requires)) (c.negative.ensures ∙ ap a.negative (c.entry-record.ensures ∙ ap (λ r. N r (T + 1)) row))

pub returns : goal.returns
returns g c =
    let all : c.loop-t.t ≡ c.args.self.now.shape.triangles = omega arith in
    c.loop-t.invariant ∙ ap (λ n. listed n (λ t. (g.F.Field.arithmetic c.args.self.now.field.now).negative ((g.G.Grid.holds c.args.reduced.now).at (c.args.self.now.shape.edges + t) (c.args.self.now.shape.triangles + 1))) ++ drop n c.args.codes.now) all
