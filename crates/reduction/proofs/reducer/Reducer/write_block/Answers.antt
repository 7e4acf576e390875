-- Each turn writes the value of a row behind those of the rows before it, which the next ones leave.
use Rattle.std.proofs.Common.{◌≡◌, ◌+◌, ◌++◌, drop, set, sym, refl, ap, ◌∙◌, arith}
use Rattle.homology.specs.Certificate.{listed, values, vector}
use Rattle.reduction.proofs.Listing.{listed_more, listed_same, vector_front}
use Rattle.reduction.proofs.Values.{values_before}
use Rattle.reduction.proofs.reducer.Reducer.write_block.Goals as goal

pub loop-before-init : goal.loop-before-init
loop-before-init g c = refl

pub block_value-requires : goal.block_value-requires
block_value-requires g c =
    let a = g.F.Field.arithmetic c.args.self.now.field.now in
    let N = (g.G.Grid.holds c.args.reduced.now).at in
    let e = c.loop-before.before in
    let v = values a c.args.self.now.shape.edges c.args.self.now.shape.triangles N e in
    record {
      pivots = c.requires.pivots;
      top = c.requires.top;
      inside = (c.loop-before-test.true, omega (arith, c.requires.room, c.loop-before.auto.codes));
      values = λ i l m. ap (λ xs. vector xs i) c.loop-before.invariant ∙ vector_front e v (drop e c.args.codes.now) i l m;
    }

pub loop-before-preserved : goal.loop-before-preserved
loop-before-preserved g c =
    let a = g.F.Field.arithmetic c.args.self.now.field.now in
    let laws = g.met.F.Field.laws c.args.self.now.field.now in
    let N = (g.G.Grid.holds c.args.reduced.now).at in
    let E = c.args.self.now.shape.edges in
    let T = c.args.self.now.shape.triangles in
    let e = c.loop-before.before in
    let old = c.args.codes.now in
    ap (λ xs. set xs e c.block_value.result) (c.loop-before.invariant ∙ ap (λ xs. xs ++ drop e old) (listed_same e (values a E T N e) (values a E T N (e + 1)) (λ i l m. sym (values_before a laws E T N e i m))))
    ∙ listed_more e (values a E T N (e + 1)) old c.block_value.result (omega (arith, c.requires.room)) c.block_value.ensures

pub returns : goal.returns
returns g c =
    let all : c.loop-before.before ≡ c.args.self.now.shape.edges = omega arith in
    c.loop-before.invariant ∙ ap (λ n. listed n (values (g.F.Field.arithmetic c.args.self.now.field.now) c.args.self.now.shape.edges c.args.self.now.shape.triangles (g.G.Grid.holds c.args.reduced.now).at n) ++ drop n c.args.codes.now) all
