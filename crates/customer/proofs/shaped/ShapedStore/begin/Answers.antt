-- Memory of zeros is a matrix of zeros.
use Rattle.std.proofs.Common.{◌≡◌, ◌*◌, length, take, drop, sym, refl, ap, ◌∙◌, arith, length-append, length-take, length-drop, rules}
use Rattle.matrix.specs.Matrix.{blank}
use Rattle.matrix.specs.Terms.{left_by}
use Rattle.matrix.proofs.Layouts.{cleared}
use Rattle.customer.specs.Shapes.{shaped}
use Rattle.customer.proofs.Shapes.{shaped_accepted, shaped_blank, shaped_count}
use Rattle.customer.proofs.shaped.ShapedStore.begin.Goals as goal

pub invariant_of-self : goal.invariant_of-self
invariant_of-self g c =
    let s = c.args.self.now in
    let n = c.size-2.result in
    let long : length (take n s.codes.now) ≡ n = omega (arith, length-take n s.codes.now, c.if-size-self.false, c.size.ensures, c.size-2.ensures) in
    let empty = cleared c.fill.new.self (drop n s.codes.now) n (c.args.rows * c.args.columns) (c.fill.ensures.len ∙ long) c.size-2.ensures (λ i k l. c.fill.ensures.clones i k (omega (arith, long)) refl) in
    record {
      allowed = search rules;
      fits = omega (arith, c.size.ensures, c.if-size-self.false, length-append c.fill.new.self (drop n s.codes.now), c.fill.ensures.len, long, length-drop n s.codes.now);
      counted = shaped_count c.args.rows c.args.columns _ empty;
    }

pub returns-clause-after : goal.returns-clause-after
returns-clause-after g c =
    let s = c.args.self.now in
    let n = c.size-2.result in
    let long : length (take n s.codes.now) ≡ n = omega (arith, length-take n s.codes.now, c.if-size-self.false, c.size.ensures, c.size-2.ensures) in
    let empty = cleared c.fill.new.self (drop n s.codes.now) n (c.args.rows * c.args.columns) (c.fill.ensures.len ∙ long) c.size-2.ensures (λ i k l. c.fill.ensures.clones i k (omega (arith, long)) refl) in
    shaped_blank c.args.rows c.args.columns _ empty
    ∙ sym (ap (λ x. left_by x (blank c.args.rows c.args.columns) (shaped s.shape.rows s.shape.columns s.codes.now))
    (shaped_accepted g.R.ShapeRule.takes c.args.rows c.args.columns (length s.codes.now) (search rules) (omega (arith, c.size.ensures, c.if-size-self.false))))
