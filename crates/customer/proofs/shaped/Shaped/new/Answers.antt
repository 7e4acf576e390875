-- The shape 0 by 0 takes no memory and has no entry.
use Rattle.std.proofs.Common.{◌≡◌, ◌*◌, ap, arith, ap₂, ◌∙◌}
use Rattle.matrix.proofs.Counts.{count_none}
use Rattle.customer.specs.Shapes.{shaped}
use Rattle.customer.proofs.shaped.Shaped.new.Goals as goal

pub invariant_of-result : goal.invariant_of-result
invariant_of-result g c =
    let none : c.default.result.rows * c.default.result.columns ≡ 0 * c.default.result.columns = ap (λ n. n * c.default.result.columns) c.default.ensures.0 in
    record { allowed = ap₂ g.R.ShapeRule.takes c.default.ensures.0 c.default.ensures.1 ∙ g.met.R.ShapeRule.starts; fits = omega (arith, none); counted = count_none (shaped c.default.result.rows c.default.result.columns c.args.codes.now) c.default.ensures.0 c.default.ensures.1 }
