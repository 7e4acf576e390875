-- The shape 0 by 0 takes no byte and has no entry.
use Rattle.std.proofs.Common.{◌≡◌, ◌*◌, ap, arith}
use Rattle.matrix.proofs.Counts.{count_none}
use Rattle.stores.specs.Dense.{matrix_of}
use Rattle.stores.proofs.dense.Dense.new.Goals as goal

pub invariant_of-result : goal.invariant_of-result
invariant_of-result c =
    let none : c.default.result.rows * c.default.result.columns ≡ 0 * c.default.result.columns = ap (λ n. n * c.default.result.columns) c.default.ensures.0 in
    record { fits = omega (arith, none); counted = count_none (matrix_of c.args.width c.default.result c.args.bytes.now) c.default.ensures.0 c.default.ensures.1 }
