-- A byte's bits, shared among its codes.
use Rattle.std.proofs.Common.{◌/◌, ap, ◌∙◌, arith}
use Rattle.stores.proofs.Widths.{bits_back}
use Rattle.stores.proofs.width.EntryWidth.bits.Goals as goal

pub overflow_shr-result : goal.overflow_shr-result
overflow_shr-result c = omega (arith, c.doublings.ensures.small)

pub returns : goal.returns
returns c = ap (λ n. 8 / n) c.doublings.ensures.power ∙ bits_back c.args.self
