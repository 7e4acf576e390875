-- The power is small, so the shift loses nothing.
use Rattle.std.proofs.Common.{◌∙◌, arith}
use Rattle.std.proofs.lemmas.Nat.{one_shl}
use Rattle.stores.proofs.width.EntryWidth.per_byte.Goals as goal

pub overflow_shl-result : goal.overflow_shl-result
overflow_shl-result c = omega (arith, c.doublings.ensures.small)

pub returns : goal.returns
returns c = one_shl c.doublings.result 32 (omega (arith, c.doublings.ensures.small)) ∙ c.doublings.ensures.power
