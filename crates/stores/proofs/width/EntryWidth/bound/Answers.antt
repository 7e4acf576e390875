-- A width is at most 8 bits, so the shift loses nothing.
use Rattle.std.proofs.Common.{arith}
use Rattle.std.proofs.lemmas.Nat.{one_shl}
use Rattle.stores.specs.Widths.{bits_of}
use Rattle.stores.proofs.Widths.{whole, bits_le}
use Rattle.stores.proofs.width.EntryWidth.bound.Goals as goal

pub overflow_shl-result : goal.overflow_shl-result
overflow_shl-result c = omega (arith, bits_le (bits_of c.args.self) (whole c.args.self))

pub returns : goal.returns
returns c = simp c.bits.ensures (one_shl (bits_of c.args.self) 32 (omega (arith, bits_le (bits_of c.args.self) (whole c.args.self))))
