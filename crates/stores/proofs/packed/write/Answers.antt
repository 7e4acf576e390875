-- Writing one of a byte's codes changes no other.
use Rattle.stores.specs.Widths.{bits_of}
use Rattle.stores.proofs.Codes.{written_at}
use Rattle.stores.proofs.Widths.{whole, byte_of}
use Rattle.stores.proofs.packed.write.Goals as goal

pub returns : goal.returns
returns c =
    let w = c.args.width in
    λ q. simp (c.with_code.ensures, c.per_byte-per.ensures, c.bits.ensures) (written_at (bits_of w) c.args.bytes.now c.args.place c.args.code q c.requires.1 (byte_of (bits_of w) c.args.place _ (whole w) c.requires.0))
