-- An empty byte is passed whole.
use Rattle.std.proofs.Common.{◌-◌, arith}
use Rattle.std.proofs.lemmas.Nat.{div-add-mod'}
use Rattle.stores.specs.Widths.{bits_of}
use Rattle.stores.proofs.Widths.{whole, passed_back}
use Rattle.stores.proofs.packed.scan_back.Goals as goal

pub loop-passed-preserved-then-byte-eq0 : goal.loop-passed-preserved-then-byte-eq0
loop-passed-preserved-then-byte-eq0 c =
    let w = c.args.width in
    let a = c.loop-passed.passed - 1 in
    let per = c.per_byte-per.result in
    let split = div-add-mod' a per in (
      omega (arith, c.loop-passed.invariant.0),
      λ q l b. passed_back (bits_of w) per (whole w) c.per_byte-per.ensures c.args.bytes.now a c.args.end c.if-byte-eq0.true (λ x g h. c.loop-passed.invariant.1 x (omega arith) h) q (omega (arith, split, l)) b,
    )
