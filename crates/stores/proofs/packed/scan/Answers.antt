-- Empty bytes are passed whole.
use Rattle.std.proofs.Common.{◌+◌, ◌-◌, ◌/◌, sym, subst, arith}
use Rattle.stores.specs.Widths.{bits_of}
use Rattle.stores.specs.Packed.{code_at, Scanned}
use Rattle.stores.proofs.Widths.{whole, bytes_until, places_until, passed_bytes}
use Rattle.stores.proofs.packed.scan.Goals as goal

pub returns-in_err-place : goal.returns-in_err-place
returns-in_err-place c =
    let w = c.args.width in
    let per = c.per_byte-per.result in
    let end = c.args.end in
    let until = bytes_until (bits_of w) per (whole w) c.per_byte-per.ensures c.loop-place.place end _ c.loop-place-test.true c.requires in
    let p = passed_bytes (bits_of w) per (whole w) c.per_byte-per.ensures c.args.bytes.now c.args.start c.loop-place.place ((end - 1) / per + 1) c.if-byte-eq0.true until.0 c.in_err-place.ensures c.loop-place.invariant.1 in
    subst (Scanned (code_at (bits_of w) c.args.bytes.now) c.args.start end) (sym c.from_residual.ensures)
    (λ q a b. p.1 q a (omega (arith, places_until (bits_of w) per (whole w) c.per_byte-per.ensures end (omega (arith, c.loop-place-test.true)))))

pub loop-place-preserved-then-byte-eq0 : goal.loop-place-preserved-then-byte-eq0
loop-place-preserved-then-byte-eq0 c =
    let w = c.args.width in
    let e = c.in_ok-place.ensures in
    let p = passed_bytes (bits_of w) c.per_byte-per.result (whole w) c.per_byte-per.ensures c.args.bytes.now c.args.start c.loop-place.place c.in_ok-place.field-0 c.if-byte-eq0.true e.0 e.3 c.loop-place.invariant.1 in
    (omega (arith, p.0, c.loop-place.invariant.0), p.1)
