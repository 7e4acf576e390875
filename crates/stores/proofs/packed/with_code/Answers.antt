-- The byte with another code is as the definition has it, and still fits a byte.
use Rattle.std.proofs.Common.{◌≡◌, ◌+◌, ◌-◌, ◌*◌, ◌/◌, ◌%◌, ◌^◌, ◌<◌, ◌≤◌, arith}
use Rattle.std.proofs.lemmas.Nat.{one_shl}
use Rattle.stores.proofs.Codes.{replaced_lt, replaced_by}
use Rattle.stores.proofs.packed.with_code.Goals as goal

pub overflow_cast-result-3 : goal.overflow_cast-result-3
overflow_cast-result-3 c =
    let x = c.args.byte in
    let e = c.args.bits * c.args.k in
    let b = c.args.bits in
    let v = c.args.code in
    let room : e + b ≤ 8 = c.requires.0 in
    let base = one_shl e 32 (omega arith) in
    let fits : x - x / 2 ^ e % 2 ^ b * 2 ^ e + v * 2 ^ e < 2 ^ 8 = omega (arith, replaced_by x e b v, replaced_lt x e b v c.ranges.byte.fits room c.requires.1) in
    simp (base, c.code_of.ensures) (record { fits = fits })

pub returns : goal.returns
returns c =
    let e = c.args.bits * c.args.k in
    let room : e + c.args.bits ≤ 8 = c.requires.0 in
    let base = one_shl e 32 (omega arith) in
    simp (base, c.code_of.ensures) (replaced_by c.args.byte e c.args.bits c.args.code)
