-- The first byte of the part that is not 0 is that of the bytes.
use Rattle.std.proofs.Common.{◌≡◌, ◌≢◌, sym, subst, arith, rules, tests}
use Rattle.std.proofs.lemmas.Iterator.{YieldsList-from_slice, IsFirst-from_position}
use Rattle.std.specs.List.{slice_index}
use Rattle.stores.specs.Packed.{Scanned}
use Rattle.stores.proofs.Parts.{part_none, part_some}
use Rattle.stores.proofs.packed.first_nonzero.Goals as goal

pub returns-in_err-found : goal.returns-in_err-found
returns-in_err-found c =
    let d = IsFirst-from_position _ _ c.position.result (λ x. x ≢ 0) (λ x. x ≡ 0) c.position.ensures.ran (YieldsList-from_slice _ c.iter.ensures.rest) (λ x q k. grind (arith, tests)) (λ x q k. (search rules, grind (arith, tests))) in
    subst (Scanned (λ i. slice_index c.args.bytes.now i) c.args.start c.args.end) (sym c.from_residual.ensures)
    (part_none c.args.bytes.now c.args.start c.args.end c.requires.0 c.requires.1 c.position.result d c.in_err-found.was)

pub returns : goal.returns
returns c =
    let d = IsFirst-from_position _ _ c.position.result (λ x. x ≢ 0) (λ x. x ≡ 0) c.position.ensures.ran (YieldsList-from_slice _ c.iter.ensures.rest) (λ x q k. grind (arith, tests)) (λ x q k. (search rules, grind (arith, tests))) in
    part_some c.args.bytes.now c.args.start c.args.end c.requires.0 c.requires.1 c.position.result c.in_ok-found.found d c.in_ok-found.was
