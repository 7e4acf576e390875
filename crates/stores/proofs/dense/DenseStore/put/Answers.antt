-- The entry that was written is one put, and the count that is kept follows it.
use Rattle.std.proofs.Common.{◌*◌, sym, refl, ap, ◌∙◌, arith}
use Rattle.matrix.specs.Matrix.{one_if_not_zero}
use Rattle.matrix.proofs.Layouts.{place_some, place_below, changed_from, laid_accepts, changed_leaves, changed_counts, counts_fit}
use Rattle.stores.specs.Widths.{bits_of}
use Rattle.stores.specs.Packed.{code_at, per_byte_of}
use Rattle.stores.specs.Dense.{terms_of}
use Rattle.stores.proofs.dense.DenseStore.put.Goals as goal

pub read-old-requires : goal.read-old-requires
read-old-requires c = place_below c.args.self.now.shape.rows c.args.self.now.shape.columns c.args.row c.args.column (sym c.in_ok-at.ensures.ok_part ∙ c.place.ensures.place) c.args.self.now.fits

pub write-requires : goal.write-requires
write-requires c = (place_below c.args.self.now.shape.rows c.args.self.now.shape.columns c.args.row c.args.column (sym c.in_ok-at.ensures.ok_part ∙ c.place.ensures.place) c.args.self.now.fits, omega (arith, c.if-code-bound.false, c.bound.ensures))

pub overflow_add-self : goal.overflow_add-self
overflow_add-self c =
    let d = c.args.self.now in
    record { fits = counts_fit d.shape.rows d.shape.columns (code_at (bits_of d.width) d.bytes.now) c.args.code d.used c.not_zero.result c.place.ensures.range.0 c.place.ensures.range.1 d.counted c.not_zero.ensures }

pub overflow_sub-self : goal.overflow_sub-self
overflow_sub-self c =
    let put = changed_from (sym c.in_ok-at.ensures.ok_part ∙ c.place.ensures.place) (λ q _. c.write.ensures q) in
    (changed_counts put c.args.self.now.counted c.not_zero.ensures (c.not_zero-2.ensures ∙ ap one_if_not_zero c.read-old.ensures)).0

pub invariant_of-self : goal.invariant_of-self
invariant_of-self c =
    let d = c.args.self.now in
    let put = changed_from (sym c.in_ok-at.ensures.ok_part ∙ c.place.ensures.place) (λ q _. c.write.ensures q) in
    record {
      fits = omega (arith, d.fits, ap (λ n. n * per_byte_of (bits_of d.width)) c.write.auto.bytes);
      counted = (changed_counts put d.counted c.not_zero.ensures (c.not_zero-2.ensures ∙ ap one_if_not_zero c.read-old.ensures)).1;
    }

pub returns-clause-answer : goal.returns-clause-answer
returns-clause-answer c =
    let d = c.args.self.now in
    sym (laid_accepts (terms_of d.width d.bytes.now) d.shape.rows d.shape.columns (code_at (bits_of d.width) d.bytes.now) c.args.row c.args.column c.args.code refl (place_some _ _ c.args.row c.args.column _ (sym c.in_ok-at.ensures.ok_part ∙ c.place.ensures.place)).0 (omega (arith, c.if-code-bound.false, c.bound.ensures)))

pub returns-clause-after : goal.returns-clause-after
returns-clause-after c =
    let put = changed_from (sym c.in_ok-at.ensures.ok_part ∙ c.place.ensures.place) (λ q _. c.write.ensures q) in
    changed_leaves (terms_of c.args.self.now.width c.args.self.now.bytes.now) refl (omega (arith, c.if-code-bound.false, c.bound.ensures)) put
