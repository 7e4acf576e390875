-- The code that was written is one put, and the count that is kept follows it.
use Rattle.std.proofs.Common.{length, get_or, sym, refl, ◌∙◌, arith, length-set}
use Rattle.matrix.proofs.Layouts.{place_some, place_below, laid_accepts, changed_leaves, changed_counts, counts_fit}
use Rattle.customer.specs.Shapes.{shaped_terms}
use Rattle.customer.proofs.Writes.{set_changed}
use Rattle.customer.proofs.shaped.ShapedStore.put.Goals as goal

pub bounds-self-at : goal.bounds-self-at
bounds-self-at g c = place_below c.args.self.now.shape.rows c.args.self.now.shape.columns c.args.row c.args.column (sym c.in_ok-at.ensures.ok_part ∙ c.place.ensures.place) c.args.self.now.fits

pub bounds-self-at-2 : goal.bounds-self-at-2
bounds-self-at-2 g c = place_below c.args.self.now.shape.rows c.args.self.now.shape.columns c.args.row c.args.column (sym c.in_ok-at.ensures.ok_part ∙ c.place.ensures.place) c.args.self.now.fits

pub overflow_add-self : goal.overflow_add-self
overflow_add-self g c =
    let s = c.args.self.now in
    record { fits = counts_fit s.shape.rows s.shape.columns (λ q. get_or s.codes.now q 0) c.args.code s.used c.not_zero.result c.place.ensures.range.0 c.place.ensures.range.1 s.counted c.not_zero.ensures }

pub overflow_sub-self : goal.overflow_sub-self
overflow_sub-self g c =
    let s = c.args.self.now in
    let put = set_changed s.codes.now s.shape.rows s.shape.columns c.args.row c.args.column c.args.code (sym c.in_ok-at.ensures.ok_part ∙ c.place.ensures.place) s.fits in
    (changed_counts put s.counted c.not_zero.ensures c.not_zero-2.ensures).0

pub invariant_of-self : goal.invariant_of-self
invariant_of-self g c =
    let s = c.args.self.now in
    let put = set_changed s.codes.now s.shape.rows s.shape.columns c.args.row c.args.column c.args.code (sym c.in_ok-at.ensures.ok_part ∙ c.place.ensures.place) s.fits in
    record { allowed = s.allowed; fits = omega (arith, s.fits, length-set s.codes.now c.in_ok-at.at c.args.code); counted = (changed_counts put s.counted c.not_zero.ensures c.not_zero-2.ensures).1 }

pub returns-clause-answer : goal.returns-clause-answer
returns-clause-answer g c =
    let s = c.args.self.now in
    sym (laid_accepts (shaped_terms g.R.ShapeRule.takes (length s.codes.now)) s.shape.rows s.shape.columns (λ q. get_or s.codes.now q 0) c.args.row c.args.column c.args.code refl (place_some _ _ c.args.row c.args.column _ (sym c.in_ok-at.ensures.ok_part ∙ c.place.ensures.place)).0 c.ranges.code.fits)

pub returns-clause-after : goal.returns-clause-after
returns-clause-after g c =
    let s = c.args.self.now in
    changed_leaves (shaped_terms g.R.ShapeRule.takes (length s.codes.now)) refl c.ranges.code.fits (set_changed s.codes.now s.shape.rows s.shape.columns c.args.row c.args.column c.args.code (sym c.in_ok-at.ensures.ok_part ∙ c.place.ensures.place) s.fits)
