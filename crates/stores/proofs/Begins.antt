-- What begin comes to in packed codes.
use Rattle.std.proofs.Common.{◌≡◌, ℕ, ◌*◌, ◌/◌, ◌<◌, ◌≤◌, leb, List, get_or, Err, sym, ap, ◌∙◌, arith}
use Rattle.std.proofs.lemmas.Nat.{div_below}
use Rattle.std.proofs.lemmas.Bool.{cond-true, cond-false, le-leb, lt-leb}
use Rattle.refusal.specs.declared.Refusal.TheVariants.{ShapeNotTaken}
use Rattle.refusal.specs.Outcomes.{accepted}
use Rattle.matrix.specs.Matrix.{blank, count}
use Rattle.matrix.specs.Terms.{told, begin_outcome}
use Rattle.matrix.proofs.Counts.{count_blank}
use Rattle.matrix.proofs.Layouts.{laid_blank}
use Rattle.stores.specs.Packed.{code_at, per_byte_of, bytes_for}
use Rattle.stores.specs.Dense.{packed, dense_terms}
use Rattle.stores.proofs.Widths.{Whole, per_pos, code_at_none, bytes_hold, bytes_lack, bits_hold, bits_lack}

-- a shape that is not taken
pub begin_refused : (w s n k : ℕ) → Whole w → s < bytes_for w (n * k) → begin_outcome (dense_terms w s) n k ≡ told (Err ShapeNotTaken)
begin_refused w s n k h l = cond-false (leb (n * k * w) (8 * s)) _ _ (lt-leb _ _ (bits_lack w (n * k) s h (bytes_lack w (n * k) s h l)))

pub begin_accepted : (w s n k : ℕ) → Whole w → bytes_for w (n * k) ≤ s → begin_outcome (dense_terms w s) n k ≡ accepted tt
begin_accepted w s n k h l = cond-true (leb (n * k * w) (8 * s)) _ _ (le-leb _ _ (bits_hold w (n * k) s h (bytes_hold w (n * k) s h l)))

-- empty bytes are a matrix of zeros
pub packed_blank : (w n k : ℕ) (xs : List ℕ) → Whole w → ((i : ℕ) → i < bytes_for w (n * k) → get_or xs i 0 ≡ 0) → packed w n k xs ≡ blank n k
packed_blank w n k xs h z =
    laid_blank n k (code_at w xs) (λ q l. code_at_none w xs q (z (q / per_byte_of w) (div_below q (per_byte_of w) (bytes_for w (n * k)) (per_pos w h)
    (omega (arith, bytes_hold w (n * k) (bytes_for w (n * k)) h (omega arith))))))

pub packed_count : (w n k : ℕ) (xs : List ℕ) → Whole w → ((i : ℕ) → i < bytes_for w (n * k) → get_or xs i 0 ≡ 0) → 0 ≡ count (packed w n k xs)
packed_count w n k xs h z = sym (ap count (packed_blank w n k xs h z) ∙ count_blank n k)
