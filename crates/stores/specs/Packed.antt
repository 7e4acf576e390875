-- Codes of w bits each in a row of bytes, the first in the lowest bits; w is 1, 2, 4 or 8.
use Rattle.std.specs.Prelude.{◌≡◌, ℕ, ◌+◌, ◌*◌, ◌/◌, ◌%◌, ◌^◌, ◌<◌, ◌≤◌, min, cond, ◌||◌, List, ◌==◌, ◌≢◌, Option, Some, None, slice_index}
use Rattle.refusal.specs.declared.Refusal.TheVariants.{EntryWidth}
use Rattle.refusal.specs.Numbers.{number_of}
use Rattle.refusal.specs.Outcomes.{Outcome, accepted, refused}

-- the width that is asked for
abbrev pub entry_width : ℕ → Outcome ℕ
entry_width w = cond (((w == 1 || w == 2) || w == 4) || w == 8) (accepted w) (refused (number_of EntryWidth))

-- how many codes a byte has
abbrev pub per_byte_of : ℕ → ℕ
per_byte_of w = 8 / w

-- the k-th code of a byte, counted from 0
abbrev pub code_in : ℕ → ℕ → ℕ → ℕ
code_in w byte k = byte / 2 ^ (w * k) % 2 ^ w

-- the code at a place of the row, counted from 0
abbrev pub code_at : ℕ → List ℕ → ℕ → ℕ
code_at w bytes p = code_in w (slice_index bytes (p / per_byte_of w)) (p % per_byte_of w)

-- how many bytes hold n codes
abbrev pub bytes_for : ℕ → ℕ → ℕ
bytes_for w n = n / per_byte_of w + min 1 (n % per_byte_of w)

-- the byte with the code v of w bits from the bit e on
abbrev pub replaced : ℕ → ℕ → ℕ → ℕ → ℕ
replaced byte e w v = byte / 2 ^ (e + w) * 2 ^ (e + w) + v * 2 ^ e + byte % 2 ^ e

-- what it is to be the first place from `start` on, before `end`, at which f is not zero, or that there is none
abbrev pub Scanned : (ℕ → ℕ) → ℕ → ℕ → Option ℕ → Type 0
Scanned f start end None = (q : ℕ) → start ≤ q → q < end → f q ≡ 0
Scanned f start end (Some r) = (start ≤ r) × (r < end) × (f r ≢ 0) × ((q : ℕ) → start ≤ q → q < r → f q ≡ 0)

-- the same of the last place
abbrev pub ScannedBack : (ℕ → ℕ) → ℕ → ℕ → Option ℕ → Type 0
ScannedBack f start end None = (q : ℕ) → start ≤ q → q < end → f q ≡ 0
ScannedBack f start end (Some r) = (start ≤ r) × (r < end) × (f r ≢ 0) × ((q : ℕ) → r < q → q < end → f q ≡ 0)
