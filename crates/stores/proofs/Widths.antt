-- What the width of an entry says of bytes, codes and places.
use Rattle.std.proofs.Common.{◌≡◌, ℕ, zero, suc, ◌+◌, ◌-◌, ◌*◌, ◌/◌, ◌%◌, ◌^◌, ◌<◌, ◌≤◌, min, List, get_or, sym, refl, ap, ◌∙◌, ⊎_elim, mul_assoc, mul_comm, add-mul, mul-add, arith}
use native.Mathlib.Nat.{zero-div, zero-mod}
use Rattle.std.proofs.lemmas.Nat.{mul-le, mod_below, div_below, div-add-mod', le-div}
use Rattle.std.proofs.lemmas.Bool.{cases_lt, cases_eq}
use Rattle.stores.specs.declared.width.EntryWidth.{EntryWidth}
use Rattle.stores.specs.declared.width.EntryWidth.TheVariants.{One, Two, Four, Eight}
use Rattle.stores.specs.Packed.{per_byte_of, code_in, code_at, bytes_for}
use Rattle.stores.specs.Widths.{bits_of}

-- a byte holds whole codes of w bits
abbrev pub Whole : ℕ → Type 0
Whole w = w * per_byte_of w ≡ 8

pub whole : (w : EntryWidth) → Whole (bits_of w)
whole One = refl
whole Two = refl
whole Four = refl
whole Eight = refl

-- so many bits as a byte has them for each of its codes
pub bits_back : (w : EntryWidth) → 8 / per_byte_of (bits_of w) ≡ bits_of w
bits_back One = refl
bits_back Two = refl
bits_back Four = refl
bits_back Eight = refl

pos_factor : (w k : ℕ) → w * k ≡ 8 → (0 < w) × (0 < k)
pos_factor zero k e = absurd (omega arith)
pos_factor (suc w) zero e = absurd (omega arith)
pos_factor (suc w) (suc k) e = (omega arith, omega arith)

pub bits_pos : (w : ℕ) → Whole w → 0 < w
bits_pos w h = (pos_factor w (per_byte_of w) h).0

pub per_pos : (w : ℕ) → Whole w → 0 < per_byte_of w
per_pos w h = (pos_factor w (per_byte_of w) h).1

-- the k-th code lies in the byte
pub code_room : (w k : ℕ) → Whole w → k < per_byte_of w → w * k + w ≤ 8
code_room w k h l = omega (arith, mul-le w (k + 1) w (per_byte_of w) (omega arith) (omega arith), mul-add w k 1)

pub bits_le : (w : ℕ) → Whole w → w ≤ 8
bits_le w h = omega (arith, code_room w 0 h (per_pos w h))

-- a place before so many bytes' codes lies in one of the bytes
pub byte_of : (w p n : ℕ) → Whole w → p < n * per_byte_of w → p / per_byte_of w < n
byte_of w p n h l = div_below p (per_byte_of w) n (per_pos w h) l

-- an empty byte has codes 0 only
pub code_in_none : (w k : ℕ) → code_in w 0 k ≡ 0
code_in_none w k = ap (λ x. x % 2 ^ w) (zero-div (2 ^ (w * k))) ∙ zero-mod (2 ^ w)

pub code_at_none : (w : ℕ) (xs : List ℕ) (p : ℕ) → get_or xs (p / per_byte_of w) 0 ≡ 0 → code_at w xs p ≡ 0
code_at_none w xs p e = ap (λ x. code_in w x (p % per_byte_of w)) e ∙ code_in_none w (p % per_byte_of w)

-- so many codes fit into so many bytes exactly if the bytes for them do
pub bytes_hold : (w n s : ℕ) → Whole w → bytes_for w n ≤ s → n ≤ s * per_byte_of w
bytes_hold w n s h l =
    let per = per_byte_of w in
    let m : n % per < per = mod_below n per (per_pos w h) in
    let whole = div-add-mod' n per in
    ⊎_elim
    (λ (z : n % per ≡ 0). omega (arith, whole, mul-le (n / per) per s per (omega arith) (omega arith)))
    (λ (d : n % per ≡ 0 → ⊥).
    let o : min 1 (n % per) ≡ 1 = omega (arith, d) in
    let up : n / per + 1 ≤ s = omega (arith, o) in
    omega (arith, whole, m, mul-le (n / per + 1) per s per up (omega arith), add-mul (n / per) 1 per))
    (cases_eq (n % per) 0)

pub bytes_lack : (w n s : ℕ) → Whole w → s < bytes_for w n → s * per_byte_of w < n
bytes_lack w n s h l =
    let per = per_byte_of w in
    let whole = div-add-mod' n per in
    ⊎_elim
    (λ (z : n % per ≡ 0).
    let up : s + 1 ≤ n / per = omega (arith, z) in
    omega (arith, whole, per_pos w h, mul-le (s + 1) per (n / per) per up (omega arith), add-mul s 1 per))
    (λ (d : n % per ≡ 0 → ⊥).
    let up : s ≤ n / per = omega arith in
    omega (arith, whole, d, mul-le s per (n / per) per up (omega arith)))
    (cases_eq (n % per) 0)

-- the same, in bits
eight_times : (w s : ℕ) → Whole w → s * per_byte_of w * w ≡ 8 * s
eight_times w s h = mul_assoc s (per_byte_of w) w ∙ ap (λ x. s * x) (mul_comm (per_byte_of w) w ∙ h) ∙ mul_comm s 8

pub bits_hold : (w n s : ℕ) → Whole w → n ≤ s * per_byte_of w → n * w ≤ 8 * s
bits_hold w n s h l = omega (arith, mul-le n w (s * per_byte_of w) w l (omega arith), eight_times w s h)

pub bits_lack : (w n s : ℕ) → Whole w → s * per_byte_of w < n → 8 * s < n * w
bits_lack w n s h l =
    omega (arith, mul-le (s * per_byte_of w + 1) w n w (omega arith) (omega arith), eight_times w s h, add-mul (s * per_byte_of w) 1 w, bits_pos w h)

-- a place lies in no later byte than one that follows it
byte_le : (per p q : ℕ) → 0 < per → p ≤ q → p / per ≤ q / per
byte_le per p q h l = let lt : p / per < q / per + 1 = div_below p per (q / per + 1) h (omega (arith, div-add-mod' q per, mod_below q per h, add-mul (q / per) 1 per)) in omega arith

-- A scan from byte to byte, `per` places in each.
module _ (w per : ℕ) (h : Whole w) (is : per ≡ per_byte_of w) where
  pos : 0 < per
  pos = omega (arith, is, per_pos w h)

  -- the bytes from a place on up to `end` are there
  pub bytes_until : (p end s : ℕ) → p < end → end ≤ s * per_byte_of w → (p / per + 1 ≤ (end - 1) / per + 1) × ((end - 1) / per + 1 ≤ s)
  bytes_until p end s l r = (
    omega (arith, byte_le per p (end - 1) pos (omega arith)),
    omega (arith, div_below (end - 1) per s pos (omega (arith, ap (λ x. s * x) is))),
  )

  -- the places of these bytes reach `end`
  pub places_until : (end : ℕ) → 0 < end → end ≤ ((end - 1) / per + 1) * per
  places_until end l = omega (arith, add-mul ((end - 1) / per) 1 per, div-add-mod' (end - 1) per, mod_below (end - 1) per pos)

  -- where the byte of a place and those behind it are empty, all of their places are passed
  pub passed_bytes : (xs : List ℕ) (start p r : ℕ) → get_or xs (p / per) 0 ≡ 0 → p / per + 1 ≤ r → ((i : ℕ) → p / per + 1 ≤ i → i < r → get_or xs i 0 ≡ 0)
      → ((q : ℕ) → start ≤ q → q < p → code_at w xs q ≡ 0) → (p < r * per) × ((q : ℕ) → start ≤ q → q < r * per → code_at w xs q ≡ 0)
  passed_bytes xs start p r empty le empties passed = (
    omega (arith, mul-le (p / per + 1) per r per le (omega arith), add-mul (p / per) 1 per, div-add-mod' p per, mod_below p per pos),
    λ q l b. ⊎_elim
        (λ (before : q < p). passed q l before)
        (λ (after : p ≤ q). code_at_none w xs q (ap (λ x. get_or xs (q / x) 0) (sym is) ∙ ⊎_elim
        (λ (e : q / per ≡ p / per). ap (λ x. get_or xs x 0) e ∙ empty)
        (λ (d : q / per ≡ p / per → ⊥). empties (q / per) (omega (arith, d, byte_le per p q pos after)) (div_below q per r pos b))
        (cases_eq (q / per) (p / per))))
        (cases_lt q p),
  )

  -- the same backwards: where the byte of the place before is empty, so are its places
  pub passed_back : (xs : List ℕ) (a end : ℕ) → get_or xs (a / per) 0 ≡ 0 → ((q : ℕ) → a < q → q < end → code_at w xs q ≡ 0)
      → (q : ℕ) → a / per * per ≤ q → q < end → code_at w xs q ≡ 0
  passed_back xs a end empty passed q l b = ⊎_elim
      (λ (after : a < q). passed q after b)
      (λ (before : q ≤ a).
      let same : q / per ≡ a / per = omega (arith, byte_le per q a pos before, le-div (a / per) q per pos l) in
      code_at_none w xs q (ap (λ x. get_or xs (q / x) 0) (sym is) ∙ ap (λ x. get_or xs x 0) same ∙ empty))
      (cases_lt a q)
