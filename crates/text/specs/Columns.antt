-- Number columns: four bytes, spaces and then the digits of 0 to 9999 without leading zeros.
use Rattle.std.specs.Prelude.{ℕ, ◌+◌, ◌-◌, ◌*◌, ◌/◌, ◌%◌, Bool, cond, ◌&&◌, List, [], ◌∷◌, Some, None, Option, ◌==◌, nat_le}

-- the byte of the last digit of v
abbrev pub digit_of : ℕ → ℕ
digit_of v = 48 + v % 10

-- a place before the last, where v is the number up to that place: a space while there is none
abbrev pub lead_of : ℕ → ℕ
lead_of v = cond (v == 0) 32 (digit_of v)

-- the column of a number
abbrev pub column : ℕ → List ℕ
column v = lead_of (v / 1000) ∷ (lead_of (v / 100) ∷ (lead_of (v / 10) ∷ (digit_of v ∷ [])))

abbrev pub digit : ℕ → Bool
digit b = nat_le 48 b && nat_le b 57

-- the number up to a place before the last, where `before` is the number up to the place before it
abbrev pub lead : ℕ → ℕ → Option ℕ
lead before b =
    cond (b == 32) (cond (before == 0) (Some 0) None)
    (cond (digit b) (cond (before == 0 && b == 48) None (Some (10 * before + (b - 48)))) None)

-- the whole number
abbrev pub last : ℕ → ℕ → Option ℕ
last before b = cond (digit b) (Some (10 * before + (b - 48))) None

-- the library's option_and_then, with the option first, so that steps are written in their order
abbrev pub and_next : {A B : Type 0} → Option A → (A → Option B) → Option B
and_next None f = None
and_next (Some x) f = f x

-- what four bytes say as a number column
abbrev pub number : ℕ → ℕ → ℕ → ℕ → Option ℕ
number a b c d = and_next (lead 0 a) (λ v. and_next (lead v b) (λ w. and_next (lead w c) (λ x. last x d)))
