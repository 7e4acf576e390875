-- What a grid holds: a shape, and a code at each place of it. Puts in their order, what they leave, and how many entries are not zero.
use Rattle.std.specs.Prelude.{◌≡◌, ℕ, zero, suc, ◌+◌, max, Bool, false, cond, ◌&&◌, List, [], ◌∷◌, ◌==◌, nat_le}
use Rattle.matrix.specs.declared.put.Put.{Put}

-- by row, then column, both counted from 1
abbrev pub Entries : Type 0
Entries = ℕ → ℕ → ℕ

pub record Matrix : Type 0 where
  pub rows : ℕ
  pub columns : ℕ
  pub at : Entries

-- the same shape with other entries
abbrev pub over : Matrix → Entries → Matrix
over m f = record { rows = m.rows; columns = m.columns; at = f }

-- all zero
abbrev pub blank : ℕ → ℕ → Matrix
blank n k = record { rows = n; columns = k; at = λ r c. 0 }

-- whether a place lies in the shape of so many rows and columns
abbrev pub inside : ℕ → ℕ → ℕ → ℕ → Bool
inside rows columns r c = (nat_le 1 r && nat_le r rows) && (nat_le 1 c && nat_le c columns)

abbrev pub within : Matrix → ℕ → ℕ → Bool
within m r c = inside m.rows m.columns r c

-- zero outside the shape
abbrev pub Outside : Matrix → Type 0
Outside m = (r c : ℕ) → within m r c ≡ false → m.at r c ≡ 0

abbrev pub one_if_not_zero : ℕ → ℕ
one_if_not_zero zero = 0
one_if_not_zero (suc n) = 1

-- how many of f 1 .. f n are not zero
unfoldable pub tally : (ℕ → ℕ) → ℕ → ℕ
tally f zero = 0
tally f (suc n) = tally f n + one_if_not_zero (f (suc n))

-- how many of the places with a row at most n and a column at most k are not zero
unfoldable pub tally_2 : Entries → ℕ → ℕ → ℕ
tally_2 f n zero = 0
tally_2 f n (suc k) = tally_2 f n k + tally (λ r. f r (suc k)) n

abbrev pub count : Matrix → ℕ
count m = tally_2 m.at m.rows m.columns

abbrev pub put_at : ℕ → ℕ → ℕ → Put
put_at r c v = record { row = r; column = c; code = v }

-- one entry set: the others stay
abbrev pub put_into : Matrix → Put → Matrix
put_into m p = over m (λ r c. cond (r == p.row && c == p.column) p.code (m.at r c))

-- what puts leave, one after another
abbrev pub played : Matrix → List Put → Matrix
played m [] = m
played m (p ∷ ps) = played (put_into m p) ps

-- the greatest number of nonzero entries, before, between and after the puts
abbrev pub highest : Matrix → List Put → ℕ
highest m [] = count m
highest m (p ∷ ps) = max (count m) (highest (put_into m p) ps)
