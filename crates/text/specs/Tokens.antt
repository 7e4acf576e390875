-- The token that a text has at a place.
use Rattle.std.specs.Prelude.{◌≡◌, ℕ, ◌+◌, ◌≤◌, List, [], ◌∷◌, length, take, drop, Some, None, Option}
use Rattle.text.specs.declared.symbol.Symbol.{Symbol}
use Rattle.text.specs.declared.symbol.Symbol.TheVariants.{Survey, Sensor, Fence, End, Space, LineEnd as line_end_symbol, Digit, Other}
use Rattle.text.specs.declared.token.Token.{Token}
use Rattle.text.specs.declared.token.Token.TheVariants.{Number, Mark, LineEnd}
use Rattle.text.specs.Columns.{and_next}
use Rattle.text.specs.Reading.{number_first}
use Rattle.text.specs.Symbols.{symbol_of}

-- what a token is, without its slice and place
pub data Part : Type 0 where
  number : ℕ → Part
  mark : ℕ → Part
  line_end : Part

-- what begins with the byte a, by what its character is
abbrev pub part_by : Symbol → ℕ → List ℕ → Option Part
part_by Survey a rest = Some (mark a)
part_by Sensor a rest = Some (mark a)
part_by Fence a rest = Some (mark a)
part_by End a rest = Some (mark a)
part_by line_end_symbol a rest = Some line_end
part_by Space a rest = and_next (number_first (a ∷ rest)) (λ v. Some (number v))
part_by (Digit d) a rest = and_next (number_first (a ∷ rest)) (λ v. Some (number v))
part_by Other a rest = None

-- what stands first in the bytes
abbrev pub part_first : List ℕ → Option Part
part_first [] = None
part_first (a ∷ rest) = part_by (symbol_of a) a rest

abbrev pub part_of : Token → Part
part_of (Number text at value) = number value
part_of (Mark text at letter) = mark letter
part_of (LineEnd text at) = line_end

abbrev pub slice_of : Token → List ℕ
slice_of (Number text at value) = text.now
slice_of (Mark text at letter) = text.now
slice_of (LineEnd text at) = text.now

abbrev pub place_of : Token → ℕ
place_of (Number text at value) = at
place_of (Mark text at letter) = at
place_of (LineEnd text at) = at

abbrev pub size_of : Token → ℕ
size_of (Number text at value) = 4
size_of (Mark text at letter) = 1
size_of (LineEnd text at) = 1

-- the token is the part of s at the place
pub record Stands (s : List ℕ) (at : ℕ) (t : Token) : Type 0 where
  pub place : place_of t ≡ at
  pub within : at + size_of t ≤ length s
  pub slice : slice_of t ≡ take (size_of t) (drop at s)
