-- What a store holds and takes that has a rule for its shapes.
use Rattle.std.specs.Prelude.{ℕ, ◌*◌, Bool, ◌&&◌, List, ◌==◌, nat_le, slice_index}
use Rattle.matrix.specs.Matrix.{Matrix}
use Rattle.matrix.specs.Layout.{laid}
use Rattle.matrix.specs.Terms.{Terms}

-- the matrix of that shape in a row of codes, column by column
abbrev pub shaped : ℕ → ℕ → List ℕ → Matrix
shaped rows columns codes = laid rows columns (λ q. slice_index codes q)

-- any code of 16 bits, the rule's shapes that so many codes hold, and no limit but the shape's own
abbrev pub shaped_terms : (ℕ → ℕ → Bool) → ℕ → Terms
shaped_terms takes size = record { bound = 65536; takes = λ r c. takes r c && nat_le (r * c) size; limit = λ r c. r * c }

-- square shapes
abbrev pub is_square : ℕ → ℕ → Bool
is_square r c = r == c

abbrev pub square_terms : ℕ → Terms
square_terms size = shaped_terms is_square size

-- shapes with no fewer rows than columns
abbrev pub is_tall : ℕ → ℕ → Bool
is_tall r c = nat_le c r

abbrev pub tall_terms : ℕ → Terms
tall_terms size = shaped_terms is_tall size
