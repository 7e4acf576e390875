-- What a dense store holds and takes.
use Rattle.std.specs.Prelude.{ℕ, ◌*◌, ◌^◌, List, length, nat_le}
use Rattle.matrix.specs.declared.layout.Shape.{Shape}
use Rattle.matrix.specs.Matrix.{Matrix}
use Rattle.matrix.specs.Layout.{laid}
use Rattle.matrix.specs.Terms.{Terms}
use Rattle.stores.specs.declared.width.EntryWidth.{EntryWidth}
use Rattle.stores.specs.Packed.{code_at}
use Rattle.stores.specs.Widths.{bits_of}

-- the matrix of that shape in codes of w bits, column by column
abbrev pub packed : ℕ → ℕ → ℕ → List ℕ → Matrix
packed w rows columns bytes = laid rows columns (code_at w bytes)

-- the terms of a store of entries of w bits in so many bytes
abbrev pub dense_terms : ℕ → ℕ → Terms
dense_terms w size = record { bound = 2 ^ w; takes = λ r c. nat_le (r * c * w) (8 * size); limit = λ r c. r * c }

-- both of a store by its parts
abbrev pub matrix_of : EntryWidth → Shape → List ℕ → Matrix
matrix_of width shape bytes = packed (bits_of width) shape.rows shape.columns bytes

abbrev pub terms_of : EntryWidth → List ℕ → Terms
terms_of width bytes = dense_terms (bits_of width) (length bytes)
