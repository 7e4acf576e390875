-- Linear systems over a field, and the matrix that their reduction starts from; rows and columns are counted from 1.
use Rattle.std.specs.Prelude.{ℕ, ◌+◌, ◌-◌, cond, ◌&&◌, ◌==◌, nat_le, nat_lt}
use Rattle.matrix.specs.Matrix.{Matrix, Entries}

abbrev pub Vector : Type 0
Vector = ℕ → ℕ

-- columns of so many rows, and the vector to be reached
pub record System : Type 0 where
  pub rows : ℕ
  pub columns : ℕ
  pub matrix : Entries
  pub target : Vector

-- rows 1 to E hold the columns of the system and its target, rows E + 1 to E + T which columns were added up
abbrev pub starting : System → Entries
starting S r c =
    cond (nat_le 1 r && nat_le r S.rows && nat_le 1 c && nat_le c S.columns) (S.matrix r c)
    (cond (nat_le 1 r && nat_le r S.rows && c == S.columns + 1) (S.target r)
    (cond (nat_lt S.rows r && nat_le r (S.rows + S.columns) && r - S.rows == c) 1 0))

-- the same with its shape
abbrev pub starting_matrix : System → Matrix
starting_matrix S = record { rows = S.rows + S.columns; columns = S.columns + 1; at = starting S }
