-- Column reduction of the starting matrix of a system, addition by addition and put by put.
use Rattle.std.specs.Prelude.{◌≡◌, ℕ, zero, suc, ◌+◌, ◌*◌, ◌/◌, cond, List, [], ◌∷◌, ◌++◌, Some, None, Option, ◌==◌}
use Rattle.field.specs.Arithmetic.{Arithmetic}
use Rattle.matrix.specs.declared.put.Put.{Put}
use Rattle.matrix.specs.Matrix.{Entries, blank, put_at, highest}
use Rattle.matrix.specs.Multiples.{added_by, adding}
use Rattle.complex.specs.Systems.{System, starting}

-- the greatest row up to e with a nonzero entry in column j; 0 where there is none
abbrev pub low : ℕ → Entries → ℕ → ℕ
low zero M j = 0
low (suc e) M j = cond (M (suc e) j == 0) (low e M j) (suc e)

-- the first of the columns 1 to j whose low is e; 0 where there is none
abbrev pub owner : ℕ → Entries → ℕ → ℕ → ℕ
owner E M zero e = 0
owner E M (suc j) e = cond (owner E M j e == 0) (cond (low E M (suc j) == e) (suc j) 0) (owner E M j e)

-- a multiple of column `from` is added to column `to`, so that the entry at `row` goes
pub record Addition : Type 0 where
  pub from : ℕ
  pub to : ℕ
  pub row : ℕ

-- the addition of column i to column j at row e, if i and e are not 0
abbrev pub addition_at : ℕ → ℕ → ℕ → Option Addition
addition_at e i j = cond (e == 0) None (cond (i == 0) None (Some (record { from = i; to = j; row = e })))

abbrev pub first : Option Addition → Option Addition → Option Addition
first (Some a) o = Some a
first None o = o

-- at the first of the columns 1 to j whose low is the low of an earlier one
abbrev pub clash : ℕ → Entries → ℕ → Option Addition
clash E M zero = None
clash E M (suc j) = first (clash E M j) (addition_at (low E M (suc j)) (owner E M j (low E M (suc j))) (suc j))

-- at the greatest of the rows 1 to r that is a low of the columns 1 to T and not 0 in column T + 1
abbrev pub leftover : ℕ → ℕ → Entries → ℕ → Option Addition
leftover E T M zero = None
leftover E T M (suc r) =
    cond (M (suc r) (T + 1) == 0) (leftover E T M r) (first (addition_at (suc r) (owner E M T (suc r)) (T + 1)) (leftover E T M r))

-- the addition that is due; None where the matrix is reduced
abbrev pub due : ℕ → ℕ → Entries → Option Addition
due E T M = first (clash E M T) (leftover E T M E)

module _ (F : Arithmetic) where
  -- minus the entry of `to` over that of `from`
  abbrev pub factor : Entries → Addition → ℕ
  factor M a = F.product (F.negative (M a.row a.to)) (F.inverse (M a.row a.from))

  abbrev pub added : Entries → Addition → Entries
  added M a = added_by F (factor M a) a.from a.to M

  -- its puts in the rows 1 to R
  abbrev pub addition_puts : ℕ → Entries → Addition → List Put
  addition_puts R M a = adding F (factor M a) a.from a.to M R

-- where a matrix came to: what it is then, after how many additions, by which puts in their order
pub record Course : Type 0 where
  pub matrix : Entries
  pub additions : ℕ
  pub puts : List Put

-- k additions with the puts ps come before
abbrev pub before : ℕ → List Put → Course → Course
before k ps c = record { matrix = c.matrix; additions = k + c.additions; puts = ps ++ c.puts }

abbrev pub still : Entries → Course
still M = record { matrix = M; additions = 0; puts = [] }

module _ (F : Arithmetic) (E T : ℕ) where
  -- at most `fuel` additions, each the one that is due
  abbrev pub course : ℕ → Entries → Course
  course zero M = still M
  course (suc fuel) M = elim (due E T M) [ None ↦ still M | Some a ↦ before 1 (addition_puts F (E + T) M a) (course fuel (added F M a)) ]

  -- M comes to N by k additions, each the one that is due, and no other is due in N
  pub data Reduces : Entries → ℕ → Entries → Type 0 where
    reduced : (M : Entries) → due E T M ≡ None → Reduces M 0 M
    adds : (M : Entries) (a : Addition) (k : ℕ) (N : Entries) → due E T M ≡ Some a → Reduces (added F M a) k N → Reduces M (suc k) N

  -- M comes to N by k additions, each the one that was due; more may be
  pub data Adds (M : Entries) : ℕ → Entries → Type 0 where
    start : Adds M 0 M
    then_adds : (k : ℕ) (N : Entries) (a : Addition) → Adds M k N → due E T N ≡ Some a → Adds M (suc k) (added F N a)

-- so many additions are enough
abbrev pub enough : ℕ → ℕ
enough T = T * (T + 1) / 2

-- the reduction of a system
abbrev pub reduction : Arithmetic → System → Course
reduction F S = course F S.rows S.columns (enough S.columns) (starting S)

-- the puts that load column c of M, rows rising
abbrev pub column_puts : ℕ → Entries → ℕ → List Put
column_puts zero M c = []
column_puts (suc r) M c = column_puts r M c ++ cond (M (suc r) c == 0) [] (put_at (suc r) c (M (suc r) c) ∷ [])

-- the puts that load the columns 1 to c of M
abbrev pub loading : ℕ → Entries → ℕ → List Put
loading R M zero = []
loading R M (suc c) = loading R M c ++ column_puts R M (suc c)

-- the puts of loading and reducing a system
abbrev pub all_puts : Arithmetic → System → List Put
all_puts F S = loading (S.rows + S.columns) (starting S) (S.columns + 1) ++ (reduction F S).puts

-- the room that a store needs for them
abbrev pub peak : Arithmetic → System → ℕ
peak F S = highest (blank (S.rows + S.columns) (S.columns + 1)) (all_puts F S)
