-- Linear algebra over a field's codes, rows and columns counted from 1: what a solution and a separator of a system are.
use Rattle.std.specs.Prelude.{◌≡◌, ℕ, zero, suc, ◌<◌, ◌≤◌, ◌≢◌}
use Rattle.field.specs.Arithmetic.{Arithmetic, Code}
use Rattle.matrix.specs.Matrix.{Entries}
use Rattle.complex.specs.Systems.{Vector, System}

-- the sum of the entries 1 to n
abbrev pub total : Arithmetic → ℕ → Vector → ℕ
total F zero v = 0
total F (suc n) v = F.sum (total F n v) (v (suc n))

-- the columns 1 to n of D, weighted by x, in row r
abbrev pub combination : Arithmetic → ℕ → Entries → Vector → Vector
combination F n D x r = total F n (λ t. F.product (x t) (D r t))

-- every entry is a code
abbrev pub Codes : Arithmetic → Vector → Type 0
Codes F v = (i : ℕ) → Code F (v i)

-- two vectors agree in the rows 1 to n
abbrev pub Agree : ℕ → Vector → Vector → Type 0
Agree n v w = (r : ℕ) → 1 ≤ r → r ≤ n → v r ≡ w r

-- e is the greatest of the rows 1 to n in which v is not 0
pub record Greatest (n : ℕ) (v : Vector) (e : ℕ) : Type 0 where
  pub from : 1 ≤ e
  pub to : e ≤ n
  pub nonzero : v e ≢ 0
  pub above : (r : ℕ) → e < r → r ≤ n → v r ≡ 0

module _ (F : Arithmetic) (S : System) where
  -- every entry that the system has is a code
  pub record CodedSystem : Type 0 where
    pub entries : (r t : ℕ) → 1 ≤ r → r ≤ S.rows → 1 ≤ t → t ≤ S.columns → Code F (S.matrix r t)
    pub aims : (r : ℕ) → 1 ≤ r → r ≤ S.rows → Code F (S.target r)

  -- the columns, weighted by x, give the target
  pub record Solution (x : Vector) : Type 0 where
    pub codes : Codes F x
    pub reaches : Agree S.rows (combination F S.columns S.matrix x) S.target

  -- y is 0 on every column and 1 on the target
  pub record Separator (y : Vector) : Type 0 where
    pub codes : Codes F y
    pub closed : (t : ℕ) → 1 ≤ t → t ≤ S.columns → total F S.rows (λ r. F.product (y r) (S.matrix r t)) ≡ 0
    pub one : total F S.rows (λ r. F.product (y r) (S.target r)) ≡ 1

  -- column t is a combination of those before it
  abbrev pub Dependent : ℕ → Type 0
  Dependent zero = ⊥
  Dependent (suc t) = (x : Vector) × Codes F x × Agree S.rows (combination F t S.matrix x) (λ r. S.matrix r (suc t))

  abbrev pub Independent : ℕ → Type 0
  Independent t = Dependent t → ⊥

  -- e is the greatest row of some combination of the columns
  abbrev pub Capped : ℕ → Type 0
  Capped e = (x : Vector) × Codes F x × Greatest S.rows (combination F S.columns S.matrix x) e

  -- v differs from the target by a combination of the columns, and is 0 on capped rows
  pub record Remainder (v : Vector) : Type 0 where
    pub codes : Codes F v
    pub weights : Vector
    pub weight_codes : Codes F weights
    pub differs : (r : ℕ) → 1 ≤ r → r ≤ S.rows → S.target r ≡ F.sum (v r) (combination F S.columns S.matrix weights r)
    pub clear : (e : ℕ) → 1 ≤ e → e ≤ S.rows → Capped e → v e ≡ 0

  -- the one solution that is 0 on every column that is not independent
  pub record GivenSolution (x : Vector) : Type 0 where
    pub solves : Solution x
    pub spare : (t : ℕ) → 1 ≤ t → t ≤ S.columns → (Independent t → ⊥) → x t ≡ 0

  -- the one separator that is 0 on every uncapped row but the greatest one of the remainder
  pub record GivenSeparator (y : Vector) : Type 0 where
    pub separates : Separator y
    pub rest : Vector
    pub remainder : Remainder rest
    pub top : ℕ
    pub greatest : Greatest S.rows rest top
    pub spare : (e : ℕ) → 1 ≤ e → e ≤ S.rows → (Capped e → ⊥) → e ≢ top → y e ≡ 0
