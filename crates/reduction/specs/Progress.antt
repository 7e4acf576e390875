-- How far a reduction has come in a store: what is left of it from a matrix on, after so many additions.
use Rattle.std.specs.Prelude.{◌≡◌, ℕ, ◌+◌, ◌-◌, ◌≤◌, List, None, Ok, Err, Result, slice_index_or}
use Rattle.refusal.specs.declared.Refusal.{Refusal}
use Rattle.refusal.specs.Numbers.{number_of}
use Rattle.refusal.specs.Outcomes.{Outcome, refused}
use Rattle.field.specs.Arithmetic.{Arithmetic, Code}
use Rattle.matrix.specs.Matrix.{Matrix, Entries}
use Rattle.matrix.specs.Terms.{Terms, puts_outcome}
use Rattle.homology.specs.Reduction.{Course, low, due, course, enough}
use Rattle.reduction.specs.declared.columns.Settled.{Settled}
use Rattle.reduction.specs.Pivots.{Table, unless_zero}

module _ (F : Arithmetic) (E T : ℕ) where
  -- what is left of the reduction of a matrix that took k additions so far
  abbrev pub left : ℕ → Entries → Course
  left k M = course F E T (enough T - k) M

  -- what a store answers to the puts that are left
  abbrev pub left_outcome : Terms → Matrix → ℕ → Outcome (Unit {0})
  left_outcome t m k = puts_outcome t m (left k m.at).puts

  -- a matrix after k additions, from which the reduction ends
  pub record Ready (m : Matrix) (k : ℕ) : Type 0 where
    pub rows : m.rows ≡ E + T
    pub columns : m.columns ≡ T + 1
    pub codes : (r c : ℕ) → Code F (m.at r c)
    pub few : k ≤ enough T
    pub ends : due E T (left k m.at).matrix ≡ None

  -- from m after k additions to n after j: what is left from n on is what was left from m on
  pub record Onward (t : Terms) (m : Matrix) (k : ℕ) (n : Matrix) (j : ℕ) : Type 0 where
    pub ready : Ready n j
    pub puts : left_outcome t m k ≡ left_outcome t n j
    pub matrix : (left k m.at).matrix ≡ (left j n.at).matrix
    pub additions : k + (left k m.at).additions ≡ j + (left j n.at).additions

  -- one of the puts that were left was refused
  abbrev pub Stops : Terms → Matrix → ℕ → Refusal → Type 0
  Stops t m k e = left_outcome t m k ≡ refused (number_of e)

  -- column c is reduced by those before it, and comes to a low that none of them has
  pub record ColumnSettled (t : Terms) (m : Matrix) (k c : ℕ) (table : List ℕ) (n : Matrix) (s : Settled) : Type 0 where
    pub onward : Onward t m k n s.additions
    pub pivots : Table E n.at (c - 1) table
    pub is_low : s.low ≡ unless_zero (low E n.at c)
    pub free : slice_index_or table (low E n.at c) 0 ≡ 0

  abbrev pub Settles : Terms → Matrix → ℕ → ℕ → List ℕ → Matrix → Result Settled Refusal → Type 0
  Settles t m k c table n (Ok s) = ColumnSettled t m k c table n s
  Settles t m k c table n (Err e) = Stops t m k e

  -- the columns 1 to T are reduced
  pub record AllSettled (t : Terms) (m : Matrix) (table : List ℕ) (n : Matrix) (k : ℕ) : Type 0 where
    pub onward : Onward t m 0 n k
    pub pivots : Table E n.at T table

  abbrev pub SettlesAll : Terms → Matrix → List ℕ → Matrix → Result ℕ Refusal → Type 0
  SettlesAll t m table n (Ok k) = AllSettled t m table n k
  SettlesAll t m table n (Err e) = Stops t m 0 e

  -- no addition is due any more
  pub record Cleared (t : Terms) (m : Matrix) (k : ℕ) (table : List ℕ) (n : Matrix) (j : ℕ) : Type 0 where
    pub onward : Onward t m k n j
    pub pivots : Table E n.at T table
    pub none : due E T n.at ≡ None

  abbrev pub Clears : Terms → Matrix → ℕ → List ℕ → Matrix → Result ℕ Refusal → Type 0
  Clears t m k table n (Ok j) = Cleared t m k table n j
  Clears t m k table n (Err e) = Stops t m k e
