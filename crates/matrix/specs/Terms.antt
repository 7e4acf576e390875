-- What a store takes, and what begin and put come to: an outcome, and the matrix after it.
use Rattle.std.specs.Prelude.{ℕ, Bool, cond, not, ◌&&◌, List, [], ◌∷◌, Result, ◌==◌, nat_le, nat_lt}
use Rattle.refusal.specs.declared.Refusal.{Refusal}
use Rattle.refusal.specs.declared.Refusal.TheVariants.{ShapeNotTaken, OutsideShape, CodeTooLarge, StoreFull}
use Rattle.refusal.specs.Numbers.{number_of}
use Rattle.refusal.specs.Outcomes.{Outcome, accepted, refused, and_then, outcome}
use Rattle.matrix.specs.declared.put.Put.{Put}
use Rattle.matrix.specs.Matrix.{Matrix, within, blank, count, put_into}

-- the code bound, the shapes taken, and the entry limit of each shape; no call changes them
pub record Terms : Type 0 where
  pub bound : ℕ
  pub takes : ℕ → ℕ → Bool
  pub limit : ℕ → ℕ → ℕ

-- the stores that a store lies upon: the terms of each, with the ghost name of the reference that leads to it, or 0 where
-- it is held by value. No call changes them, so that a layer exchanges no store below it for another
pub data Backing : Type 0 where
  itself : Backing
  upon : ℕ → Terms → Backing → Backing

-- the entry limit of the shape
abbrev pub limit_of : Terms → Matrix → ℕ
limit_of t m = t.limit m.rows m.columns

-- what an answer tells
abbrev pub told : Result (Unit {0}) Refusal → Outcome (Unit {0})
told r = outcome (λ u. u) r

-- the one matrix where a call is accepted, the other where it is refused
abbrev pub left_by : Outcome (Unit {0}) → Matrix → Matrix → Matrix
left_by (accepted _) new old = new
left_by (refused _) new old = old

abbrev pub begin_outcome : Terms → ℕ → ℕ → Outcome (Unit {0})
begin_outcome t rows columns = cond (t.takes rows columns) (accepted tt) (refused (number_of ShapeNotTaken))

abbrev pub begin_after : Terms → Matrix → ℕ → ℕ → Matrix
begin_after t m rows columns = left_by (begin_outcome t rows columns) (blank rows columns) m

-- whether a put wants one nonzero entry more than the limit
abbrev pub overfull : Terms → Matrix → Put → Bool
overfull t m p = m.at p.row p.column == 0 && (not (p.code == 0) && nat_le (limit_of t m) (count m))

abbrev pub put_outcome : Terms → Matrix → Put → Outcome (Unit {0})
put_outcome t m p =
    cond (within m p.row p.column)
    (cond (nat_lt p.code t.bound)
    (cond (overfull t m p) (refused (number_of StoreFull)) (accepted tt))
    (refused (number_of CodeTooLarge)))
    (refused (number_of OutsideShape))

abbrev pub put_after : Terms → Matrix → Put → Matrix
put_after t m p = left_by (put_outcome t m p) (put_into m p) m

-- puts in turn, up to the first that is refused
abbrev pub puts_outcome : Terms → Matrix → List Put → Outcome (Unit {0})
puts_outcome t m [] = accepted tt
puts_outcome t m (p ∷ ps) = and_then (put_outcome t m p) (λ _. puts_outcome t (put_into m p) ps)

abbrev pub puts_after : Terms → Matrix → List Put → Matrix
puts_after t m [] = m
puts_after t m (p ∷ ps) = left_by (put_outcome t m p) (puts_after t (put_into m p) ps) m
