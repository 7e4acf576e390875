-- What is shown of puts, counts, multiples of columns and nonzero entries.
use Rattle.std.specs.Prelude.{◌≡◌, ℕ, ◌+◌, ◌<◌, ◌≤◌, max, true, cond, List, ◌∷◌, ◌++◌, nat_le}
use Rattle.std.specs.List.{AllByRecursion}
use Rattle.refusal.specs.declared.Refusal.TheVariants.{StoreFull}
use Rattle.refusal.specs.Numbers.{number_of}
use Rattle.refusal.specs.Outcomes.{accepted, refused}
use Rattle.field.specs.Arithmetic.{Arithmetic}
use Rattle.matrix.specs.declared.put.Put.{Put}
use Rattle.matrix.specs.Matrix.{Matrix, Outside, over, within, count, one_if_not_zero, put_into, played, highest}
use Rattle.matrix.specs.Nonzero.{First, Last, next_in, last_in}
use Rattle.matrix.specs.Terms.{Terms, limit_of, puts_outcome, puts_after}
use Rattle.matrix.specs.Multiples.{adding, added_by}

-- a put counts the code that it brings, and no more the one that was there
abbrev pub PutCounts : Type 0
PutCounts = (m : Matrix) (p : Put) → within m p.row p.column ≡ true
    → count (put_into m p) + one_if_not_zero (m.at p.row p.column) ≡ count m + one_if_not_zero p.code

abbrev pub HighestSplits : Type 0
HighestSplits = (m : Matrix) (ps qs : List Put) → highest m (ps ++ qs) ≡ max (highest m ps) (highest (played m ps) qs)

-- a put that only the limit can refuse
pub record Fits (t : Terms) (m : Matrix) (p : Put) : Type 0 where
  pub place : within m p.row p.column ≡ true
  pub code : p.code < t.bound

-- puts are refused exactly if `highest` exceeds the limit
abbrev pub HighestTells : Type 0
HighestTells = (t : Terms) (m : Matrix) (ps : List Put) → AllByRecursion (Fits t m) ps → count m ≤ limit_of t m
    → puts_outcome t m ps ≡ cond (nat_le (highest m ps) (limit_of t m)) (accepted tt) (refused (number_of StoreFull))

-- and that at the first put past the limit, with those before it done
abbrev pub FirstPastLimit : Type 0
FirstPastLimit = (t : Terms) (m : Matrix) (ps : List Put) (p : Put) (qs : List Put) → AllByRecursion (Fits t m) ps → Fits t m p
    → highest m ps ≤ limit_of t m → limit_of t m < count (put_into (played m ps) p)
    → (puts_outcome t m (ps ++ (p ∷ qs)) ≡ refused (number_of StoreFull)) × (puts_after t m (ps ++ (p ∷ qs)) ≡ played m ps)

-- puts that are all accepted are all done
abbrev pub AcceptedPlayed : Type 0
AcceptedPlayed = (t : Terms) (m : Matrix) (ps : List Put) → puts_outcome t m ps ≡ accepted tt → puts_after t m ps ≡ played m ps

-- the puts of an addition leave the sum
abbrev pub AddingAdds : Type 0
AddingAdds = (F : Arithmetic) (k from to : ℕ) (m : Matrix) → Outside m
    → played m (adding F k from to m.at m.rows) ≡ over m (added_by F k from to m.at)

-- the next nonzero row is the first from there on, and the last is the last up to there
abbrev pub NonzeroFound : Type 0
NonzeroFound = (m : Matrix) (column row : ℕ) → Outside m
    → First (λ r. m.at r column) row (next_in m column row) × Last (λ r. m.at r column) row (last_in m column row)
