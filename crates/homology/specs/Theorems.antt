-- What is shown of systems, their reduction and certificates, over every field.
use Rattle.std.specs.Prelude.{◌≡◌, ℕ, suc, ◌+◌, ◌<◌, ◌≤◌, Bool, true, false, cond, not, ◌&&◌, ◌≢◌, List, [], ◌∷◌, Some, None, ◌==◌, nat_le}
use Rattle.refusal.specs.declared.Refusal.TheVariants.{StoreFull}
use Rattle.refusal.specs.Numbers.{number_of}
use Rattle.refusal.specs.Outcomes.{accepted, refused}
use Rattle.field.specs.Arithmetic.{Arithmetic, FieldLaws, Alike}
use Rattle.matrix.specs.declared.put.Put.{Put}
use Rattle.matrix.specs.Matrix.{Matrix, Entries, over, blank, count, put_into, played}
use Rattle.matrix.specs.Terms.{Terms, puts_outcome}
use Rattle.survey.specs.Surveys.{Survey, Sensors}
use Rattle.complex.specs.Systems.{Vector, System, starting}
use Rattle.complex.specs.Boundaries.{system}
use Rattle.homology.specs.Linear.{Agree, CodedSystem, Solution, Separator, GivenSolution, GivenSeparator}
use Rattle.homology.specs.Reduction.{low, due, Reduces, Adds, enough, reduction, all_puts, peak}
use Rattle.homology.specs.Certificate.{HasFilling, Certificate, certificate, Published, vector, filling_codes, block_codes}
use Rattle.homology.specs.Sets.{Inside, Same, KeepsFence}

-- a separator refutes a solution
abbrev pub BlockExcludesFilling : Type 0
BlockExcludesFilling = (F : Arithmetic) → FieldLaws F → (S : System) (x y : Vector) → Solution F S x → Separator F S y → ⊥

-- there is one given solution, and one given separator
abbrev pub OneSolution : Type 0
OneSolution = (F : Arithmetic) → FieldLaws F → (S : System) → CodedSystem F S → (x y : Vector)
    → GivenSolution F S x → GivenSolution F S y → Agree S.columns x y

abbrev pub OneSeparator : Type 0
OneSeparator = (F : Arithmetic) → FieldLaws F → (S : System) → CodedSystem F S → (x y : Vector)
    → GivenSeparator F S x → GivenSeparator F S y → Agree S.rows x y

-- Which addition is due, for a loop that works from the first column to the last.

-- the lows of the columns 1 to j differ
abbrev pub Apart : ℕ → Entries → ℕ → Type 0
Apart E M j = (i k : ℕ) → 1 ≤ i → i < k → k ≤ j → 1 ≤ low E M k → low E M i ≢ low E M k

module _ (E T : ℕ) (M : Entries) where
  -- where row r is a low, column T + 1 is 0
  abbrev pub Quiet : ℕ → Type 0
  Quiet r = (i : ℕ) → 1 ≤ i → i ≤ T → low E M i ≡ r → M r (T + 1) ≡ 0

  pub record DueIs : Type 0 where
    pub in_column : (i j : ℕ) → Apart E M j → j < T → 1 ≤ i → i ≤ j → 1 ≤ low E M i → low E M i ≡ low E M (suc j)
        → due E T M ≡ Some (record { from = i; to = suc j; row = low E M i })
    pub in_last : (i r : ℕ) → Apart E M T → 1 ≤ i → i ≤ T → 1 ≤ r → r ≤ E → low E M i ≡ r → M r (T + 1) ≢ 0 → ((q : ℕ) → r < q → q ≤ E → Quiet q)
        → due E T M ≡ Some (record { from = i; to = T + 1; row = r })
    pub none : Apart E M T → ((q : ℕ) → 1 ≤ q → q ≤ E → Quiet q) → due E T M ≡ None

abbrev pub WhatIsDue : Type 0
WhatIsDue = (E T : ℕ) (M : Entries) → DueIs E T M

-- the reduction ends with no addition due, after few enough of them
pub record Ended (F : Arithmetic) (S : System) : Type 0 where
  pub none_due : due S.rows S.columns (reduction F S).matrix ≡ None
  pub few : (reduction F S).additions ≤ enough S.columns
  pub way : Reduces F S.rows S.columns (starting S) (reduction F S).additions (reduction F S).matrix

abbrev pub ReductionEnds : Type 0
ReductionEnds = (F : Arithmetic) → FieldLaws F → (S : System) → CodedSystem F S → Ended F S

-- whatever makes additions that are due, and stops where none is, has done the reduction
abbrev pub AddsReach : Type 0
AddsReach = (F : Arithmetic) → FieldLaws F → (S : System) → CodedSystem F S → (k : ℕ) (N : Entries)
    → Adds F S.rows S.columns (starting S) k N → due S.rows S.columns N ≡ None
    → (N ≡ (reduction F S).matrix) × (k ≡ (reduction F S).additions)

-- what is read off the reduced matrix is the given solution, or the given separator
pub record Answered (F : Arithmetic) (S : System) : Type 0 where
  pub filling : low S.rows (reduction F S).matrix (S.columns + 1) ≡ 0 → GivenSolution F S (vector (filling_codes F S.rows S.columns (reduction F S).matrix))
  pub block : low S.rows (reduction F S).matrix (S.columns + 1) ≢ 0 → GivenSeparator F S (vector (block_codes F S.rows S.columns (reduction F S).matrix))

abbrev pub ReductionAnswers : Type 0
ReductionAnswers = (F : Arithmetic) → FieldLaws F → (S : System) → CodedSystem F S → Answered F S

abbrev pub CertificatePublished : Type 0
CertificatePublished = (s : Survey) (on : Sensors) (F : Arithmetic) → FieldLaws F → Published s on F (certificate s on F)

-- the certificate says whether there is a filling
abbrev pub CertificateDecides : Type 0
CertificateDecides = (s : Survey) (on : Sensors) (F : Arithmetic) → FieldLaws F
    → ((certificate s on F).filled ≡ true → HasFilling s on F) × ((certificate s on F).filled ≡ false → HasFilling s on F → ⊥)

-- there is one published certificate: which kind, and each code
abbrev pub OnePublished : Type 0
OnePublished = (s : Survey) (on : Sensors) (F : Arithmetic) → FieldLaws F → (c e : Certificate) → Published s on F c → Published s on F e
    → (c.filled ≡ e.filled) × Agree (cond c.filled (system s on F).columns (system s on F).rows) (vector c.codes) (vector e.codes)

-- the puts of loading and reducing lead from the blank matrix to the reduced one, over any arithmetic
abbrev pub PutsReduce : Type 0
PutsReduce = (F : Arithmetic) (S : System)
    → let empty = blank (S.rows + S.columns) (S.columns + 1) in
    played empty (all_puts F S) ≡ over empty (reduction F S).matrix

-- Does a store with this limit take every put, in turn? One is refused exactly if the entry is 0, the code is not, and
-- the nonzero entries number the limit.
abbrev pub takes_all : ℕ → Matrix → List Put → Bool
takes_all limit m [] = true
takes_all limit m (p ∷ ps) =
    not (m.at p.row p.column == 0 && not (p.code == 0) && nat_le limit (count m)) && takes_all limit (put_into m p) ps

-- they are all taken exactly if the peak is within the limit
abbrev pub PeakTells : Type 0
PeakTells = (F : Arithmetic) (S : System) (limit : ℕ)
    → takes_all limit (blank (S.rows + S.columns) (S.columns + 1)) (all_puts F S) ≡ nat_le (peak F S) limit

-- A store whose codes include the field's refuses one of them, for want of room, exactly if the peak exceeds its limit for the shape.
abbrev pub PeakRefuses : Type 0
PeakRefuses = (F : Arithmetic) → FieldLaws F → (S : System) → CodedSystem F S → (t : Terms) → F.order ≤ t.bound
    → let R = S.rows + S.columns in let C = S.columns + 1 in
    puts_outcome t (blank R C) (all_puts F S) ≡ cond (nat_le (peak F S) (t.limit R C)) (accepted tt) (refused (number_of StoreFull))

-- a filling stays when more sensors are on
abbrev pub FillingsGrow : Type 0
FillingsGrow = (s : Survey) (p q : Sensors) (F : Arithmetic) → FieldLaws F → Inside p q → KeepsFence s p → HasFilling s p F → HasFilling s q F

-- the sensors 1 to n that are on and the answers of the field decide the certificate
abbrev pub AlikeSame : Type 0
AlikeSame = (s : Survey) (p q : Sensors) (F G : Arithmetic) → Same s.count p q → Alike F G → certificate s p F ≡ certificate s q G
