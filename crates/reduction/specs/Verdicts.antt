-- What solving a system comes to: the verdict, the codes that are read off, and when it is refused.
use Rattle.std.specs.Prelude.{◌≡◌, ℕ, ◌+◌, ◌≤◌, max, Bool, cond, ◌&&◌, List, ◌++◌, length, take, drop, IfOk, Ok, Err, Result, ◌==◌, nat_le}
use Rattle.refusal.specs.declared.Refusal.{Refusal}
use Rattle.refusal.specs.declared.Refusal.TheVariants.{TooShort, FieldTooLarge, ShapeNotTaken, StoreFull}
use Rattle.refusal.specs.Numbers.{number_of}
use Rattle.refusal.specs.Outcomes.{Outcome, accepted, refused, outcome}
use Rattle.field.specs.Arithmetic.{Arithmetic}
use Rattle.matrix.specs.Matrix.{Matrix, blank}
use Rattle.matrix.specs.Terms.{Terms, puts_outcome}
use Rattle.complex.specs.Systems.{System}
use Rattle.homology.specs.Linear.{GivenSolution, GivenSeparator}
use Rattle.homology.specs.Reduction.{low, reduction, all_puts, peak, enough}
use Rattle.homology.specs.Kinds.{kind_of, filled_of}
use Rattle.homology.specs.Certificate.{filling_codes, block_codes, vector}
use Rattle.reduction.specs.declared.solve.Verdict.{Verdict}

-- the shape that is begun, all 0
abbrev pub empty : System → Matrix
empty S = blank (S.rows + S.columns) (S.columns + 1)

-- no more rows and columns than a survey has links and triangles
abbrev pub small : System → Bool
small S = nat_le S.rows 512 && nat_le S.columns 1024

module _ (F : Arithmetic) (S : System) where
  -- a filling if nothing is left of the target, and how many additions it took
  abbrev pub verdict : Verdict
  verdict = record { kind = kind_of (low S.rows (reduction F S).matrix (S.columns + 1) == 0); additions = (reduction F S).additions }

  -- the coefficients of a filling, or the values of a block
  abbrev pub answer_codes : List ℕ
  answer_codes =
      cond (filled_of verdict.kind)
      (filling_codes F S.rows S.columns (reduction F S).matrix)
      (block_codes F S.rows S.columns (reduction F S).matrix)

  -- in a store of these terms, with so much room for the codes
  abbrev pub solving : Terms → ℕ → Outcome Verdict
  solving t room =
      cond (nat_le (max S.rows S.columns) room)
      (cond (nat_le F.order t.bound)
      (cond (small S && t.takes (S.rows + S.columns) (S.columns + 1))
      (cond (nat_le (peak F S) (t.limit (S.rows + S.columns) (S.columns + 1)))
      (accepted verdict)
      (refused (number_of StoreFull)))
      (refused (number_of ShapeNotTaken)))
      (refused (number_of FieldTooLarge)))
      (refused (number_of TooShort))

  -- the list of codes after it: those of the answer at its front, and every place beyond as it was; refused, nothing changes
  abbrev pub codes_after : Outcome Verdict → List ℕ → List ℕ
  codes_after (accepted v) old = answer_codes ++ drop (length answer_codes) old
  codes_after (refused k) old = old

  -- the store after it: the shape that was begun and nothing in it, unless nothing was begun
  abbrev pub store_after : Terms → ℕ → Matrix → Matrix
  store_after t room old =
      cond (nat_le (max S.rows S.columns) room && nat_le F.order t.bound && (small S && t.takes (S.rows + S.columns) (S.columns + 1)))
      (empty S) old

  -- what is promised of an answer: the codes are the one filling or the one block that is published, by few additions
  pub record Published (v : Verdict) (codes : List ℕ) : Type 0 where
    pub given : cond (filled_of v.kind) (GivenSolution F S (vector (take S.columns codes))) (GivenSeparator F S (vector (take S.rows codes)))
    pub few : v.additions ≤ enough S.columns

  -- everything that solving in a store of the terms t, which held m, leaves behind
  pub record Solves (t : Terms) (old : List ℕ) (m : Matrix) (r : Result Verdict Refusal) (new : List ℕ) (n : Matrix) : Type 0 where
    pub answer : outcome (λ v. v) r ≡ solving t (length old)
    pub codes : new ≡ codes_after (solving t (length old)) old
    pub after : n ≡ store_after t (length old) m
    pub published : IfOk r (λ v. Published v new)

  -- once begun, all puts were accepted and the answer was read off, or one was refused and the codes are as they were
  pub record Worked (t : Terms) (old new : List ℕ) (v : Verdict) : Type 0 where
    pub puts : puts_outcome t (empty S) (all_puts F S) ≡ accepted tt
    pub is : v ≡ verdict
    pub codes : new ≡ answer_codes ++ drop (length answer_codes) old

  abbrev pub Works : Terms → List ℕ → List ℕ → Result Verdict Refusal → Type 0
  Works t old new (Ok v) = Worked t old new v
  Works t old new (Err e) = (puts_outcome t (empty S) (all_puts F S) ≡ refused (number_of e)) × (new ≡ old)
