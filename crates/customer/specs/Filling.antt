-- A shape taken and puts made in it: what that comes to, and what it leaves.
use Rattle.std.specs.Prelude.{ℕ, List}
use Rattle.refusal.specs.Outcomes.{Outcome, accepted, and_then}
use Rattle.matrix.specs.declared.put.Put.{Put}
use Rattle.matrix.specs.Matrix.{Matrix, blank, count}
use Rattle.matrix.specs.Terms.{Terms, left_by, begin_outcome, puts_outcome, puts_after}

abbrev pub fill_outcome : Terms → ℕ → ℕ → List Put → Outcome (Unit {0})
fill_outcome t rows columns ps = and_then (begin_outcome t rows columns) (λ _. puts_outcome t (blank rows columns) ps)

abbrev pub fill_after : Terms → Matrix → ℕ → ℕ → List Put → Matrix
fill_after t m rows columns ps = left_by (begin_outcome t rows columns) (puts_after t (blank rows columns) ps) m

-- how many entries a filling leaves nonzero, where it is accepted
abbrev pub filled_count : Terms → ℕ → ℕ → List Put → Outcome ℕ
filled_count t rows columns ps = and_then (fill_outcome t rows columns ps) (λ _. accepted (count (puts_after t (blank rows columns) ps)))
