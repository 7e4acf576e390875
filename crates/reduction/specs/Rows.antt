-- The rows of a column at which a grid is not 0.
use Rattle.std.specs.Prelude.{ℕ, zero, suc, ◌+◌, ◌-◌, cond, List, [], ◌∷◌, ◌==◌}
use Rattle.matrix.specs.Matrix.{Matrix}

-- those of r, r + 1, .. r + k - 1 at which f is not 0
abbrev pub nonzero_of : (ℕ → ℕ) → ℕ → ℕ → List ℕ
nonzero_of f r zero = []
nonzero_of f r (suc k) = cond (f r == 0) (nonzero_of f (suc r) k) (r ∷ nonzero_of f (suc r) k)

-- the rows of the column from `first` up to `last` whose entry is not 0
abbrev pub rows_from : Matrix → ℕ → ℕ → ℕ → List ℕ
rows_from m column first last = nonzero_of (λ r. m.at r column) first (last + 1 - first)
