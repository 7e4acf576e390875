-- The first nonzero entry of a column from a row on, and the last up to a row.
use Rattle.std.specs.Prelude.{◌≡◌, ℕ, zero, suc, ◌+◌, ◌-◌, ◌<◌, ◌≤◌, cond, Some, None, Option, ◌==◌, ◌≢◌}
use Rattle.matrix.specs.Matrix.{Matrix}

-- the first of r, r + 1, .. r + k - 1 at which f is not zero
abbrev pub first_nonzero_of : (ℕ → ℕ) → ℕ → ℕ → Option ℕ
first_nonzero_of f r zero = None
first_nonzero_of f r (suc k) = cond (f r == 0) (first_nonzero_of f (suc r) k) (Some r)

-- the last of 1 .. r at which f is not zero
abbrev pub last_nonzero_of : (ℕ → ℕ) → ℕ → Option ℕ
last_nonzero_of f zero = None
last_nonzero_of f (suc r) = cond (f (suc r) == 0) (last_nonzero_of f r) (Some (suc r))

-- the first row of the column, from `start` on, whose entry is not zero
abbrev pub next_in : Matrix → ℕ → ℕ → Option ℕ
next_in m column start = first_nonzero_of (λ r. m.at r column) start (m.rows + 1 - start)

-- the last row of the column, up to `end`, whose entry is not zero
abbrev pub last_in : Matrix → ℕ → ℕ → Option ℕ
last_in m column end = last_nonzero_of (λ r. m.at r column) end

-- what it is to be the first from `start` on, or that there is none
abbrev pub First : (ℕ → ℕ) → ℕ → Option ℕ → Type 0
First f start None = (i : ℕ) → start ≤ i → f i ≡ 0
First f start (Some r) = (start ≤ r) × (f r ≢ 0) × ((i : ℕ) → start ≤ i → i < r → f i ≡ 0)

-- what it is to be the last of 1 .. end, or that there is none
abbrev pub Last : (ℕ → ℕ) → ℕ → Option ℕ → Type 0
Last f end None = (i : ℕ) → 1 ≤ i → i ≤ end → f i ≡ 0
Last f end (Some r) = (1 ≤ r) × (r ≤ end) × (f r ≢ 0) × ((i : ℕ) → r < i → i ≤ end → f i ≡ 0)
