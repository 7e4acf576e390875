-- The tables of operations on the codes below q.
use Rattle.std.specs.Prelude.{ℕ, List, map}
use Rattle.std.specs.List.{range_with_len}

abbrev pub table : ℕ → (ℕ → ℕ) → List ℕ
table q f = map f (range_with_len 0 q)

-- row by row
abbrev pub table₂ : ℕ → (ℕ → ℕ → ℕ) → List (List ℕ)
table₂ q f = map (λ a. table q (f a)) (range_with_len 0 q)
