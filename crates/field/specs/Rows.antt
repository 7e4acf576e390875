-- Rows of codes.
use Rattle.std.specs.Prelude.{ℕ, List, [], ◌∷◌}
use Rattle.field.specs.Arithmetic.{Arithmetic}

-- xs + k ys, code by code; where ys has ended, xs goes on as it is
abbrev pub plus_multiple : Arithmetic → ℕ → List ℕ → List ℕ → List ℕ
plus_multiple F k [] ys = []
plus_multiple F k (x ∷ xs) [] = x ∷ xs
plus_multiple F k (x ∷ xs) (y ∷ ys) = F.sum x (F.product k y) ∷ plus_multiple F k xs ys
