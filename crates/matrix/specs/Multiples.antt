-- A multiple of one column added to another, as a matrix and as puts.
use Rattle.std.specs.Prelude.{ℕ, zero, suc, cond, not, ◌&&◌, List, [], ◌∷◌, ◌++◌, ◌==◌}
use Rattle.field.specs.Arithmetic.{Arithmetic}
use Rattle.matrix.specs.declared.put.Put.{Put}
use Rattle.matrix.specs.Matrix.{Entries, put_at}

module _ (F : Arithmetic) where
  -- k times column `from` added to column `to`, wherever column `from` is not 0
  abbrev pub added_by : ℕ → ℕ → ℕ → Entries → Entries
  added_by k from to M r c = cond (c == to && not (M r from == 0)) (F.sum (M r c) (F.product k (M r from))) (M r c)

  -- its puts in the rows 1 to r, rows rising
  abbrev pub adding : ℕ → ℕ → ℕ → Entries → ℕ → List Put
  adding k from to M zero = []
  adding k from to M (suc r) =
      adding k from to M r ++ cond (M (suc r) from == 0) [] (put_at (suc r) to (F.sum (M (suc r) to) (F.product k (M (suc r) from))) ∷ [])
