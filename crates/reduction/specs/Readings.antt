-- What is read off a reduced matrix, by the shape of its system.
use Rattle.std.specs.Prelude.{ℕ, ◌+◌, List}
use Rattle.field.specs.Arithmetic.{Arithmetic}
use Rattle.matrix.specs.Matrix.{Matrix}
use Rattle.homology.specs.Reduction.{low}
use Rattle.homology.specs.Certificate.{filling_codes, block_codes}
use Rattle.reduction.specs.declared.shape.Shape.{Shape}

-- the greatest row that is left of the target; 0 where there is none
abbrev pub target_low : Shape → Matrix → ℕ
target_low s m = low s.edges m.at (s.triangles + 1)

-- the coefficients of a filling, and the values of a block
abbrev pub filling_of : Arithmetic → Shape → Matrix → List ℕ
filling_of F s m = filling_codes F s.edges s.triangles m.at

abbrev pub block_of : Arithmetic → Shape → Matrix → List ℕ
block_of F s m = block_codes F s.edges s.triangles m.at
