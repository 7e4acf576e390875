-- The puts of an addition leave the sum, row by row.
use Rattle.matrix.proofs.Multiples as multiples
use Rattle.matrix.proofs.theorems.adding_adds.Goals as goal

pub returns : goal.returns
returns c = multiples.adding_adds_lem
