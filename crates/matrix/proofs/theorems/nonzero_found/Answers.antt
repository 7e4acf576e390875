-- The definitions by steps find the first and the last.
use Rattle.matrix.proofs.Nonzeros.{next_first, last_last}
use Rattle.matrix.proofs.theorems.nonzero_found.Goals as goal

pub returns : goal.returns
returns c = λ m column row out. (next_first m column row out, last_last m column row)
