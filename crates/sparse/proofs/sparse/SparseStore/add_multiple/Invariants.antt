-- The rows up to one are done, and the links are those that lead on from there.
use Rattle.std.proofs.Common.{ℕ}
use Rattle.sparse.specs.States.{cells_of, matrix_of, terms_of}
use Rattle.sparse.proofs.Merges.{Merging, rows_left}
use Rattle.sparse.proofs.sparse.SparseStore.add_multiple.Given as goal

abbrev pub invariant-loop-cell : goal.invariant-loop-cell
invariant-loop-cell g l = (r : ℕ) × Merging (g.F.Field.arithmetic l.field) l.factor l.from l.to (terms_of l.initial.self) (matrix_of l.initial.self) l.self l.link l.before r

abbrev pub decreases-loop-cell : goal.decreases-loop-cell
decreases-loop-cell g l = rows_left (cells_of l.self) l.link
