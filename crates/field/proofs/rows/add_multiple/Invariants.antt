-- The places below i are done, and the others as they were.
use Rattle.std.proofs.Common.{◌≡◌, ℕ, ◌<◌, ◌≤◌, get_or}
use Rattle.field.proofs.rows.add_multiple.Given as goal

abbrev pub invariant-loop-i : goal.invariant-loop-i
invariant-loop-i g l =
    let F = g.F.Field.arithmetic l.field in
    ((k : ℕ) → k < l.i → get_or l.row k 0 ≡ F.sum (get_or l.initial.row k 0) (F.product l.factor (get_or l.other k 0)))
    × ((k : ℕ) → l.i ≤ k → get_or l.row k 0 ≡ get_or l.initial.row k 0)
