-- A shape begun, with no cell in use.
use Rattle.std.proofs.Common.{◌≡◌, ℕ, ◌-◌, ◌<◌, ◌≤◌, List, length, get_or, sym, ap, ◌∙◌, arith}
use Rattle.matrix.specs.Matrix.{blank, count}
use Rattle.matrix.proofs.Matrices.{same_entries}
use Rattle.matrix.proofs.Counts.{count_blank}
use Rattle.sparse.specs.declared.cell.Cell.{Cell}
use Rattle.sparse.specs.Cells.{held}
use Rattle.sparse.specs.Chains.{Unused, spare}
use Rattle.sparse.specs.Sound.{Sound}
use Rattle.sparse.proofs.Found.{found_none}
use Rattle.sparse.proofs.Readings.{held_none}

pub held_blank : (rows columns : ℕ) (cells : List Cell) → Unused 0 cells → held rows columns cells ≡ blank rows columns
held_blank rows columns cells u = same_entries (blank rows columns) (held rows columns cells).at (λ _ _. 0)
    (λ r c. held_none rows columns cells r c (λ p q. found_none cells r c (λ k e f. omega (arith, u k (omega arith)))))

pub begun_sound : (rows columns free fresh : ℕ) (heads : List ℕ) (cells : List Cell) → rows ≤ 65535 → columns ≤ length heads → Unused 0 cells → ((k : ℕ) → k < columns → get_or heads k 0 ≡ 0)
    → free ≡ 0 → fresh ≡ 0 → Sound rows columns 0 free fresh heads cells
unfolding spare
begun_sound rows columns free fresh heads cells low wide u z ef eh = record {
  low = low;
  wide = wide;
  chained = record {
    heads_ahead = λ c l h d. absurd (d (z (c - 1) (omega arith)));
    heads_nearest = λ c l h q e g. absurd (omega (arith, u q (omega arith)));
    nexts_ahead = λ k l d. absurd (omega (arith, u k (omega arith)));
    nexts_nearest = λ k l q e g. absurd (omega (arith, u k (omega arith)));
    one_each = λ p q l e f. absurd (omega (arith, u p (omega arith)));
  };
  filled = λ k l. absurd (omega (arith, u k (omega arith)));
  rows_to = λ k. omega (arith, u k (omega arith));
  lent = omega arith;
  unused = λ k l. u k (omega arith);
  begun = omega arith;
  spared = rw (ef, eh);
  counted = sym (ap count (held_blank rows columns cells u) ∙ count_blank rows columns);
}
