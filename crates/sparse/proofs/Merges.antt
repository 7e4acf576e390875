-- A multiple of one column added to another by a walk along both chains.
use Rattle.std.proofs.Common.{◌≡◌, ◌≢◌, ℕ, ◌-◌, ◌<◌, ◌≤◌, cond, eqb, List, length, Ok, Err, Result, sym, refl, ap, subst, ◌∙◌, ⊎_elim, arith}
use Rattle.std.proofs.lemmas.Bool.{cases_eq, cond-true, cond-false, eq-eqb, ne_eqb}
use Rattle.refusal.specs.declared.Refusal.{Refusal}
use Rattle.refusal.specs.declared.Refusal.TheVariants.{OutsideShape}
use Rattle.refusal.specs.Numbers.{number_of}
use Rattle.refusal.specs.Outcomes.{refused}
use Rattle.std.proofs.lemmas.Bool.Decides.{nat_tests}
use Rattle.field.specs.Arithmetic.{Arithmetic}
use Rattle.matrix.specs.Matrix.{Matrix, inside, put_at, put_into}
use Rattle.matrix.specs.Terms.{Terms, told, left_by, put_outcome, put_after}
use Rattle.matrix.specs.Multiples.{adding}
use Rattle.matrix.proofs.Puts.{Comes}
use Rattle.matrix.proofs.Multiples.{Adding, Reached, Due, adding_start, adding_put, adding_refused, adding_end}
use Rattle.sparse.specs.declared.cell.Cell.{Cell}
use Rattle.sparse.specs.Cells.{cell, row_at, column_at, found}
use Rattle.sparse.specs.Chains.{Follows, row_of, Stands}
use Rattle.sparse.specs.Puts.{Kept}
use Rattle.sparse.specs.declared.chains.Spot.{Spot}
use Rattle.sparse.specs.declared.sparse.Sparse.{Sparse}
use Rattle.sparse.specs.States.{cells_of, heads_of, entry_at, matrix_of, terms_of, Located, Inside, Stays}
use Rattle.sparse.proofs.Rows.{row_of_none, row_of_some, used_lt}
use Rattle.sparse.proofs.Found.{found_none}
use Rattle.sparse.proofs.Readings.{found_here, held_in, held_none, held_past}
use Rattle.sparse.proofs.Walks.{follows_by, next_follows}

-- what a put at a row leaves of the links past it, and of those before it
follows_kept : (cells cells' : List Cell) (c d r link : ℕ) → Kept cells cells' r d → Follows cells c r link → Follows cells' c r link
follows_kept cells cells' c d r link k f =
    let still : (link ≡ 0 → ⊥) → (row_at cells' (link - 1) ≡ row_at cells (link - 1)) × (column_at cells' (link - 1) ≡ column_at cells (link - 1)) =
    λ z. k.stays (link - 1) (omega (arith, (f.0 z).1)) (λ e _. omega (arith, (f.0 z).1)) in (
      λ z. ((still z).1 ∙ (f.0 z).0, omega (arith, (still z).0, (f.0 z).1)),
      λ q qc qr.
          let w = k.was q (omega arith) (λ e _. omega arith) in
          let n = f.1 q (sym w.1 ∙ qc) (omega (arith, w.0)) in
          (n.0, omega (arith, (still n.0).0, n.1, w.0)),
    )

module _ (cells cells' : List Cell) (c d r b : ℕ) (k : Kept cells cells' r d) (s : Stands cells c b) (low : row_of cells b < r) where
  stays_before : (b ≡ 0 → ⊥) → (row_at cells' (b - 1) ≡ row_at cells (b - 1)) × (column_at cells' (b - 1) ≡ column_at cells (b - 1))
  stays_before z = k.stays (b - 1) (s z).1 (λ e _. omega (arith, row_of_some cells b z))

  stands_kept : Stands cells' c b
  stands_kept z = ((stays_before z).1 ∙ (s z).0, omega (arith, (stays_before z).0, (s z).1))

  below_kept : row_of cells' b ≤ r
  below_kept = ⊎_elim
      (λ (z : b ≡ 0). omega (arith, row_of_none cells' b z))
      (λ (z : b ≡ 0 → ⊥). omega (arith, row_of_some cells' b z, row_of_some cells b z, (stays_before z).0))
      (cases_eq b 0)

-- a put outside the shape
outcome_outside : (t : Terms) (s : Sparse) (r c v : ℕ) → (1 ≤ c → s.shape.columns < c) → put_outcome t (matrix_of s) (put_at r c v) ≡ refused (number_of OutsideShape)
outcome_outside t s r c v h = cond-false (inside s.shape.rows s.shape.columns r c) _ _ (grind (arith, nat_tests))

-- the rows that a walk from the link can still come to
abbrev pub rows_left : List Cell → ℕ → ℕ
rows_left cells link = cond (eqb link 0) 0 (65536 - row_at cells (link - 1))

pub left_less : (cells cells' : List Cell) (c link r next : ℕ) → (link ≡ 0 → ⊥) → row_at cells (link - 1) ≡ r → r ≤ 65535 → Follows cells' c r next → rows_left cells' next < rows_left cells link
left_less cells cells' c link r next d e l f =
    let was : rows_left cells link ≡ 65536 - row_at cells (link - 1) = cond-false (eqb link 0) _ _ (ne_eqb link 0 d) in
    ⊎_elim
    (λ (z : next ≡ 0). let is : rows_left cells' next ≡ 0 = cond-true (eqb next 0) _ _ (eq-eqb next 0 z) in omega arith)
    (λ (z : next ≡ 0 → ⊥). let is : rows_left cells' next ≡ 65536 - row_at cells' (next - 1) = cond-false (eqb next 0) _ _ (ne_eqb next 0 z) in omega (arith, (f.0 z).1))
    (cases_eq next 0)

module _ (F : Arithmetic) (k from to : ℕ) where
  -- a column outside the shape has no entry
  pub merge_nothing : (s : Sparse) → (1 ≤ 1 → 1 ≤ from → s.shape.columns < from) → Comes (terms_of s) (matrix_of s) (adding F k from to (matrix_of s).at (matrix_of s).rows) (Ok tt) (matrix_of s)
  merge_nothing s h = adding_end F k from to _ _ (matrix_of s) 0 (adding_start F k from to _ _) (λ i _. held_past s.shape.rows s.shape.columns (cells_of s) i from (h (omega arith)))

  -- The rows up to r are done: `link` leads on in the one column, and `before` is no later in the other.
  pub record Merging (t : Terms) (m : Matrix) (s : Sparse) (link before r : ℕ) : Type 0 where
    pub done : Adding F k from to t m (matrix_of s) r
    pub column_from : 1 ≤ from
    pub column_to : from ≤ s.shape.columns
    pub follows : Follows (cells_of s) from r link
    pub stands : Stands (cells_of s) to before
    pub below : row_of (cells_of s) before ≤ r
    pub same_terms : terms_of s ≡ t
    pub same_rows : s.shape.rows ≡ m.rows
    pub same_columns : s.shape.columns ≡ m.columns

  pub merge_start : (s : Sparse) (p : Spot) → (p.row ≡ 1) × (p.column ≡ from) × Located s p → Merging (terms_of s) (matrix_of s) s p.at 0 0
  merge_start s p h =
      let l = h.2 in
      let z : row_of (cells_of s) p.before ≡ 0 = omega (arith, l.spotted.below, h.0) in
      record {
        done = adding_start F k from to _ _;
        column_from = omega (arith, l.column_from, h.1);
        column_to = omega (arith, l.column_to, h.1);
        follows = follows_by (cells_of s) _ _ _ _ _ _ h.1 z refl (l.spotted.ahead, l.spotted.nearest);
        stands = λ d. absurd (d refl);
        below = omega arith;
        same_terms = refl;
        same_rows = refl;
        same_columns = refl;
      }

  module _ {t : Terms} {m : Matrix} {s : Sparse} {link before r : ℕ} (g : Merging t m s link before r) where
    -- a row past r that the link does not lead to has no entry
    none_between : (i : ℕ) → r < i → (link ≢ 0 → i < row_at (cells_of s) (link - 1)) → (matrix_of s).at i from ≡ 0
    none_between i l h = held_none s.shape.rows s.shape.columns (cells_of s) i from (λ _ _. found_none (cells_of s) i from (λ q e f.
        let n = g.follows.1 q f (omega arith) in omega (arith, n.1, h n.0)))

    -- the link is one of the store
    pub link_to : link ≤ length (cells_of s)
    link_to = ⊎_elim (λ (z : link ≡ 0). omega arith) (λ (d : link ≢ 0). omega (arith, used_lt (cells_of s) (link - 1) (omega (arith, (g.follows.0 d).1)))) (cases_eq link 0)

    -- no row is left
    pub merge_end : link ≡ 0 → Comes t m (adding F k from to m.at m.rows) (Ok tt) (matrix_of s)
    merge_end z = adding_end F k from to t m (matrix_of s) r g.done (λ i l. none_between i l (λ d. absurd (d z)))

    -- the cell that the link leads to
    module _ (x : Cell) (some : (link ≢ 0) × (x ≡ cell (cells_of s) (link - 1))) where
      row_is : row_at (cells_of s) (link - 1) ≡ x.row
      row_is = ap (λ (u : Cell). u.row) (sym some.1)

      pub row_past : r < x.row
      row_past = omega (arith, (g.follows.0 some.0).1, row_is)

      pub row_within : x.row ≤ s.shape.rows
      row_within = omega (arith, s.sound.rows_to (link - 1), row_is)

      entry_from : x.code ≡ (matrix_of s).at x.row from
      entry_from =
          let used : 1 ≤ row_at (cells_of s) (link - 1) = omega (arith, row_is, row_past) in
          ap (λ (u : Cell). u.code) some.1 ∙ sym (found_here (cells_of s) (link - 1) s.sound.chained.one_each used)
          ∙ ap (λ i. found (cells_of s) i (column_at (cells_of s) (link - 1))) row_is ∙ ap (found (cells_of s) x.row) (g.follows.0 some.0).0
          ∙ sym (held_in s.shape.rows s.shape.columns (cells_of s) x.row from (omega (arith, row_past)) row_within g.column_from g.column_to)

      code_not_zero : x.code ≢ 0
      code_not_zero z = omega (arith, s.sound.filled (link - 1) (omega (arith, row_is, row_past)), ap (λ (u : Cell). u.code) some.1)

      reached : Reached F k from to t m (matrix_of s) r x.row
      reached = record {
        done = g.done;
        past = row_past;
        within = omega (arith, row_within, g.same_rows);
        nonzero = λ z. code_not_zero (entry_from ∙ z);
        between = λ i a b. none_between i a (λ _. omega (arith, row_is));
      }

      -- outside the shape the put of the row is refused, whatever it brings
      pub merge_outside : (1 ≤ x.row → 1 ≤ to → s.shape.columns < to) → Comes t m (adding F k from to m.at m.rows) (Err OutsideShape) (matrix_of s)
      merge_outside h =
          let y = (matrix_of s).at x.row to in
          let w = F.product k x.code in
          let o = outcome_outside t s x.row to (F.sum y w) (h (omega (arith, row_past))) in
          adding_refused F k from to t m (matrix_of s) (matrix_of s) r x.row x.code y w (F.sum y w) (Err OutsideShape) (Err OutsideShape) OutsideShape OutsideShape reached
          (record { from_entry = entry_from; to_entry = refl; product = refl; sum = refl }) (sym o) (ap (λ z. left_by z (put_into (matrix_of s) (put_at x.row to (F.sum y w))) (matrix_of s)) (sym o)) refl refl refl

      -- the put of the row, at its spot
      pub inside_spot : (p : Spot) → (p.row ≡ x.row) × (p.column ≡ to) × Located s p → Inside s p
      inside_spot p h = record { row_to = omega (arith, row_within, h.0); located = h.2 }

      module _ (p : Spot) (h : (p.row ≡ x.row) × (p.column ≡ to) × Located s p) {y w v : ℕ} (ey : y ≡ entry_at s p) (ew : w ≡ F.product k x.code) (ev : v ≡ F.sum y w) where
        due : Due F k from to (matrix_of s) x.row x.code y w v
        due = record { from_entry = entry_from; to_entry = ey ∙ ap (λ i. (matrix_of s).at i p.column) h.0 ∙ ap ((matrix_of s).at x.row) h.1; product = ew; sum = ev }

        put_is : put_at p.row p.column v ≡ put_at x.row to v
        put_is = ap (λ i. put_at i p.column v) h.0 ∙ ap (λ i. put_at x.row i v) h.1

        answer_by : (res : Result (Unit {0}) Refusal) → told res ≡ put_outcome (terms_of s) (matrix_of s) (put_at p.row p.column v) → told res ≡ put_outcome t (matrix_of s) (put_at x.row to v)
        answer_by res e = e ∙ ap (put_outcome (terms_of s) (matrix_of s)) put_is ∙ ap (λ q. put_outcome q (matrix_of s) (put_at x.row to v)) g.same_terms

        after_by : (n : Matrix) → n ≡ put_after (terms_of s) (matrix_of s) (put_at p.row p.column v) → n ≡ put_after t (matrix_of s) (put_at x.row to v)
        after_by n e = e ∙ ap (put_after (terms_of s) (matrix_of s)) put_is ∙ ap (λ q. put_after q (matrix_of s) (put_at x.row to v)) g.same_terms

        pub merge_refused : (n : Matrix) (res res' : Result (Unit {0}) Refusal) (e e' : Refusal) → told res ≡ put_outcome (terms_of s) (matrix_of s) (put_at p.row p.column v)
            → n ≡ put_after (terms_of s) (matrix_of s) (put_at p.row p.column v) → res ≡ Err e → res' ≡ Err e' → e' ≡ e → Comes t m (adding F k from to m.at m.rows) res' n
        merge_refused n res res' e e' answer after was is same =
            adding_refused F k from to t m (matrix_of s) n r x.row x.code y w v res res' e e' reached due (answer_by res answer) (after_by n after) was is same

        module _ (s' : Sparse) (kept : Stays s s' p) where
          kept_row : Kept (cells_of s) (cells_of s') x.row to
          kept_row = subst (λ i. Kept (cells_of s) (cells_of s') i to) h.0 (subst (Kept (cells_of s) (cells_of s') p.row) h.1 kept.kept)

          -- the link that is next leads on past the row, whatever was put there
          next_link : Follows (cells_of s') from x.row x.next
          next_link = follows_kept (cells_of s) (cells_of s') from to x.row x.next kept_row
              (follows_by (cells_of s) _ _ _ _ _ _ (g.follows.0 some.0).0 row_is (sym (ap (λ (z : Cell). z.next) some.1)) (next_follows s.shape.columns (heads_of s) (cells_of s) (link - 1) s.sound.chained (omega (arith, row_is, row_past))))

          pub merge_less : rows_left (cells_of s') x.next < rows_left (cells_of s) link
          merge_less = left_less (cells_of s) (cells_of s') from link x.row x.next some.0 row_is (omega (arith, s.sound.low, row_within)) next_link

          pub merge_put : (res : Result (Unit {0}) Refusal) (u : Unit {0}) → told res ≡ put_outcome (terms_of s) (matrix_of s) (put_at p.row p.column v)
              → matrix_of s' ≡ put_after (terms_of s) (matrix_of s) (put_at p.row p.column v) → res ≡ Ok u → Merging t m s' x.next p.before x.row
          merge_put res u answer after was =
              let low : row_of (cells_of s) p.before < x.row = omega (arith, h.2.spotted.below, h.0) in
              let stands : Stands (cells_of s) to p.before = subst (λ i. Stands (cells_of s) i p.before) h.1 h.2.spotted.stands in
              record {
                done = adding_put F k from to t m (matrix_of s) (matrix_of s') r x.row x.code y w v res u reached due (answer_by res answer) (after_by _ after) was;
                column_from = g.column_from;
                column_to = omega (arith, g.column_to, kept.columns);
                follows = next_link;
                stands = stands_kept (cells_of s) (cells_of s') to to x.row p.before kept_row stands low;
                below = below_kept (cells_of s) (cells_of s') to to x.row p.before kept_row stands low;
                same_terms = kept.terms ∙ g.same_terms;
                same_rows = kept.rows ∙ g.same_rows;
                same_columns = kept.columns ∙ g.same_columns;
              }
