-- The row that holds the edge is the only one.
use Rattle.std.proofs.Common.{refl, sym, ◌∙◌, true≢false}
use Rattle.complex.specs.Grids.{matrix_of}
use Rattle.complex.proofs.Columns.{nearer_none, nearer_behind, nearer_come, nearer_stay, row_meets, not_zero, is_zero}
use Rattle.complex.proofs.boundary_grid.BoundaryGrid.nearer.Goals as goal
use Rattle.complex.proofs.boundary_grid.BoundaryGrid.nearer.Goals.{else-is_before-via-then-is_before+else-entry-ne0, then-self-ne0, else-self-ne0, else-is_before-via-else-is_before}

pub returns-then-is_behind : goal.returns-then-is_behind
returns-then-is_behind c = nearer_behind (λ i. (matrix_of c.args.self.now).at i c.args.column) _ c.args.self.now.rising c.args.first _ _ (c.is_behind.ensures c.if-is_behind.true)

pub returns-in_default : goal.returns-in_default
returns-in_default c = nearer_none (λ i. (matrix_of c.args.self.now).at i c.args.column) _ c.args.self.now.rising _ _ _ c.in_default.ensures

pub returns-then-entry-ne0 : goal.returns-then-entry-ne0
returns-then-entry-ne0 c =
    let g = c.args.self.now in
    nearer_come (λ i. (matrix_of g).at i c.args.column) _ g.rising _ _ _ _ c.in-Some.ensures (c.if-is_before.ensures.0 refl) (λ z. elim c.if-self-ne0.branch [
      | then-self-ne0 w ↦ row_meets (λ i. (matrix_of g).at i c.args.column) _ g.rising _ _ c.args.so_far g.minus _ c.in-Some.ensures c.requires w.if-self-ne0.true z
      | else-self-ne0 w ↦ not_zero _ _ w.value-is c.if-entry-ne0.true (w.entry.ensures ∙ z)
    ])

pub returns-else-is_before : goal.returns-else-is_before
returns-else-is_before c =
    nearer_stay (λ i. (matrix_of c.args.self.now).at i c.args.column) _ c.args.self.now.rising _ _ _ _ c.in-Some.ensures (λ b. elim c.else-is_before.branch [
      | else-is_before-via-then-is_before+else-entry-ne0 w ↦ elim w.if-self-ne0.branch [
        | then-self-ne0 v ↦ absurd (v.if-self-ne0.true (is_zero _ _ v.value-is w.if-entry-ne0.false))
        | else-self-ne0 v ↦ sym v.entry.ensures ∙ is_zero _ _ v.value-is w.if-entry-ne0.false
      ]
      | else-is_before-via-else-is_before w ↦ absurd (true≢false (sym (w.if-is_before.ensures.1 b)))
    ])
