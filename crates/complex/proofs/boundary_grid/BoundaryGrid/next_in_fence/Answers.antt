-- Each step is one that the search passes, both ways.
use Rattle.std.proofs.Common.{◌+◌, ◌∷◌, get_or, drop, sym, ap, ◌∙◌, subst}
use Rattle.std.proofs.lemmas.List.{at_drop_all}
use Rattle.survey.specs.Surveys.{edge, steps_from}
use Rattle.survey.proofs.Fences.{steps_more, steps_whole}
use Rattle.complex.proofs.Columns.{Passing, passing_none, passing_back, passing_more, passing_all, next_found}
use Rattle.complex.proofs.boundary_grid.BoundaryGrid.next_in_fence.Goals as goal

pub loop-i-init : goal.loop-i-init
loop-i-init c =
    let g = c.args.self.now in
    subst (Passing _ _ _ _ _ _) (sym (steps_whole g.fence.now)) (passing_none g.minus g.edges.now g.triangles.now g.fence.now c.args.first)

pub nearer-nearest-requires : goal.nearer-nearest-requires
nearer-nearest-requires c =
    let g = c.args.self.now in
    let xs = g.fence.now in
    let i = c.loop-i.i in
    let rest = steps_from (get_or xs 0 0) (drop (i + 1) xs) in
    let more = steps_more xs i c.loop-i-test.true ∙ ap (λ v. edge (get_or xs i 0) v ∷ rest) (sym c.next-to.ensures) in
    passing_back g.minus g.edges.now g.triangles.now xs c.args.first (get_or xs i 0) c.next-to.result _ rest (subst (Passing _ _ _ _ _ _) more c.loop-i.invariant)

pub loop-i-preserved : goal.loop-i-preserved
loop-i-preserved c =
    let g = c.args.self.now in
    let xs = g.fence.now in
    let i = c.loop-i.i in
    let rest = steps_from (get_or xs 0 0) (drop (i + 1) xs) in
    let more = steps_more xs i c.loop-i-test.true ∙ ap (λ v. edge (get_or xs i 0) v ∷ rest) (sym c.next-to.ensures) in
    passing_more g.minus g.edges.now g.triangles.now xs c.args.first _ _ _ _ _ rest
    (subst (Passing _ _ _ _ _ _) more c.loop-i.invariant) c.nearer-forth.ensures c.nearer-nearest.ensures

pub returns : goal.returns
returns c =
    let g = c.args.self.now in
    let xs = g.fence.now in
    let end = at_drop_all (steps_from (get_or xs 0 0)) xs c.loop-i.i c.loop-i-test.false in
    next_found g _ _ _ (passing_all g.minus g.edges.now g.triangles.now xs c.args.first _ (subst (Passing _ _ _ _ _ _) end c.loop-i.invariant))
