-- By the owner of the row, and by whether it is the greatest row that is left.
use Rattle.std.proofs.Common.{◌+◌, get_or, sym, ◌∙◌, arith}
use Rattle.reduction.proofs.Tables.{told_some, told_not, told_none}
use Rattle.reduction.proofs.Values.{value_owned, value_top, value_none}
use Rattle.reduction.proofs.reducer.Reducer.block_value.Goals as goal

pub returns-in-Some : goal.returns-in-Some
returns-in-Some g c =
    let s = c.args.self.now in
    let here = get_or s.pivots.owners (c.args.before + 1) 0 in
    value_owned (g.F.Field.arithmetic s.field.now) (g.met.F.Field.laws s.field.now) s.shape.edges s.shape.triangles (g.G.Grid.holds c.args.reduced.now).at c.args.before c.in-Some.owner
    (told_some here c.in-Some.owner c.in-Some.ensures ∙ c.requires.pivots.owners (c.args.before + 1) (omega arith) (omega (arith, c.requires.inside.0)))
    c.args.codes.now c.weighted-sum.result c.entry.result c.minus_over.result
    (told_not here c.in-Some.owner c.in-Some.ensures) c.requires.values c.weighted-sum.ensures c.entry.ensures c.minus_over.ensures

pub returns-then-top-row : goal.returns-then-top-row
returns-then-top-row g c =
    let s = c.args.self.now in
    let here = get_or s.pivots.owners (c.args.before + 1) 0 in
    value_top (g.F.Field.arithmetic s.field.now) (g.met.F.Field.laws s.field.now) s.shape.edges s.shape.triangles (g.G.Grid.holds c.args.reduced.now).at c.args.before here
    (c.requires.pivots.owners (c.args.before + 1) (omega arith) (omega (arith, c.requires.inside.0)))
    c.entry-then-top-row.result c.inverse.result (told_none here c.in_default.ensures) (sym c.requires.top ∙ c.if-top-row.true) c.entry-then-top-row.ensures c.inverse.ensures

pub returns-else-top-row : goal.returns-else-top-row
returns-else-top-row g c =
    let s = c.args.self.now in
    let here = get_or s.pivots.owners (c.args.before + 1) 0 in
    value_none (g.F.Field.arithmetic s.field.now) (g.met.F.Field.laws s.field.now) s.shape.edges s.shape.triangles (g.G.Grid.holds c.args.reduced.now).at c.args.before here
    (c.requires.pivots.owners (c.args.before + 1) (omega arith) (omega (arith, c.requires.inside.0)))
    (told_none here c.in_default.ensures) (λ h. c.if-top-row.false (c.requires.top ∙ h))
