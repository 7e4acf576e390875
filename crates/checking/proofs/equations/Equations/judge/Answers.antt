-- What the codes form, where there are enough of them, none outside and one not 0.
use Rattle.homology.specs.declared.kind.Kind.TheVariants.{Filling, Block}
use Rattle.checking.specs.Equations.{system_in}
use Rattle.checking.proofs.Verdicts.{verdict_formed, forms_claim}
use Rattle.checking.proofs.equations.Equations.judge.Goals as goal

pub returns-in-Filling : goal.returns-in-Filling
returns-in-Filling g c =
    let s = c.args.self.now in
    let F = g.F.Field.arithmetic s.field.now in
    let S = system_in s.rows s.columns (g.G.Grid.holds s.grid.now) in
    verdict_formed F S c.args.claim c.args.codes.now _ c.if-codes-size.false c.size-size.ensures _ c.if-has_outside.ensures c.if-not-has_nonzero.ensures
    (forms_claim F S c.args.claim Filling _ _ c.in-Filling.is c.solves.ensures)

pub returns-in-Block : goal.returns-in-Block
returns-in-Block g c =
    let s = c.args.self.now in
    let F = g.F.Field.arithmetic s.field.now in
    let S = system_in s.rows s.columns (g.G.Grid.holds s.grid.now) in
    verdict_formed F S c.args.claim c.args.codes.now _ c.if-codes-size.false c.size-size.ensures _ c.if-has_outside.ensures c.if-not-has_nonzero.ensures
    (forms_claim F S c.args.claim Block _ _ c.in-Block.is c.separates.ensures)
