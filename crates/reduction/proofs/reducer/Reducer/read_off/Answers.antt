-- Nothing is left of the target where its column has no low.
use Rattle.std.proofs.Common.{◌+◌, sym, ap, ◌∙◌}
use Rattle.std.proofs.lemmas.Bool.{eq-eqb, ne_eqb}
use Rattle.homology.specs.Kinds.{kind_of}
use Rattle.homology.specs.Reduction.{low}
use Rattle.reduction.proofs.Tables.{told_some, told_not, told_none}
use Rattle.reduction.proofs.Walks.{low_last}
use Rattle.reduction.proofs.reducer.Reducer.read_off.Goals as goal

pub returns-in-None-clause-kind : goal.returns-in-None-clause-kind
returns-in-None-clause-kind g c =
    let E = c.args.self.now.shape.edges in
    let last = c.args.self.now.shape.triangles + 1 in
    let N = (g.G.Grid.holds c.args.reduced.now).at in
    sym (ap kind_of (eq-eqb (low E N last) 0 (told_none (low E N last) (c.in-None.ensures ∙ low_last N last E))))

pub write_block-requires-clause-top : goal.write_block-requires-clause-top
write_block-requires-clause-top g c =
    let E = c.args.self.now.shape.edges in
    let last = c.args.self.now.shape.triangles + 1 in
    let N = (g.G.Grid.holds c.args.reduced.now).at in
    told_some (low E N last) c.in-Some.top (c.in-Some.ensures ∙ low_last N last E)

pub returns-in-Some-clause-kind : goal.returns-in-Some-clause-kind
returns-in-Some-clause-kind g c =
    let E = c.args.self.now.shape.edges in
    let last = c.args.self.now.shape.triangles + 1 in
    let N = (g.G.Grid.holds c.args.reduced.now).at in
    let h = c.in-Some.ensures ∙ low_last N last E in
    sym (ap kind_of (ne_eqb (low E N last) 0 (λ z. told_not (low E N last) c.in-Some.top h (told_some (low E N last) c.in-Some.top h ∙ z))))
