-- Every column is tested, and there are as many codes as rows.
use Rattle.std.proofs.Common.{ℕ, eqb, length, ap, ◌∙◌, rules}
use Rattle.std.specs.List.{list_all, range_with_len}
use Rattle.std.proofs.lemmas.Iterator.Search.{all_from_yields_List}
use Rattle.homology.specs.Certificate.{vector}
use Rattle.survey.proofs.Numbers.{YieldsList-from_numbers}
use Rattle.checking.specs.Equations.{weighted}
use Rattle.checking.proofs.Ranges.{numbers_range}
use Rattle.checking.proofs.equations.Equations.closes.Goals as goal

pub returns : goal.returns
returns g c =
    let s = c.args.self.now in
    let at = (g.G.Grid.holds s.grid.now).at in
    let t = λ (n k : ℕ). eqb (weighted (g.F.Field.arithmetic s.field.now) n (vector c.args.codes.now) (λ r. at r k)) 0 in
    all_from_yields_List (t (length c.args.codes.now)) _ _ _ c.all.ensures.ran (YieldsList-from_numbers s.columns c.new.ensures.start c.new.ensures.end c.new.ensures.exhausted)
    (λ k b q h. search rules)
    ∙ ap (list_all (t (length c.args.codes.now))) (numbers_range 1 s.columns) ∙ ap (λ n. list_all (t n) (range_with_len 1 s.columns)) c.requires
