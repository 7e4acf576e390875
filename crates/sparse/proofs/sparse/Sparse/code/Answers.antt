-- The code at the spot is the entry.
use Rattle.std.proofs.Common.{sym, ap, ◌∙◌}
use Rattle.sparse.specs.declared.cell.Cell.{Cell}
use Rattle.sparse.proofs.Locating.{entry_here, entry_none}
use Rattle.sparse.proofs.sparse.Sparse.code.Goals as goal

pub returns-in-Some : goal.returns-in-Some
returns-in-Some c =
    let h = c.in-Some.ensures in
    ap (λ (x : Cell). x.code) h.1 ∙ sym (entry_here c.args.self.now c.args.spot c.requires h.0 (sym (ap (λ (x : Cell). x.row) h.1) ∙ c.if-cell-spot.true))

pub returns-in_default : goal.returns-in_default
returns-in_default c =
    let h = c.in-Some.ensures in
    sym (entry_none c.args.self.now c.args.spot c.requires (λ _ e. c.if-cell-spot.false (ap (λ (x : Cell). x.row) h.1 ∙ e)))

pub returns-in_default-2 : goal.returns-in_default-2
returns-in_default-2 c = sym (entry_none c.args.self.now c.args.spot c.requires (λ d. absurd (d c.in_default.ensures)))
