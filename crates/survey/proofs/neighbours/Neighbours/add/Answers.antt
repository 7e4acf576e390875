-- One name more.
use Rattle.std.proofs.Common.{◌≡◌, ℕ, Bool, true, [], sym, ap, ◌∙◌, rules}
use mathlib.Core.Path.{fun_ext}
use Rattle.std.proofs.lemmas.Bool.{cond-true}
use Rattle.refusal.specs.Outcomes.{accepted}
use Rattle.survey.specs.Views.{drawn, two_sensors}
use Rattle.survey.proofs.Tables.{at_set_true}
use Rattle.survey.proofs.neighbours.Neighbours.add.Goals as goal

pub returns-clause-answer : goal.returns-clause-answer
returns-clause-answer c =
    let n = c.args.self.now in
    let x = c.args.x in
    let y = c.args.y in
    let two : two_sensors (drawn n []) x y ≡ true = search rules in
    ap (λ (f : ℕ → ℕ → Bool). accepted (record { count = n.count; linked = f; fence = [] })) (fun_ext (λ a. fun_ext (λ b. search (rules, at_set_true))))
    ∙ sym (cond-true _ _ _ two)
