-- One record changes, and it is not on the fence.
use Rattle.std.proofs.Common.{ℕ, Bool, sym, ap, ◌∙◌, rules}
use Rattle.survey.specs.Plans.{survey_of}
use Rattle.verifier.specs.Sensors.{is_fence_of, is_on}
use Rattle.verifier.proofs.Tables.{marked_switched, on_switched}
use Rattle.verifier.proofs.roster.Roster.switch.Goals as goal
use Rattle.verifier.proofs.roster.Roster.switch.Goals.{then-on, else-on}

pub invariant_of-self : goal.invariant_of-self
invariant_of-self c =
    let set_is = c.set_state.ensures in
    record {
      fenced = marked_switched _ c.args.self.now.sensors c.args.sensor _ (search rules) c.requires.1
          (elim c.if-on.branch [ then-on w ↦ ap is_fence_of (set_is ∙ w.state-is) | else-on w ↦ ap is_fence_of (set_is ∙ w.state-is) ])
          c.args.self.now.fenced;
    }

pub returns : goal.returns
returns c =
    let s = survey_of c.args.self.now.survey in
    let set_is = c.set_state.ensures in
    record {
      after = ap (λ (f : ℕ → Bool). record { survey = s; on = f })
          (on_switched s c.args.self.now.sensors c.args.sensor _ c.args.on (search rules) c.requires.0
          (elim c.if-on.branch [ then-on w ↦ ap is_on (set_is ∙ w.state-is) ∙ sym w.if-on.true | else-on w ↦ ap is_on (set_is ∙ w.state-is) ∙ sym w.if-on.false ]));
    }
