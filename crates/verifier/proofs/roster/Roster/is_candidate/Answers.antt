-- The sensor's state says it.
use Rattle.std.proofs.Common.{◌≡◌, Some, None, Option, refl, ◌∙◌}
use Rattle.std.specs.Option.{option_eq}
use Rattle.verifier.specs.contracts.sensor.StatePartialEq.TheImpl.{eq-value}
use Rattle.verifier.specs.declared.sensor.State.{State}
use Rattle.verifier.specs.declared.sensor.State.TheVariants.{Fence, On, Off}
use Rattle.verifier.proofs.Sets.{says_candidate, candidate_is}
use Rattle.verifier.proofs.roster.Roster.is_candidate.Goals as goal

same : (o : Option State) → option_eq eq-value.it o (Some On) ≡ says_candidate o
same None = refl
same (Some Fence) = refl
same (Some On) = refl
same (Some Off) = refl

pub returns : goal.returns
returns c = c.eq.ensures ∙ same _ ∙ candidate_is c.args.self.now c.args.sensor _ c.state.ensures
