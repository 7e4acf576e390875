-- The theorems stand beside the answer.
use Rattle.text.proofs.Accepting.{accepted_is_text, accepted_is_valid}
use Rattle.text.proofs.read.read_survey.Goals as goal

pub returns-clause-accepted : goal.returns-clause-accepted
returns-clause-accepted c = accepted_is_text

pub returns-clause-valid : goal.returns-clause-valid
returns-clause-valid c = accepted_is_valid
