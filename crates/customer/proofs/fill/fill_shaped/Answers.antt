-- What a store comes to that was just made.
use Rattle.std.proofs.Common.{ap, ◌∙◌}
use Rattle.customer.specs.Filling.{filled_count}
use Rattle.customer.proofs.fill.fill_shaped.Goals as goal

pub returns : goal.returns
returns g c = c.filled.ensures ∙ ap (λ t. filled_count t c.args.rows c.args.columns c.args.puts.now) c.new.ensures.terms
