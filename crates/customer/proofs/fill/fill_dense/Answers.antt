-- What a store comes to that was just made of the width that was checked.
use Rattle.std.proofs.Common.{length, ap, ◌∙◌}
use Rattle.refusal.specs.Outcomes.{and_then}
use Rattle.stores.specs.Dense.{dense_terms}
use Rattle.customer.specs.Filling.{filled_count}
use Rattle.customer.proofs.fill.fill_dense.Goals as goal

pub returns : goal.returns
returns c =
    c.filled.ensures ∙ ap (λ t. filled_count t c.args.rows c.args.columns c.args.puts.now) c.new.ensures.terms
    ∙ ap (λ o. and_then o (λ bits. filled_count (dense_terms bits (length c.args.bytes.now)) c.args.rows c.args.columns c.args.puts.now)) c.in_ok-width.ensures
