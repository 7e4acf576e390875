-- What passes the test is an odd prime, and what fails is none.
use Rattle.std.proofs.Common.{◌∙◌}
use Rattle.std.proofs.lemmas.Bool.{both_ways}
use Rattle.field.proofs.Primes.{odd_prime_true, odd_prime_from}
use Rattle.field.proofs.gfp.GfP.new.Goals as goal

pub invariant_of-result : goal.invariant_of-result
invariant_of-result c = record { odd_prime = odd_prime_true c.args.p cc }

pub returns-else-is_odd_prime-clause-prime : goal.returns-else-is_odd_prime-clause-prime
returns-else-is_odd_prime-clause-prime c o = both_ways _ c.if-is_odd_prime.false (c.is_odd_prime.ensures ∙ odd_prime_from c.args.p o)
