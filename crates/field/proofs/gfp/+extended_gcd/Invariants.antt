-- Each call has the remainder of the one before.
use Rattle.field.proofs.gfp.+extended_gcd.Given as goal

abbrev pub decreases-extended_gcd : goal.decreases-extended_gcd
decreases-extended_gcd l = l.b
