-- Each byte leaves fewer behind.
use Rattle.std.proofs.Common.{length}
use Rattle.hall.proofs.quote.unquoted.Given as goal

abbrev pub decreases-loop-byte : goal.decreases-loop-byte
decreases-loop-byte l = length l.rest
