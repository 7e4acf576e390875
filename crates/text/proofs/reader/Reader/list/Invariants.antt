-- What was read so far and what is still to come are the whole list.
use Rattle.std.proofs.Common.{length}
use Rattle.std.specs.Bool.{then_some}
use Rattle.text.specs.Reading.{a_list}
use Rattle.text.proofs.Lists.{Listing}
use Rattle.text.proofs.reader.Reader.list.Given as goal

abbrev pub invariant-loop-value : goal.invariant-loop-value
invariant-loop-value l = Listing (a_list l.initial.self) (then_some l.fits l.numbers) l.self

abbrev pub decreases-loop-value : goal.decreases-loop-value
decreases-loop-value l = length l.self
