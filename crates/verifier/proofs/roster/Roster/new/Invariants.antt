-- The sensors passed, and no others, are marked; none is off.
use Rattle.std.proofs.Common.{◌≡◌, length, take}
use Rattle.verifier.specs.Sensors.{Marked}
use Rattle.verifier.proofs.Tables.{AllOn}
use Rattle.verifier.proofs.roster.Roster.new.Given as goal

abbrev pub invariant-loop-x : goal.invariant-loop-x
invariant-loop-x l = (length l.sensors ≡ 65) × Marked (take l.x-index l.x-items) l.sensors × AllOn 65 l.sensors
