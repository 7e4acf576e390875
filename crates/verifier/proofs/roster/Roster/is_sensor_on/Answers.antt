-- The sensor's state says it.
use Rattle.std.proofs.Common.{Some}
use Rattle.verifier.specs.declared.sensor.State.TheVariants.{Fence, On, Off}
use Rattle.verifier.proofs.Sets.{on_is}
use Rattle.verifier.proofs.roster.Roster.is_sensor_on.Goals as goal

pub returns-in-Some-Fence : goal.returns-in-Some-Fence
returns-in-Some-Fence c = on_is c.args.self.now c.args.sensor (Some Fence) cc

pub returns-in-Some-Fence-2 : goal.returns-in-Some-Fence-2
returns-in-Some-Fence-2 c = on_is c.args.self.now c.args.sensor (Some On) cc

pub returns-in-Some-Off : goal.returns-in-Some-Off
returns-in-Some-Off c = on_is c.args.self.now c.args.sensor (Some Off) cc
