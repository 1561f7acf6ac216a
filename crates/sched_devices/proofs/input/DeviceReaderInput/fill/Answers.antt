use Rattle.sched_devices.proofs.InputLemmas.{going_keeps, going_taken}
use Rattle.sched_devices.proofs.input.DeviceReaderInput.fill.Goals as goal

pub fill_once-requires : goal.fill_once-requires
fill_once-requires g c = record { goes_on = c.loop.invariant.2 }

pub returns-clause-keeps : goal.returns-clause-keeps
returns-clause-keeps g c =
    going_keeps _ _ _ _ c.args.self.now.ended c.loop.self.ended c.if-self.false c.loop.invariant.2 c.loop.invariant.0

pub returns-clause-takes : goal.returns-clause-takes
returns-clause-takes g c =
    going_taken _ _ _ _ c.args.self.now.ended c.loop.self.ended c.if-self.false c.loop.invariant.2 c.loop.invariant.0
