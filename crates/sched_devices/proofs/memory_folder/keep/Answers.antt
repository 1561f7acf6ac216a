use Rattle.sched_devices.proofs.HeldPast.{elapses_to}
use Rattle.sched_devices.proofs.memory_folder.keep.Goals as goal

pub returns-clause-time : goal.returns-clause-time
returns-clause-time c =
    elapses_to c.args.past.now.items c.push.new.self.items c.in_ok-content.content c.args.files.now c.args.files.now c.in_ok-content.ensures c.in_ok-push.ensures.items

pub returns-clause-change : goal.returns-clause-change
returns-clause-change c next =
    elapses_to c.args.past.now.items c.push.new.self.items c.in_ok-content.content c.args.files.now next c.in_ok-content.ensures c.in_ok-push.ensures.items
