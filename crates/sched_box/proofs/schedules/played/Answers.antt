use Rattle.std.proofs.Common.{arith}
use Rattle.sched_box.proofs.ScheduleLemmas.{played_all, played_more, played_none}
use Rattle.sched_box.proofs.schedules.played.Goals as goal

pub loop-step-init : goal.loop-step-init
loop-step-init c = played_none c.args.rooms.now c.args.organisers.now c.in_ok-world.world c.in_ok-world.ensures

pub loop-step-preserved : goal.loop-step-preserved
loop-step-preserved c =
    played_more c.args.rooms.now c.args.organisers.now c.args.steps.now c.loop-step.step-index c.step-item.result c.loop-step.world c.take.new.self c.loop-step.invariant c.loop-step-test.true c.step-item.is
    c.in_ok-take.ensures

pub returns : goal.returns
returns c = played_all c.args.rooms.now c.args.organisers.now c.args.steps.now c.loop-step.step-index c.loop-step.world c.loop-step.invariant (omega (arith, c.loop-step-test.false))
