use Rattle.cal_events.specs.Calendar.{instance_of}
use Rattle.cal_agenda.proofs.PublishLemmas.{next_event, all_events}
use Rattle.cal_agenda.proofs.published.write_events.Goals as goal

pub loop-instance-preserved : goal.loop-instance-preserved
loop-instance-preserved c =
    let (own, is, grown) = c.in_ok-write_event.ensures in
    next_event c.args.moment instance_of c.args.instances.now c.loop-instance.instance-index _ c.args.out.now.items c.loop-instance.out.items c.write_event.new.out.items own
    c.loop-instance-test.true is grown c.loop-instance.invariant

pub returns : goal.returns
returns c = all_events c.args.moment instance_of c.args.instances.now c.loop-instance.instance-index c.args.out.now.items _ c.loop-instance-test.false c.loop-instance.invariant
