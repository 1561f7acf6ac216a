use Rattle.std.proofs.Common.{map}
use Rattle.cal_events.specs.Calendar.{instance_of}
use Rattle.cal_events.specs.SinglesLeft.{singles_left}
use Rattle.cal_agenda.proofs.Gathering.{one_more}
use Rattle.cal_agenda.proofs.of_singles.of_singles.Goals as goal

pub loop-single-preserved : goal.loop-single-preserved
loop-single-preserved c =
    one_more c.args.span.start c.args.span.end c.args.calendar.now.singles (singles_left c.loop-single.single-iterator) (singles_left c.next.new.self) (map instance_of c.loop-single.found.items)
    (map instance_of c.keep.new.found.items) (instance_of c.in-Some.single) c.singles-single-items.ensures.keys c.in-Some.ensures.steps c.loop-single.invariant c.in_ok-keep.ensures
