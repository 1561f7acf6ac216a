use Rattle.std.proofs.Common.{map}
use Rattle.cal_events.specs.Calendar.{instance_of}
use Rattle.cal_events.specs.SinglesLeft.{singles_left}
use Rattle.cal_agenda.proofs.Gathering.{AreSofar}
use Rattle.cal_agenda.proofs.of_singles.of_singles.Given as goal

abbrev pub invariant-loop-single : goal.invariant-loop-single
invariant-loop-single l = AreSofar l.span.start l.span.end l.calendar.singles (singles_left l.single-iterator) (map instance_of l.found.items)
