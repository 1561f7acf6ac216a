use Rattle.std.proofs.Common.{◌≡◌, map, take}
use Rattle.cal_events.specs.Calendar.{span_of}
use Rattle.cal_events.proofs.calendar.spans_of.Given as goal

abbrev pub invariant-loop-single : goal.invariant-loop-single
invariant-loop-single l = l.spans.items ≡ map span_of (take l.single-index l.singles)
