use Rattle.std.proofs.Common.{map, take}
use Rattle.cal_events.specs.Component.{attendee_of}
use Rattle.itip_messages.proofs.attendees_lemmas.CountedLines.{AreCounted}
use Rattle.itip_messages.proofs.attendees.counted_among.Given as goal

abbrev pub invariant-loop-line : goal.invariant-loop-line
invariant-loop-line l = AreCounted (map attendee_of (take l.line-index l.lines)) l.counted.items l.seen.keys
