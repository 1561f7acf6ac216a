-- The lines so far are noted.
use Rattle.std.proofs.Common.{[], List, map, take}
use Rattle.profile.specs.events.EventComponents as events
use Rattle.cal_events.specs.Component.{attendee_of}
use Rattle.organiser_books.specs.Attending.{AreNoted}
use Rattle.organiser_books.proofs.attending.note_all.Given as goal

abbrev pub invariant-loop-attendee : goal.invariant-loop-attendee
invariant-loop-attendee l = (done : List (List events.Attendee)) → AreNoted done l.place [] l.fn.attending.entries → AreNoted done l.place (map attendee_of (take l.attendee-index l.lines)) l.attending.entries
