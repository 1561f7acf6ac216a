-- The meetings so far are written.
use Rattle.std.proofs.Common.{◌≡◌, ◌++◌, List}
use Rattle.indexmap.specs.IndexMap.{values}
use Rattle.ical_values.specs.Octets.{address_octets}
use Rattle.room_books.specs.declared.kept.Meeting.{Meeting}
use Rattle.room_books.specs.Texts.{WritesEntries, all_kept}
use Rattle.room_books.proofs.texts.write_meetings.Given as goal

abbrev pub invariant-loop-meeting : goal.invariant-loop-meeting
invariant-loop-meeting l = (done : List Meeting) × (done ++ l.meeting-iterator ≡ values l.meetings) × WritesEntries (address_octets l.room) (all_kept done) l.fn.zones l.zones l.fn.object l.object
