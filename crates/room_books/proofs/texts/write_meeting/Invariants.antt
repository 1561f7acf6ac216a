-- What is kept of the parts so far is written.
use Rattle.std.proofs.Common.{◌≡◌, ◌++◌, List}
use Rattle.std.specs.List.{flat_map}
use Rattle.ical_values.specs.Octets.{address_octets}
use Rattle.itip_order.specs.Registers.{shown}
use Rattle.profile.specs.rooms.Revisions.{Part}
use Rattle.room_books.specs.Texts.{WritesEntries, kept_entry_of, has_slot}
use Rattle.room_books.proofs.texts.write_meeting.Given as goal

abbrev pub invariant-loop-part : goal.invariant-loop-part
invariant-loop-part l =
    (done : List Part) × (done ++ l.part-iterator ≡ shown l.meeting.held)
    × WritesEntries (address_octets l.room) (flat_map (λ part. kept_entry_of l.hides (has_slot l.accepted.items part.slot) part) done) l.fn.zones l.zones l.fn.object l.object
