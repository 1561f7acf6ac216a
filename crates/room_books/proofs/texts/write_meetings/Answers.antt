-- One more meeting.
use Rattle.std.proofs.Common.{◌++◌, ◌∷◌, [], List, Bool, sym, subst}
use Rattle.indexmap.specs.IndexMap.{values}
use Rattle.ical_values.specs.Octets.{address_octets}
use Rattle.profile.specs.rooms.Revisions.{Part}
use Rattle.room_books.specs.Texts.{WritesEntries, kept_in, all_kept}
use Rattle.itip_messages.proofs.shared_lemmas.WrittenLines.{flat_push}
use Rattle.room_books.proofs.shared_lemmas.Loops.{walked}
use Rattle.room_books.proofs.texts_lemmas.Writing.{both_written}
use Rattle.room_books.proofs.texts.write_meetings.Goals as goal

pub loop-meeting-preserved : goal.loop-meeting-preserved
loop-meeting-preserved c =
    let i = c.loop-meeting.invariant in
    let room = address_octets c.args.room.now in
    let meeting = c.in-Some.meeting.now in (
      i.0 ++ meeting ∷ [],
      walked i.0 c.loop-meeting.meeting-iterator c.next.new.self (values c.args.meetings.now) meeting c.in-Some.ensures.steps i.1,
      subst (λ (l : List (Bool × Part)). WritesEntries room l c.args.zones.now c.write_meeting.new.zones c.args.object.now c.write_meeting.new.object) (sym (flat_push kept_in i.0 meeting))
          (both_written room (all_kept i.0) (kept_in meeting) c.args.zones.now c.loop-meeting.zones c.write_meeting.new.zones c.args.object.now c.loop-meeting.object c.write_meeting.new.object i.2 c.in_ok-write_meeting.ensures),
    )
