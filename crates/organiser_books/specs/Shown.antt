-- The ATTENDEE lines of what an organiser shows.
use Rattle.std.specs.Prelude.{◌≡◌, ℕ, List, ◌++◌, codes}
use Rattle.profile.specs.events.EventComponents.{Attendee}
use Rattle.profile.specs.rooms.Revisions.{Slot}
use Rattle.profile.specs.organisers.Organisers.{participation_word, sent_status}
use Rattle.organiser_books.specs.declared.meeting.StoredMeeting.{StoredMeeting}
use Rattle.organiser_books.specs.declared.shown.Shown.{Shown}
use Rattle.organiser_books.specs.Attending.{is_told}
use Rattle.organiser_books.specs.Representation.{answer_in, answered}

-- the line shows what an organiser's meeting has in memory of an attendee of this slot
abbrev pub ShowsAnswered : StoredMeeting → Slot → Attendee → List ℕ → Type 0
ShowsAnswered meeting slot attendee line =
    line ≡ codes "ATTENDEE;PARTSTAT=" ++ participation_word (answered (answer_in meeting slot attendee.address))
    ++ sent_status (is_told attendee.address meeting.attending.entries) ++ codes ":" ++ attendee.address

-- the same of a meeting that is shown
abbrev pub ShowsAttendee : Shown → Slot → Attendee → List ℕ → Type 0
ShowsAttendee shown = ShowsAnswered shown.meeting.now
