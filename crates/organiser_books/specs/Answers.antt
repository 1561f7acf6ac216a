-- What an organiser has in memory of its attendees' answers to the last store of a meeting.
use Rattle.std.specs.Prelude.{ℕ, Bool, if◌then◌else◌, Option, None, Some}
use Rattle.std.specs.Ordering.{is_le, nat_cmp, int_cmp, ordering_then}
use Rattle.std.specs.declared.cmp.Ordering.{Ordering}
use Rattle.cal_events.specs.Component.{participation_of}
use Rattle.profile.specs.rooms.Revisions.{Slot, Whole, At}
use Rattle.profile.specs.organisers.Organisers.{rank}
use Rattle.organiser_books.specs.declared.answers.AttendeeAnswer.{AttendeeAnswer}
use Rattle.organiser_books.specs.declared.answers.AnswerKey.{AnswerKey}
use Rattle.itip_order.specs.declared.part.Slot.{Slot as OwnSlot}
use Rattle.itip_order.specs.declared.part.Slot.TheVariants as slots
use Rattle.organiser_books.specs.contracts.answers.AnswerKeyPartialEq.TheImpl as keys

-- two keys are one
abbrev pub same_answer_key : AnswerKey → AnswerKey → Bool
same_answer_key = keys.eq-value.it

abbrev pub slot_key : Slot → OwnSlot
slot_key Whole = slots.Whole
slot_key (At instant) = slots.At instant

abbrev pub answer_key_at : ℕ → Slot → AnswerKey
answer_key_at place slot = record { attendee = place; slot = slot_key slot }

-- by DTSTAMP, and then by rank
abbrev pub answer_cmp : AttendeeAnswer → AttendeeAnswer → Ordering
answer_cmp a b = ordering_then (int_cmp a.stamp b.stamp) (nat_cmp (rank (participation_of a.status)) (rank (participation_of b.status)))

-- the later of what is there and another one
abbrev pub later_answer : Option AttendeeAnswer → AttendeeAnswer → AttendeeAnswer
later_answer None new = new
later_answer (Some held) new = if is_le (answer_cmp new held) then held else new
