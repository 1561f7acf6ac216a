-- What the types of a reply represent, and what is written of them.
use Rattle.std.specs.Prelude.{◌≡◌, ℕ, List, ◌++◌, codes, Option, Some, None, ℤ}
use Rattle.std.specs.List.{flat_map, AllZip}
use denote.Ref.{Bor}
use Rattle.profile.specs.text.Lines.{folded, written}
use Rattle.profile.specs.text.Values.{WritesStamp}
use Rattle.profile.specs.checker.Instances.{Key}
use Rattle.profile.specs.rooms.Revisions as revisions
use Rattle.profile.specs.rooms.Messages as messages
use Rattle.ical_values.specs.Octets.{text_octets, address_octets}
use Rattle.itip_messages.specs.declared.reply.ConflictKey.{ConflictKey}
use Rattle.itip_messages.specs.declared.reply.Conflict.{Conflict}
use Rattle.itip_messages.specs.declared.reply.Decision.{Decision}
use Rattle.itip_messages.specs.declared.reply.Decision.TheVariants.{Accepted, Busy, SeriesLimit, SinglesLimit}
use Rattle.itip_messages.specs.declared.reply.ReplyEvent.{ReplyEvent}

-- the octets of a borrowed text
abbrev pub text_now : Bor (List ℕ) → List ℕ
text_now text = text.now

-- a written line of a name with its colon, and a stamp of this instant
abbrev pub IsWrittenStampLine : List ℕ → ℤ → List ℕ → Type 0
IsWrittenStampLine name instant octets = (text : List ℕ) × WritesStamp text instant × (octets ≡ folded (name ++ text))

abbrev pub conflict_key : ConflictKey → Key
conflict_key key = record { organiser = key.organiser.now; uid = key.uid.now; slot = key.slot }

-- a decline for these two instances
abbrev pub busy : Conflict → messages.Outcome
busy conflict = messages.Busy (conflict_key conflict.first) (conflict_key conflict.second) conflict.instant

-- the conflict is of these instances, at this instant
abbrev pub IsConflict : ℤ → Key → Key → Conflict → Type 0
IsConflict instant first second conflict =
    (conflict.instant ≡ instant) × (conflict_key conflict.first ≡ first) × (conflict_key conflict.second ≡ second)

abbrev pub decision_outcome : Decision → messages.Outcome
decision_outcome Accepted = messages.Accept
decision_outcome (Busy conflict) = busy conflict
decision_outcome SeriesLimit = messages.SeriesLimit
decision_outcome SinglesLimit = messages.SinglesLimit

-- one instance, or the whole meeting
abbrev pub slot_at : Option ℤ → revisions.Slot
slot_at None = revisions.Whole
slot_at (Some instant) = revisions.At instant

-- new is old and lines of that kind after it, written
abbrev pub WritesLines : List ℕ → List ℕ → (List (List ℕ) → Type 0) → Type 0
WritesLines old new AreLines = (lines : List (List ℕ)) × AreLines lines × (new ≡ old ++ written lines)

-- the room's ATTENDEE line
abbrev pub attendee_line : ReplyEvent → List ℕ
attendee_line event =
    codes "ATTENDEE;PARTSTAT=" ++ messages.partstat (decision_outcome event.decision) ++ codes ":" ++ address_octets event.room.now

-- the event answers this part
pub record AnswersPart (event : ReplyEvent) (part : revisions.Part) : Type 0 where
  pub organiser : address_octets event.organiser.now ≡ part.organiser
  pub uid : text_octets event.uid.now ≡ part.uid
  pub slot : slot_at event.recurrence ≡ part.slot
  pub sequence : event.sequence ≡ part.revision.sequence

-- the lines of the event's VEVENT, to whichever part it answers
abbrev pub IsWrittenEvent : ReplyEvent → List (List ℕ) → Type 0
IsWrittenEvent event lines =
    (part : revisions.Part) → AnswersPart event part → messages.IsReplyEvent (address_octets event.room.now) part event.moment (decision_outcome event.decision) lines

-- new is old and the VEVENTs of these events after it, written
abbrev pub WritesEvents : List ReplyEvent → List ℕ → List ℕ → Type 0
WritesEvents events old new =
    (lines : List (List (List ℕ))) × AllZip IsWrittenEvent events lines × (new ≡ old ++ written (flat_map (λ event. event) lines))

-- the REPLY of these events
pub record IsReplyText (events : List ReplyEvent) (octets : List ℕ) : Type 0 where
  pub lines : List (List (List ℕ))
  pub each : AllZip IsWrittenEvent events lines
  pub is : octets ≡ written (messages.object_lines (Some (codes "REPLY")) (flat_map (λ event. event) lines))
