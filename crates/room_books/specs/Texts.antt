-- What is written of what a room keeps.
use Rattle.std.specs.Prelude.{◌≡◌, ◌↔◌, ℕ, Bool, true, false, not, List, [], ◌∷◌, ◌++◌, ◌&&◌, codes, decimal, filter, length, map, if◌then◌else◌, Option}
use Rattle.std.specs.List.{flat_map, list_any, AllZip}
use Rattle.std.specs.Option.{option_to_list}
use Rattle.std.specs.Ordering.{is_eq}
use Rattle.itip_order.specs.declared.part.Slot.{Slot}
use Rattle.itip_order.specs.Parts.{slot_of}
use Rattle.itip_order.specs.Registers.{shown}
use Rattle.profile.specs.rooms.Revisions as revisions
use Rattle.profile.specs.rooms.Revisions.{Part, is_whole, same_meeting, slot_cmp}
use Rattle.profile.specs.rooms.Messages.{TellsSlot}
use Rattle.profile.specs.series.Zones.{Zone}
use Rattle.profile.specs.text.Values.{WritesStamp, escaped}
use Rattle.profile.specs.checker.Calendars.{SpellsCalendar}
use Rattle.profile.specs.checker.Instances.{Instance}
use Rattle.profile.specs.events.Confirmed.{Confirmed, IsOneOf}
use Rattle.profile.specs.rooms.Rooms.{Claim, PartAnswer as SaidAnswer, Book, Confirms, confirmed_series, confirmed_singles, is_accept, is_confirmed, is_set}
use Rattle.profile.specs.rooms.Kept.{first_parts, Shown, Hidden, IsKeptCalendar, IsKeptEvent}
use Rattle.profile.specs.text.Lines.{written}
use Rattle.itip_messages.specs.Zones.{with_zones}
use Rattle.room_books.specs.declared.kept.Meeting.{Meeting}
use Rattle.room_books.specs.declared.meeting.MeetingKey.{MeetingKey}
use Rattle.room_books.specs.declared.meeting.PartAnswer.{PartAnswer}
use Rattle.profile.specs.streams.Streams.{IsReached}
use Rattle.room_books.specs.Room.{IsBodyText, SlotDated, Represents}
use Rattle.room_books.specs.Taking.{body_content}
use Rattle.room_books.specs.Meeting.{outcome_of}

-- ---- by the book

-- the confirmed answers of the meeting of a part
abbrev pub kept_entries_of : Book → Part → List SaidAnswer
kept_entries_of book p = filter (λ a. same_meeting p a.claim.part && is_confirmed book.taken a) book.answers

-- the confirmed answers of these parts' meetings, in their order
abbrev pub kept_parts : Book → List Part → List SaidAnswer
kept_parts book parts = flat_map (kept_entries_of book) parts

-- the confirmed answers, the meetings in order of first arrival
abbrev pub kept : Book → List SaidAnswer
kept book = kept_parts book (first_parts book.taken)

-- the claims that they answer
abbrev pub claims_of : List SaidAnswer → List Claim
claims_of answers = map (λ a. a.claim) answers

-- the calendar spells what the book confirms: as many singles, as many series, and the same instances
pub record SpellsConfirmed (room : List ℕ) (book : Book) (calendar : List ℕ) : Type 0 where
  pub all : Confirmed
  pub spells : SpellsCalendar room calendar all
  pub singles : length all.singles ≡ length (confirmed_singles book)
  pub series : length all.series ≡ length (confirmed_series book)
  pub exact : (booked : Instance) → IsOneOf all booked ↔ Confirms book booked

-- the meetings of a room of this zone represent a book that some messages lead to, and the calendar spells exactly what it confirms
pub record KeepsReached (room : List ℕ) (zone : Option Zone) (entries : List (MeetingKey × Meeting)) (calendar : List ℕ) : Type 0 where
  pub book : Book
  pub reached : IsReached room zone book
  pub represents : Represents entries book
  pub spells : SpellsConfirmed room book calendar

-- the octets are the kept calendar of each book that the meetings of a room represent
abbrev pub IsKeptBy : List ℕ → List ℕ → List (MeetingKey × Meeting) → List ℕ → Type 0
IsKeptBy room words entries calendar = (book : Book) → Represents entries book → IsKeptCalendar room words book calendar

-- ---- by the meetings

-- the slots of those that accept
abbrev pub accepted_slots : List PartAnswer → List Slot
accepted_slots answers = map (λ given. given.slot) (filter (λ given. is_accept (outcome_of given.outcome)) answers)

abbrev pub has_slot : List Slot → revisions.Slot → Bool
has_slot slots slot = list_any (λ own. is_eq (slot_cmp (slot_of own) slot)) slots

-- the meeting has accepted the part of this slot
abbrev pub has_accepted_part : Meeting → Part → Bool
has_accepted_part meeting part = has_slot (accepted_slots meeting.answers.items) part.slot

-- the meeting has accepted its whole, so that its other instances in the view are kept to hide those of it
abbrev pub is_hiding : Meeting → Bool
is_hiding meeting = has_slot (accepted_slots meeting.answers.items) revisions.Whole

-- what is kept of a part: the part as it is shown (true), or as it hides an instance (false), or nothing
abbrev pub kept_entry_of : Bool → Bool → Part → List (Bool × Part)
kept_entry_of hides shown part = if shown then (true, part) ∷ [] else (if hides && not (is_whole part) then (false, part) ∷ [] else [])

-- what is kept of the parts in the meeting's view, by their slots
abbrev pub kept_in : Meeting → List (Bool × Part)
kept_in meeting = flat_map (λ part. kept_entry_of (is_hiding meeting) (has_accepted_part meeting part) part) (shown meeting.held)

-- of these meetings, in their order
abbrev pub all_kept : List Meeting → List (Bool × Part)
all_kept meetings = flat_map kept_in meetings

-- the zone that what is kept of a part needs
abbrev pub zone_of_entry : Bool × Part → List (List ℕ)
zone_of_entry (true, part) = option_to_list (body_content part.body).zone
zone_of_entry (false, part) = []

-- ---- what is written

-- the lines are those of the VEVENT that is kept of it, where these are the zones: of any claim of a part that is shown, where that is to take
-- place
abbrev pub IsEntryEvent : List ℕ → List (List ℕ) → Bool × Part → List (List ℕ) → Type 0
IsEntryEvent room zones (true, part) lines =
    (claim : Claim) → claim.part ≡ part → claim.content ≡ body_content part.body → is_set part ≡ true → IsBodyText part.body → SlotDated part.slot
    → IsKeptEvent room zones (Shown claim) lines
IsEntryEvent room zones (false, part) lines = SlotDated part.slot → IsKeptEvent room zones (Hidden part) lines

-- new is old and after it, written, the lines that say which part it is
pub record WritesHead (part : Part) (old new : List ℕ) : Type 0 where
  pub slot : List (List ℕ)
  pub stamp : List ℕ
  pub tells : SlotDated part.slot → TellsSlot part.slot slot
  pub stamped : WritesStamp stamp part.revision.stamp
  pub is : new ≡ old ++ written ((codes "BEGIN:VEVENT" ∷ (codes "UID:" ++ escaped part.uid) ∷ slot) ++ ((codes "SEQUENCE:" ++ decimal part.revision.sequence) ∷ (codes "DTSTAMP:" ++ stamp) ∷ []))

-- the zones of these are after the zones if they are new; and new is old and after it, written, a VEVENT for each of these
pub record WritesEntries (room : List ℕ) (entries : List (Bool × Part)) (zones_old zones_new : List (List ℕ)) (old new : List ℕ) : Type 0 where
  pub zones : zones_new ≡ with_zones zones_old (flat_map zone_of_entry entries)
  pub events : List (List (List ℕ))
  pub each : AllZip (IsEntryEvent room zones_new) entries events
  pub is : new ≡ old ++ written (flat_map (λ lines. lines) events)
