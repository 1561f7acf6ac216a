-- What a room writes, as octets: its replies and refreshes, its kept calendar and the certificate for it.
use Rattle.std.specs.Prelude.{◌≡◌, ◌≢◌, ℕ, ℤ, Bool, true, false, not, ◌==◌, ◌↔◌, IsTrue, List, [], ◌∷◌, ◌++◌, length, map, filter, take, drop, if◌then◌else◌, ◌+◌, ◌<◌, ◌^◌, codes, decimal, Contains, AllPairs, Option, Some, None}
use Rattle.std.specs.Option.{option_to_list}
use Rattle.std.specs.List.{flat_map, AllZip, slice_get}
use Rattle.std.specs.Str.{bytes_eq}
use Rattle.profile.specs.text.Lines.{written}
use Rattle.profile.specs.text.Values.{WritesStamp, escaped}
use Rattle.profile.specs.checker.Calendars.{SpellsCalendar}
use Rattle.profile.specs.checker.Certificates.{Claims, IsCertificateWritten, SpellsCertificate}
use Rattle.profile.specs.events.Confirmed.{Confirmed}
use Rattle.profile.specs.rooms.Revisions.{Part, Slot, At, in_view, is_whole, same_meeting, slot_cmp}
use Rattle.std.specs.declared.cmp.Ordering.TheVariants.{Less}
use Rattle.profile.specs.rooms.Messages.{IsReplyEvent, IsRefreshEvent, TellsSlot, zone_text, object_lines, opening_lines}
use Rattle.profile.specs.rooms.Rooms.{Claim, PartAnswer, Book, is_confirmed, shown, wants_whole, answers_part}

-- ---- replies

-- the lines show the answer that the book has to this part
pub record ShowsAnswer (room : List ℕ) (book : Book) (claim : Claim) (lines : List (List ℕ)) : Type 0 where
  pub answer : PartAnswer
  pub kept : Contains book.answers answer
  pub of_part : answers_part claim.part answer ≡ true
  pub shows : IsReplyEvent room claim.part answer.moment answer.outcome lines

-- the reply to a message with these parts, where this is the book after it: a VEVENT for each part that is shown
pub record IsReply (room : List ℕ) (book : Book) (claims : List Claim) (octets : List ℕ) : Type 0 where
  pub events : List (List (List ℕ))
  pub each : AllZip (ShowsAnswer room book) (shown book.taken claims) events
  pub is : octets ≡ written (object_lines (Some (codes "REPLY")) (flat_map (λ lines. lines) events))

-- a reply comes exactly where a part is shown
abbrev pub Replies : List ℕ → Book → List Claim → Option (List ℕ) → Type 0
Replies room book claims None = shown book.taken claims ≡ []
Replies room book claims (Some octets) = IsTrue (not (length (shown book.taken claims) == 0)) × IsReply room book claims octets

-- ---- refreshes

-- the octets ask, at a moment, for the meeting of one of these claims
pub record IsRefresh (room : List ℕ) (claims : List Claim) (moment : ℤ) (octets : List ℕ) : Type 0 where
  pub claim : Claim
  pub of_them : Contains claims claim
  pub lines : List (List ℕ)
  pub shows : IsRefreshEvent room claim.part.organiser claim.part.uid moment lines
  pub is : octets ≡ written (object_lines (Some (codes "REFRESH")) lines)

-- a refresh comes exactly where the whole meeting is wanted, where these parts were taken before a message with these claims and after it
abbrev pub Refreshes : List ℕ → Bool → List Part → List Part → List Claim → ℤ → Option (List ℕ) → Type 0
Refreshes room adds before after claims moment None = wants_whole adds before after claims ≡ false
Refreshes room adds before after claims moment (Some octets) = (wants_whole adds before after claims ≡ true) × IsRefresh room claims moment octets

-- ---- the kept calendar

-- the first part taken of each meeting, in order
abbrev pub first_parts : List Part → List Part
first_parts [] = []
first_parts (p ∷ ps) = p ∷ filter (λ other. not (same_meeting p other)) (first_parts ps)

-- what is in a kept calendar: a part that was accepted, as its message claimed it; or a part of one instance that wasn't accepted, which
-- hides that instance of the whole
pub data KeptComponent : Type 0 where
  Shown : Claim → KeptComponent
  Hidden : Part → KeptComponent

abbrev pub part_kept : KeptComponent → Part
part_kept (Shown claim) = claim.part
part_kept (Hidden part) = part

-- the room keeps the claim of the meeting that the first part is of: the claim's part is in the view, and was accepted
pub record IsKept (book : Book) (first : Part) (claim : Claim) : Type 0 where
  pub of_meeting : same_meeting first claim.part ≡ true
  pub answer : PartAnswer
  pub given : Contains book.answers answer
  pub to : answer.claim ≡ claim
  pub confirms : is_confirmed book.taken answer ≡ true

-- the part of one instance of that meeting is in the view and wasn't accepted: it is declined, absent or cancelled. It is kept where the
-- whole of the meeting is
pub record IsKeptHidden (book : Book) (first part : Part) : Type 0 where
  pub of_meeting : same_meeting first part ≡ true
  pub viewed : in_view book.taken part ≡ true
  pub instance : is_whole part ≡ false
  pub not_accepted : (claim : Claim) → IsKept book first claim → claim.part ≢ part
  pub whole : Claim
  pub kept : IsKept book first whole
  pub is_whole : is_whole whole.part ≡ true

abbrev pub IsKeptComponent : Book → Part → KeptComponent → Type 0
IsKeptComponent book first (Shown claim) = IsKept book first claim
IsKeptComponent book first (Hidden part) = IsKeptHidden book first part

-- these are all that it keeps of that meeting, by their slots
pub record AreKeptOf (book : Book) (first : Part) (entries : List KeptComponent) : Type 0 where
  pub exact : (entry : KeptComponent) → Contains entries entry ↔ IsKeptComponent book first entry
  pub order : AllPairs (λ a b. slot_cmp (part_kept a).slot (part_kept b).slot ≡ Less) entries

-- these are all that it keeps, the meetings in order of first arrival
pub record AreKept (book : Book) (entries : List KeptComponent) : Type 0 where
  pub by_meeting : List (List KeptComponent)
  pub each : AllZip (AreKeptOf book) (first_parts book.taken) by_meeting
  pub are : entries ≡ flat_map (λ c. c) by_meeting

-- the lines of a VEVENT of the kept calendar: its part's, what says when it is, and the room as its one attendee, who has answered so
pub record IsEventOf (room : List ℕ) (part : Part) (content : List (List ℕ)) (answer : List ℕ) (lines : List (List ℕ)) : Type 0 where
  pub slot : List (List ℕ)
  pub stamp : List ℕ
  pub tells_slot : TellsSlot part.slot slot
  pub written_stamp : WritesStamp stamp part.revision.stamp
  pub is : lines ≡ (codes "BEGIN:VEVENT" ∷ (codes "UID:" ++ escaped part.uid) ∷ slot)
      ++ ((codes "SEQUENCE:" ++ decimal part.revision.sequence) ∷ (codes "DTSTAMP:" ++ stamp) ∷ [])
      ++ content
      ++ ((codes "ORGANIZER:" ++ part.organiser) ∷ (codes "ATTENDEE;PARTSTAT=" ++ answer ++ codes ":" ++ room) ∷ codes "END:VEVENT" ∷ [])

-- ---- its zones

-- a line that begins so begins with this in its place
abbrev pub renamed : List ℕ → List ℕ → List ℕ → List ℕ
renamed old new line = if bytes_eq (take (length old) line) old then new ++ drop (length old) line else line

-- the zone that an entry needs
abbrev pub zone_kept : KeptComponent → List (List ℕ)
zone_kept (Shown claim) = option_to_list claim.content.zone
zone_kept (Hidden part) = []

-- these, each once, in order of first use
abbrev pub each_once : List (List ℕ) → List (List ℕ)
each_once [] = []
each_once (zone ∷ zones) = zone ∷ filter (λ other. not (bytes_eq zone other)) (each_once zones)

abbrev pub zones_kept : List KeptComponent → List (List ℕ)
zones_kept entries = each_once (flat_map zone_kept entries)

-- the name of the zone at a place, counted from 0: Z1, Z2, ..
abbrev pub kept_zone_name : ℕ → List ℕ
kept_zone_name place = codes "Z" ++ decimal (place + 1)

-- the octets of zones, each under the name of its place; the places begin here
abbrev pub zone_texts : ℕ → List (List ℕ) → List ℕ
zone_texts place [] = []
zone_texts place (zone ∷ zones) = zone_text (kept_zone_name place) zone ++ zone_texts (place + 1) zones

-- the zone of a content has this name among these; without a zone no name counts
abbrev pub IsNamed : List (List ℕ) → Option (List ℕ) → List ℕ → Type 0
IsNamed zones None name = Unit {0}
IsNamed zones (Some zone) name = (place : ℕ) × (slice_get zones place ≡ Some zone) × (name ≡ kept_zone_name place)

-- ---- its VEVENTs

-- nothing at that instant, and cancelled
pub record HidesSlot (slot : Slot) (content : List (List ℕ)) : Type 0 where
  pub instant : ℤ
  pub at : slot ≡ At instant
  pub text : List ℕ
  pub written : WritesStamp text instant
  pub is : content ≡ (codes "DTSTART:" ++ text) ∷ codes "DURATION:PT0S" ∷ codes "STATUS:CANCELLED" ∷ []

-- the VEVENT of an entry, where these are the zones of the calendar
abbrev pub IsKeptEvent : List ℕ → List (List ℕ) → KeptComponent → List (List ℕ) → Type 0
IsKeptEvent room zones (Shown claim) lines =
    (name : List ℕ) × IsNamed zones claim.content.zone name
    × IsEventOf room claim.part (map (renamed (codes "DTSTART;TZID=Z") (codes "DTSTART;TZID=" ++ name)) claim.content.lines) (codes "ACCEPTED") lines
IsKeptEvent room zones (Hidden part) lines = (content : List (List ℕ)) × HidesSlot part.slot content × IsEventOf room part content (codes "DECLINED") lines

-- the line that names the zone of its room, by these words; none for UTC
abbrev pub room_zone_lines : List ℕ → List (List ℕ)
room_zone_lines words = if bytes_eq words (codes "+0000") then [] else (codes "X-ROOM-ZONE:" ++ words) ∷ []

-- the octets are the kept calendar of a room whose zone has these words: its zones, and then its VEVENTs. Numbers below 2 ^ 64 name the zones
pub record IsKeptCalendar (room words : List ℕ) (book : Book) (octets : List ℕ) : Type 0 where
  pub entries : List KeptComponent
  pub kept : AreKept book entries
  pub few : length (zones_kept entries) < 2 ^ 64
  pub events : List (List (List ℕ))
  pub each : AllZip (IsKeptEvent room (zones_kept entries)) entries events
  pub is : octets ≡ written (opening_lines None ++ room_zone_lines words) ++ zone_texts 0 (zones_kept entries)
      ++ written (flat_map (λ lines. lines) events ++ codes "END:VCALENDAR" ∷ [])

-- the certificate for it: the one that is written for what the calendar spells
pub record IsKeptCertificate (room calendar certificate : List ℕ) : Type 0 where
  pub confirmed : Confirmed
  pub spells : SpellsCalendar room calendar confirmed
  pub c : Claims
  pub is : IsCertificateWritten confirmed c
  pub text : SpellsCertificate certificate c
