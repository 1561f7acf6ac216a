-- The attendees of a meeting, as an organiser has them in memory. Components count here only as their ATTENDEE lines.
use Rattle.std.specs.Prelude.{◌≡◌, ℕ, ◌≤◌, ◌==◌, Bool, true, false, not, ◌||◌, ◌&&◌, if◌then◌else◌, List, ◌++◌, map, filter, Option, None, Some, is_some, option_map}
use Rattle.std.specs.List.{flat_map, list_any}
use Rattle.std.specs.Map.{lookup, keys_of}
use Rattle.std.specs.Str.{bytes_eq}
use Rattle.ical_values.specs.Octets.{address_octets}
use Rattle.ical_values.specs.declared.address.Address.{Address}
use Rattle.profile.specs.events.EventComponents.{Attendee, EventComponent}
use Rattle.profile.specs.events.Messages.{counted}
use Rattle.profile.specs.organisers.Organisers.{without}
use Rattle.profile.specs.rooms.Kept.{each_once}
use Rattle.itip_messages.specs.declared.message_component.MessageComponent.{MessageComponent}
use Rattle.organiser_books.specs.declared.attending.Attendance.{Attendance}

-- the ATTENDEE lines of each component
abbrev pub lists_of : List MessageComponent → List (List Attendee)
lists_of components = map (λ component. component.attendees) components

abbrev pub lists_said : List EventComponent → List (List Attendee)
lists_said events = map (λ event. event.attendees) events

abbrev pub addresses_in : List Attendee → List (List ℕ)
addresses_in lines = map (λ attendee. attendee.address) lines

-- one of the lines has the address
abbrev pub names : List ℕ → List Attendee → Bool
names address lines = list_any (λ a. bytes_eq a.address address) lines

-- the server is to send it messages, by the first of its lines
abbrev pub schedules_line : List ℕ → List Attendee → Bool
schedules_line address lines = list_any (λ attendee. bytes_eq attendee.address address && attendee.scheduled) (counted lines)

-- those of whom it is left to the server
abbrev pub scheduled_among : List (List Attendee) → List (List ℕ)
scheduled_among lists = filter (λ address. list_any (schedules_line address) lists) (each_once (flat_map addresses_in lists))

-- and without the organiser
abbrev pub sent_among : List ℕ → List (List Attendee) → List (List ℕ)
sent_among organiser lists = filter (λ address. not (bytes_eq address organiser)) (scheduled_among lists)

-- of those that the server sent messages by the first components, those who get a CANCEL and no REQUEST of the second: where these call the meeting
-- off whom it doesn't send messages by them, else whom they don't name
abbrev pub gone_among : Bool → List ℕ → List (List Attendee) → List (List Attendee) → List (List ℕ)
gone_among true organiser before lists = without (sent_among organiser before) (sent_among organiser lists)
gone_among false organiser before lists = without (sent_among organiser before) (each_once (flat_map addresses_in lists))

-- ---- in memory

abbrev pub Entries : Type 0
Entries = List (Address × Attendance)

-- the address has these octets
abbrev pub is_address : List ℕ → Address → Bool
is_address octets address = bytes_eq octets (address_octets address)

abbrev pub attendance_of : List ℕ → Entries → Option Attendance
attendance_of address entries = lookup (is_address address) entries

-- what is known of one who is an attendee of these components
pub record IsAttending (lists : List (List Attendee)) (address : List ℕ) (attendance : Attendance) : Type 0 where
  pub named : list_any (names address) lists ≡ true
  pub scheduled : attendance.scheduled ≡ list_any (schedules_line address) lists

abbrev pub Attends : List (List Attendee) → List ℕ → Option Attendance → Type 0
Attends lists address None = list_any (names address) lists ≡ false
Attends lists address (Some attendance) = IsAttending lists address attendance

-- these are the attendees of the components, each once, in order of first appearance
pub record AreAttending (lists : List (List Attendee)) (entries : Entries) : Type 0 where
  pub order : map address_octets (keys_of entries) ≡ each_once (flat_map addresses_in lists)
  pub each : (address : List ℕ) → Attends lists address (attendance_of address entries)

-- the same on the way: all lines of the components before a place were noted, and some of its own
pub record IsNoted (done : List (List Attendee)) (place : ℕ) (own : List Attendee) (address : List ℕ) (attendance : Attendance) : Type 0 where
  pub named : (list_any (names address) done || names address own) ≡ true
  pub scheduled : attendance.scheduled ≡ (list_any (schedules_line address) done || schedules_line address own)
  pub last : (attendance.component == place) ≡ names address own
  pub up_to : attendance.component ≤ place
  pub untold : attendance.told ≡ false

abbrev pub Noted : List (List Attendee) → ℕ → List Attendee → List ℕ → Option Attendance → Type 0
Noted done place own address None = (list_any (names address) done || names address own) ≡ false
Noted done place own address (Some attendance) = IsNoted done place own address attendance

pub record AreNoted (done : List (List Attendee)) (place : ℕ) (own : List Attendee) (entries : Entries) : Type 0 where
  pub order : map address_octets (keys_of entries) ≡ each_once (flat_map addresses_in done ++ addresses_in own)
  pub each : (address : List ℕ) → Noted done place own address (attendance_of address entries)

-- with one more line of the component in a place
abbrev pub noted_too : Attendance → ℕ → Bool → Attendance
noted_too known place scheduled = if known.component == place then known else record known { scheduled = known.scheduled || scheduled; component = place }

-- the server sends it messages, as is known in memory
abbrev pub is_sent_in : Option Attendance → Bool
is_sent_in None = false
is_sent_in (Some attendance) = attendance.scheduled

abbrev pub is_sent : List ℕ → Entries → Bool
is_sent address entries = is_sent_in (attendance_of address entries)

-- the attendee was sent a message, as is known in memory
abbrev pub is_told_in : Option Attendance → Bool
is_told_in None = false
is_told_in (Some attendance) = attendance.told

abbrev pub is_told : List ℕ → Entries → Bool
is_told address entries = is_told_in (attendance_of address entries)

-- none was yet
abbrev pub AreUntold : Entries → Type 0
AreUntold entries = (address : List ℕ) → is_told address entries ≡ false

abbrev pub told_too : Bool → Attendance → Attendance
told_too here attendance = record attendance { told = attendance.told || here }

-- the same after these were sent a message
pub record AreSentTo (to : List (List ℕ)) (before after : Entries) : Type 0 where
  pub order : keys_of after ≡ keys_of before
  pub each : (address : List ℕ) → attendance_of address after ≡ option_map (told_too (list_any (bytes_eq address) to)) (attendance_of address before)

-- it isn't the organiser
abbrev pub is_no_organiser : List ℕ → Address → Bool
is_no_organiser organiser address = not (bytes_eq (address_octets address) organiser)

-- those of them except the organiser
abbrev pub sent_in : List ℕ → Entries → List (List ℕ)
sent_in organiser entries = map (λ entry. address_octets entry.0) (filter (λ entry. entry.1.scheduled && is_no_organiser organiser entry.0) entries)

-- a store reaches the address, as is known in memory: where it calls the meeting off by a message of the server, else by naming it
abbrev pub is_reached : Bool → List ℕ → Entries → Bool
is_reached true address entries = is_sent address entries
is_reached false address entries = is_some (attendance_of address entries)

-- those of the first whom the server sent messages, and whom the second doesn't reach
abbrev pub gone_in : Bool → List ℕ → Entries → Entries → List (List ℕ)
gone_in called_off organiser last now =
    map (λ entry. address_octets entry.0)
    (filter (λ entry. (entry.1.scheduled && is_no_organiser organiser entry.0) && not (is_reached called_off (address_octets entry.0) now)) last)
