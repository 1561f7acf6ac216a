-- Which rooms of a box need not take a message, as it isn't for them.
use Rattle.std.specs.Prelude.{◌≡◌, ℕ, Bool, true, false, List, [], ◌∷◌, ◌++◌, map, get_or}
use Rattle.std.specs.List.{list_any}
use Rattle.std.specs.Str.{bytes_eq}
use Rattle.cal_events.specs.declared.component.Attendee.{Attendee}
use Rattle.ical_values.specs.Octets.{address_octets}
use Rattle.itip_messages.specs.Message.{is_component_for}
use Rattle.itip_messages.specs.declared.message.Message.{Message}
use Rattle.sched_box.specs.declared.directory.Directory.{Directory}

-- the addresses of the hosts, in their order
abbrev pub directory_addresses : Directory → List (List ℕ)
directory_addresses directory = map address_octets directory.addresses.keys

-- the address is new, and was added to the others; or it is there, and nothing changes
abbrev pub AddsAddress : List (List ℕ) → List (List ℕ) → List ℕ → Bool → Type 0
AddsAddress old new address true = (list_any (bytes_eq address) old ≡ false) × (new ≡ old ++ address ∷ [])
AddsAddress old new address false = (list_any (bytes_eq address) old ≡ true) × (new ≡ old)

-- where a room's flag is off, its address fails the test
abbrev pub LeavesOut : (List ℕ → Bool) → List (List ℕ) → List Bool → Type 0
LeavesOut test addresses flags = (place : ℕ) → get_or flags place true ≡ false → test (get_or addresses place []) ≡ false

-- an attendee has the room's address
abbrev pub names : List Attendee → List ℕ → Bool
names attendees room = list_any (λ attendee. bytes_eq (address_octets attendee.address) room) attendees

-- the message is for the room
abbrev pub asks : Message → List ℕ → Bool
asks message room = list_any (is_component_for room message) message.components.items
