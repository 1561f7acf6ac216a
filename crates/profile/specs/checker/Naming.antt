-- Which events of a calendar name a room, and whether the calendar is one of the room.
use Rattle.std.specs.Prelude.{◌≡◌, ◌||◌, ◌&&◌, ℕ, Bool, true, false, not, List, [], ◌∷◌, length, filter, is_some}
use Rattle.std.specs.List.{list_any}
use Rattle.profile.specs.checker.Calendars.{SpellsCalendar}
use Rattle.profile.specs.events.EventComponents.{EventComponent, answer_of, has_accepted}
use Rattle.profile.specs.events.Confirmed.{Confirmed}

-- an attendee of the event has the address of the room
abbrev pub names : List ℕ → EventComponent → Bool
names room event = is_some (answer_of room event)

-- the event names the room, which hasn't accepted it, and isn't cancelled
abbrev pub is_not_accepted : List ℕ → EventComponent → Bool
is_not_accepted room event = names room event && not (has_accepted room event) && not event.cancelled

-- how many of the events are so
abbrev pub not_accepted : List ℕ → List EventComponent → ℕ
not_accepted room events = length (filter (is_not_accepted room) events)

abbrev pub is_empty : List EventComponent → Bool
is_empty [] = true
is_empty (event ∷ events) = false

-- the events are those of a calendar of the room: one of them names it, or there is none, as an empty room keeps it
abbrev pub are_of_room : List ℕ → List EventComponent → Bool
are_of_room room events = is_empty events || list_any (names room) events

-- the octets are a calendar of the room, and so many of its events are neither accepted nor cancelled
pub record IsOfRoom (room octets : List ℕ) (count : ℕ) : Type 0 where
  pub confirmed : Confirmed
  pub spelled : SpellsCalendar room octets confirmed
  pub of_room : are_of_room room spelled.says.events ≡ true
  pub counted : count ≡ not_accepted room spelled.says.events

-- the octets are a calendar, but not one of the room: it has events, and none of them names it
pub record IsOfOthers (room octets : List ℕ) : Type 0 where
  pub confirmed : Confirmed
  pub spelled : SpellsCalendar room octets confirmed
  pub of_others : are_of_room room spelled.says.events ≡ false
