-- Events in a room: times that aren't fixed are read on the room's clocks (RFC 5545 3.3.4, 3.3.5, form 1). A room's zone is None where it goes by
-- UTC, whose clocks show such times as they are written: so there an event is as its lines say it.
use Rattle.std.specs.Prelude.{◌≡◌, ◌&&◌, Bool, true, option_map, unwrap_or, ℕ, List, Option, ℤ}
use Rattle.std.specs.List.{list_all, AllZip}
use Rattle.profile.specs.text.Trees.{Tree}
use Rattle.profile.specs.series.Zones.{Zone, Means}
use Rattle.profile.specs.events.Properties.{Form, Fixed, Floating, WholeDay, is_fixed, BothOrNeither}
use Rattle.profile.specs.events.ZonedTimes.{clock_of}
use Rattle.profile.specs.events.Occurrences.{Time}
use Rattle.profile.specs.events.EventComponents.{Method, EventComponent, SaysEventComponent}

-- the instant of a time of this form in a room of this zone: where it isn't fixed, what its local time means there
abbrev pub IsInstantIn : Option Zone → Form → ℤ → ℤ → Type 0
IsInstantIn room Fixed time instant = instant ≡ time
IsInstantIn room Floating local instant = Means (clock_of room) local instant
IsInstantIn room WholeDay local instant = Means (clock_of room) local instant

abbrev pub IsAt : Option Zone → Time → ℤ → Type 0
IsAt room time instant = IsInstantIn room time.form time.instant instant

-- the clocks that show a start of this form there
abbrev pub zone_in : Option Zone → Form → Option Zone → Option Zone
zone_in room Fixed zone = zone
zone_in room Floating _ = room
zone_in room WholeDay _ = room

-- the event as it is in a room of this zone: the instants of all its times are those there
pub record IsPlaced (room : Option Zone) (event placed : EventComponent) : Type 0 where
  pub start : ℤ
  pub recurrence : Option ℤ
  pub additions : List ℤ
  pub exceptions : List ℤ
  pub starts : IsInstantIn room event.times.form event.times.start start
  pub slot : BothOrNeither (IsAt room) event.written.recurrence recurrence
  pub adds : AllZip (IsAt room) event.written.additions additions
  pub takes : AllZip (IsAt room) event.written.exceptions exceptions
  pub is : placed ≡ record event {
    recurrence = recurrence;
    times = record event.times { zone = zone_in room event.times.form event.times.zone; start = start };
    additions = additions;
    exceptions = exceptions;
  }

-- the lines of a VEVENT of an object of this METHOD, or of none, say this event in a room of this zone
abbrev pub SaysPlaced : Option Zone → Tree → Option Method → List (List ℕ) → EventComponent → Type 0
SaysPlaced room object method lines placed =
    (event : EventComponent) × SaysEventComponent object method lines event × IsPlaced room event placed

-- each of its times is fixed: it is the same event in each room
abbrev pub is_all_fixed : EventComponent → Bool
is_all_fixed event =
    is_fixed event.times.form && unwrap_or (option_map (λ time. is_fixed time.form) event.written.recurrence) true
    && list_all (λ time. is_fixed time.form) event.written.additions && list_all (λ time. is_fixed time.form) event.written.exceptions
