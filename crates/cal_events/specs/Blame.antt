-- At which line a text of a time is refused, whose line may name a VTIMEZONE, and a calendar.
use Rattle.std.specs.Prelude.{◌≡◌, ◌⊎◌, ℕ, true, List, codes, None}
use Rattle.profile.specs.faults.Blame.{IsAt}
use Rattle.profile.specs.events.Properties.{is_of}
use Rattle.profile.specs.events.EventBlame.{EventsBlame, IsWrongTime, NamedBlame, names_zone}
use Rattle.profile.specs.series.ZoneBlame.{NumberedZone}
use Rattle.ical_tree.specs.Tree.{component_numbered, events_in, zones_in}
use Rattle.ical_tree.specs.declared.component.Component.{Component}
use Rattle.cal_events.specs.declared.zones.ZonesOfObject.{ZonesOfObject}

-- the VTIMEZONEs of the object whose zones they are
abbrev pub zones_of : ZonesOfObject → List NumberedZone
zones_of zones = zones_in zones.object.now

-- a text of a line is refused with this number at this line: at its own for what it is by itself, or as the VTIMEZONE that it names
abbrev pub TextBlame : List NumberedZone → ℕ × List ℕ → List ℕ → ℕ → ℕ → Type 0
TextBlame zones line text n at =
    ((at ≡ line.0) × IsWrongTime line.1 text n)
    ⊎ ((name : List ℕ) × names_zone name line.1 × NamedBlame zones line.0 name n at)

-- the line of this number names the zone of a room
abbrev pub IsZoneLine : List (ℕ × List ℕ) → ℕ → Type 0
IsZoneLine lines at = IsAt lines at (λ line. is_of (codes "X-ROOM-ZONE") line ≡ true)

-- a calendar is refused with this number at this line: at X-ROOM-ZONE, or as its VEVENTs are
abbrev pub CalendarBlame : Component → ℕ → ℕ → Type 0
CalendarBlame object n at =
    ((n ≡ 44) × IsZoneLine (component_numbered object) at) ⊎ EventsBlame None (zones_in object) (events_in object) n at
