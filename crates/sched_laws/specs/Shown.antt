-- What the texts of meetings show for rooms can be read there.
use Rattle.std.specs.Prelude.{List, ℕ, Contains}
use Rattle.profile.specs.checker.Calendars.{SpellsCalendarIn}
use Rattle.profile.specs.events.Confirmed.{Confirmed}
use Rattle.profile.specs.streams.Schedules.{IsText}
use Rattle.profile.specs.streams.Streams.{Hosted}
use Rattle.profile.specs.streams.Worlds.{World}

-- The text of a meeting, read in the zone of a room, is a calendar, of some series and singles that it confirms there: so what is said of each such calendar
-- is said of each text.
abbrev pub TextsAreCalendars : World → Type 0
TextsAreCalendars world =
    (room : Hosted) → Contains world.rooms room → (octets : List ℕ) → IsText world octets
    → (calendar : Confirmed) × SpellsCalendarIn room.zone room.address octets calendar
