-- The clocks of a zone, as all that reckons with them needs them to be.
use Rattle.std.specs.Prelude.{ℤ, ◌+ℤ◌, ◌-ℤ◌, ◌≤ℤ◌, ◌<ℤ◌, pos}
use Rattle.profile.specs.series.Zones.{Zone, IsOffsetAt, IsOneOffset, IsOneMeaning, Means}
use Rattle.profile.specs.events.ZonedTimes.{clock_of}
use Rattle.profile.specs.events.EventComponents as profile

-- a local time more than half a day later means a later instant
abbrev pub IsAscending : Zone → Type 0
IsAscending zone = (a b t u : ℤ) → Means zone a t → Means zone b u → (a +ℤ pos 43_200) <ℤ b → t <ℤ u

-- the clocks of DTSTART's zone show a local time at one instant, and one that is more than half a day later at a later one
abbrev pub HasGoodClock : profile.EventComponent → Type 0
HasGoodClock event = IsOneMeaning (clock_of event.times.zone) × IsAscending (clock_of event.times.zone)

-- at each instant the clocks have one offset, a local time means one instant, it isn't much later with another offset, and one that is much
-- later means a later instant
pub record IsSteady (z : Zone) : Type 0 where
  pub offset : IsOneOffset z
  pub meaning : IsOneMeaning z
  pub keeps : (t offset local u : ℤ) → IsOffsetAt z t offset → Means z local u → (local -ℤ offset) ≤ℤ (u +ℤ pos 43_200)
  pub ascends : IsAscending z
