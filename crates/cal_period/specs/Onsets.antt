-- What is looked at near the onsets of a zone.
use Rattle.std.specs.Prelude.{◌≡◌, ◌≢◌, ℤ, pos, ◌+ℤ◌, ◌≤ℤ◌, ◌<ℤ◌, Option, MatchOption, Some}
use Rattle.profile.specs.checker.Instances.{Instance}
use Rattle.profile.specs.series.Zones.{Zone, Onset, IsZoneOnset}
use Rattle.profile.specs.events.ZonedTimes.{clock_of}
use Rattle.profile.specs.events.EventComponents.{EventComponent}
use Rattle.profile.specs.events.Events.{Event}
use Rattle.profile.specs.events.Spans.{IsWidthOf}
use Rattle.profile.specs.events.Starts.{IsInstance, SharesInstant}
use Rattle.cal_zones.specs.Kinds.{zone_of}
use Rattle.cal_zones.specs.Spans.{AreNoneBetween, IsNextOnset}
use Rattle.cal_zones.specs.declared.zone.Zone as kept

-- the clocks of the series are those of the zone
abbrev pub GoesBy : Event → kept.Zone → Type 0
GoesBy series zone = (master : EventComponent) → series.master ≡ Some master → zone_of zone ≡ clock_of master.times.zone

-- no instance of the one that starts before a bound shares an instant, from another one on, with an instance of the other
abbrev pub AreClearSince : Event → Event → ℤ → ℤ → Type 0
AreClearSince a b from bound =
    (x y : Instance) → IsInstance a x → IsInstance b y → x.start <ℤ bound → (s : SharesInstant x.start x.end y.start y.end) → from ≤ℤ s.instant → ⊥

-- no two of one series that start before a bound, with different keys, do
abbrev pub IsClearSince : Event → ℤ → ℤ → Type 0
IsClearSince a from bound =
    (x y : Instance) → IsInstance a x → IsInstance a y → x.start <ℤ bound → y.start <ℤ bound → x.key ≢ y.key → (s : SharesInstant x.start x.end y.start y.end) → from ≤ℤ s.instant
    → ⊥

-- half a day, by which the offsets of a zone differ at the most, and the width of a series: what starts so long after an onset has nothing to do with
-- it
abbrev pub IsReach : Event → ℤ → Type 0
IsReach series reach = (width : ℤ) × IsWidthOf series width × (reach ≡ (pos 43_201 +ℤ width))

-- what starts more than half a day after an instant
abbrev pub IsHalfDayBefore : Event → ℤ → Type 0
IsHalfDayBefore series instant = (x : Instance) → IsInstance series x → (instant +ℤ pos 43_200) <ℤ x.start

-- the first onset after an instant, and before a bound; or none is between them
abbrev pub IsNextBelow : (Onset → Type 0) → ℤ → ℤ → Option ℤ → Type 0
IsNextBelow Is after bound next = MatchOption next (AreNoneBetween Is after bound) (λ onset. IsNextOnset Is after onset × (onset <ℤ bound))

-- near each onset between two instants they are clear of each other
abbrev pub AreClearNear : Zone → Event → Event → ℤ → ℤ → Type 0
AreClearNear zone a b after bound =
    (reach : ℤ) × IsReach b reach
    × ((u : Onset) → IsZoneOnset zone u → after <ℤ u.instant → u.instant <ℤ bound → AreClearSince a b u.instant (u.instant +ℤ reach))

-- and one is by itself
abbrev pub IsClearNear : Zone → Event → ℤ → ℤ → Type 0
IsClearNear zone a after bound =
    (reach : ℤ) × IsReach a reach
    × ((u : Onset) → IsZoneOnset zone u → after <ℤ u.instant → u.instant <ℤ bound → IsClearSince a u.instant (u.instant +ℤ reach))
