-- When a series lasts near the onsets of its zone.
use Rattle.std.specs.Prelude.{ℤ, pos, ◌+ℤ◌, ◌≤ℤ◌, ◌<ℤ◌, List, Contains}
use Rattle.profile.specs.checker.Instances.{Instance}
use Rattle.profile.specs.series.Zones.{Zone, Onset, IsZoneOnset}
use Rattle.profile.specs.events.Events.{Event}
use Rattle.profile.specs.events.Starts.{IsInstance, SharesInstant}
use Rattle.cal_period.specs.declared.near.NearSpan.{NearSpan}

-- an instance near an onset
abbrev pub near_onset : ℤ → Instance → NearSpan
near_onset onset x = record { onset = onset; span = record { start = x.start; end = x.end } }

-- what starts up to a day and a half after an onset, and isn't over by then, is among the spans
abbrev pub HoldsNear : Event → ℤ → List NearSpan → Type 0
HoldsNear series onset near = (x : Instance) → IsInstance series x → x.start <ℤ (onset +ℤ pos 129_601) → onset <ℤ x.end → ∥ Contains near (near_onset onset x) ∥₁

-- so it is of each onset after one instant and up to another
abbrev pub HoldsAll : Event → Zone → ℤ → ℤ → List NearSpan → Type 0
HoldsAll series zone after last near = (u : Onset) → IsZoneOnset zone u → after <ℤ u.instant → u.instant ≤ℤ last → HoldsNear series u.instant near

-- a span that is near an onset before a bound, and starts within a reach of it, shares no instant with an instance of a series
abbrev pub IsPassedBy : Event → ℤ → ℤ → NearSpan → Type 0
IsPassedBy series reach bound one =
    one.onset <ℤ bound → one.span.start <ℤ (one.onset +ℤ reach) → (y : Instance) → IsInstance series y → SharesInstant y.start y.end one.span.start one.span.end → ⊥

-- none of these spans does
abbrev pub ArePassedBy : Event → ℤ → ℤ → List NearSpan → Type 0
ArePassedBy series reach bound near = (one : NearSpan) → Contains near one → IsPassedBy series reach bound one

-- it starts more than half a day and a day after an instant
abbrev pub IsLongBefore : Event → ℤ → Type 0
IsLongBefore series instant = (x : Instance) → IsInstance series x → (instant +ℤ pos 129_601) ≤ℤ x.start
