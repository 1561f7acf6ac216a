use Rattle.std.proofs.Common.{◌-ℤ◌, ◌+ℤ◌, unsigned_abs}
use Rattle.profile.specs.series.Zones.{IsZoneOnset}
use Rattle.cal_zones.specs.Kinds.{zone_of}
use Rattle.cal_events.specs.Series.{series_said}
use Rattle.cal_period.specs.Onsets.{IsClearSince}
use Rattle.cal_period.proofs.NearOnsets.{HoldsTo}
use Rattle.cal_period.proofs.onsets.clash_alone_between.Given as goal

abbrev pub invariant-loop-onset : goal.invariant-loop-onset
invariant-loop-onset l = HoldsTo (IsZoneOnset (zone_of l.zone)) (λ t. IsClearSince (series_said l.a) t (t +ℤ l.reach)) l.after l.last

abbrev pub decreases-loop-onset : goal.decreases-loop-onset
decreases-loop-onset l = unsigned_abs (l.bound -ℤ l.last)
