use Rattle.std.proofs.Common.{◌+◌, ◌≤◌}
use Rattle.profile.specs.series.Zones.{NoneFrom}
use Rattle.cal_zones.specs.Kinds.{zone_of}
use Rattle.cal_zones.proofs.zone.Zone.last_day_at.Given as goal

abbrev pub invariant-loop-index : goal.invariant-loop-index
invariant-loop-index l = (l.index ≤ 3_652_424) × NoneFrom (zone_of l.self) l.second l.until (l.index + 1)

abbrev pub decreases-loop-index : goal.decreases-loop-index
decreases-loop-index l = l.index
