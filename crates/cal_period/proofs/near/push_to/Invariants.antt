use Rattle.std.proofs.Common.{◌-ℤ◌, unsigned_abs}
use Rattle.cal_zones.specs.Kinds.{zone_of}
use Rattle.cal_events.specs.Series.{series_said}
use Rattle.cal_period.proofs.NearLists.{ArePushed}
use Rattle.cal_period.proofs.near.push_to.Given as goal

abbrev pub invariant-loop-onset : goal.invariant-loop-onset
invariant-loop-onset l = ArePushed (series_said l.series) (zone_of l.zone) l.after l.last l.fn.near.items l.near.items

abbrev pub decreases-loop-onset : goal.decreases-loop-onset
decreases-loop-onset l = unsigned_abs (l.bound -ℤ l.last)
