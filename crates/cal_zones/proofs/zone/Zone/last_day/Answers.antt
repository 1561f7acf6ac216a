-- The second is one of a day.
use Rattle.std.proofs.Common.{to_z-of_z}
use Rattle.cal_zones.proofs.zone.Zone.last_day.Goals as goal

pub returns-clause-day : goal.returns-clause-day
returns-clause-day c = λ within. rw (to_z-of_z c.ranges.until) at c.last_day_at.ensures
