use Rattle.std.proofs.Common.{to_z-of_z}
use Rattle.cal_zones.proofs.Casts.{narrow}
use Rattle.cal_zones.proofs.zone.Zone.offset.Goals as goal

pub returns-in-Single-clause-offset : goal.returns-in-Single-clause-offset
returns-in-Single-clause-offset c =
    let e = c.offset.ensures in
    rw (narrow c.offset.result e.range, c.in-Single.is) (rw (to_z-of_z c.ranges.instant) at e.offset)

pub returns-in-Pair-clause-offset : goal.returns-in-Pair-clause-offset
returns-in-Pair-clause-offset c =
    let e = c.offset-in-Pair.ensures in
    rw (narrow c.offset-in-Pair.result e.range, c.in-Pair.is) (rw (to_z-of_z c.ranges.instant) at e.offset)
