use Rattle.std.proofs.Common.{to_z-of_z}
use Rattle.cal_zones.specs.Onsets.{observance_of}
use Rattle.cal_zones.proofs.Zones.{single_since, single_until}
use Rattle.cal_zones.proofs.Casts.{narrow}
use Rattle.cal_zones.proofs.observance.Observance.offset.Goals as goal

pub returns-in-None-clause-offset : goal.returns-in-None-clause-offset
returns-in-None-clause-offset c =
    let a = c.args.self.now in
    rw (narrow a.offset_from a.from) (single_until (observance_of a) c.args.instant (rw (to_z-of_z c.ranges.instant) at c.in-None.ensures.latest))

pub returns-in-Some-clause-offset : goal.returns-in-Some-clause-offset
returns-in-Some-clause-offset c =
    let a = c.args.self.now in
    rw (narrow a.offset_to a.to) (single_since (observance_of a) c.args.instant c.in-Some.field-0 (rw (to_z-of_z c.ranges.instant) at c.in-Some.ensures.latest))
