use Rattle.std.proofs.Common.{to_z-of_z}
use Rattle.cal_zones.specs.Kinds.{zone_of}
use Rattle.cal_doors.specs.Between.{GoesOnFrom}
use Rattle.cal_doors.specs.Found.{general_of}
use Rattle.cal_doors.proofs.RightGiven.{of_some}
use Rattle.cal_doors.proofs.zone.GeneralZone.between.Goals as goal

pub returns-in-Some-clause-same : goal.returns-in-Some-clause-same
returns-in-Some-clause-same c =
    let h = of_some _ c.in-Some.zone (λ z. GoesOnFrom (general_of c.args.self.now) (zone_of z) c.args.from c.args.to) c.in-Some.is
    (rw (to_z-of_z c.ranges.from, to_z-of_z c.ranges.to) at c.in_ok-zone.ensures) in
    h.same

pub returns-in-Some-clause-sides : goal.returns-in-Some-clause-sides
returns-in-Some-clause-sides c =
    let h = of_some _ c.in-Some.zone (λ z. GoesOnFrom (general_of c.args.self.now) (zone_of z) c.args.from c.args.to) c.in-Some.is
    (rw (to_z-of_z c.ranges.from, to_z-of_z c.ranges.to) at c.in_ok-zone.ensures) in
    h.sides
