use Rattle.std.proofs.Common.{subst, to_z-of_z}
use Rattle.std.proofs.lemmas.Option.{IfSome_then}
use Rattle.profile.specs.series.GeneralZones.{IsSameFrom}
use Rattle.cal_zones.specs.Kinds.{zone_of}
use Rattle.cal_doors.proofs.UpTo.{runs_between}
use Rattle.cal_doors.proofs.zone.GeneralZone.within.Goals as goal

pub returns-clause-same : goal.returns-clause-same
returns-clause-same c =
    let items = c.as_slice-runs.ensures.value in
    let from = to_z-of_z c.ranges.from in
    IfSome_then c.from_instant.result c.from_instant.ensures.same (λ zone h.
    runs_between c.args.self.now.runs.items c.in_ok-ending.field-0.items c.args.from c.args.to (zone_of zone) (rw (items, to_z-of_z c.ranges.to) at c.in_ok-ending.ensures)
    (rw (items, from) at (c.has_begun.ensures c.if-not-has_begun.false)) (subst (λ l. IsSameFrom l (zone_of zone) c.args.from) c.of-shorter.ensures (rw from at h)))
