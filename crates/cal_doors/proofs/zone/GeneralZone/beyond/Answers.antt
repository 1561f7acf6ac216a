use Rattle.std.proofs.Common.{subst, to_z-of_z}
use Rattle.std.proofs.lemmas.Option.{IfSome_then}
use Rattle.profile.specs.series.GeneralZones.{IsSameFrom}
use Rattle.cal_zones.specs.Kinds.{zone_of}
use Rattle.profile.specs.doors.Adapting.{SetsBack}
use Rattle.cal_doors.specs.Found.{general_of}
use Rattle.cal_doors.proofs.UpTo.{beyond_from, both_some}
use Rattle.cal_doors.proofs.zone.GeneralZone.beyond.Goals as goal

pub returns : goal.returns
returns c =
    let items = c.as_slice-runs.ensures.value in
    let from = to_z-of_z c.ranges.from in
    IfSome_then c.from_instant.result
    (both_some (λ zone. IsSameFrom (general_of c.of-longer.result) (zone_of zone) _) (λ zone. SetsBack (zone_of zone)) c.from_instant.result c.from_instant.ensures.same c.from_instant.ensures.sides) (λ zone h.
    beyond_from c.args.self.now.runs.items c.in_ok-going_on.field-0.items c.args.from c.args.to (zone_of zone) (rw (items, to_z-of_z c.ranges.to) at c.in_ok-going_on.ensures)
    (rw (items, from) at (c.has_begun.ensures c.if-not-has_begun.false)) (subst (λ l. IsSameFrom l (zone_of zone) c.args.from) c.of-longer.ensures (rw from at h.0), h.1))
