use Rattle.std.proofs.Common.{rules, ◌≡◌, sym, subst, to_z, of_z, to_z-of_z, w32, SFits}
use Rattle.cal_zones.specs.Kinds.{zone_of}
use Rattle.cal_zones.proofs.Casts.{same_offset}
use Rattle.profile.specs.series.Zones.{IsOffsetAt}
use Rattle.cal_doors.specs.Runs.{runs_in}
use Rattle.profile.specs.doors.Adapting.{SetsBack}
use Rattle.cal_doors.specs.After.{IsStillAfter, HasOnsetsAfter}
use Rattle.cal_doors.proofs.Still.{same_still}
use Rattle.cal_doors.proofs.Same.{same, runs_short, zone_short}
use Rattle.cal_doors.proofs.zone.GeneralZone.from_instant.Goals as goal

pub returns-in-Some : goal.returns-in-Some
returns-in-Some c =
    let runs = c.args.self.now.runs.items in
    let items = c.as_slice-runs.ensures.value in
    let instant = to_z-of_z c.ranges.instant in
    let k = c.in_ok-offset.offset in
    let offset : to_z w32 (of_z w32 k) ≡ k = to_z-of_z {w = w32} (search rules) in
    let still : IsStillAfter (runs_in runs) c.args.instant k (zone_of c.in-Some.zone) = rw (items, instant, offset) at c.in-Some.ensures in
    record {
      same = same_still (runs_in runs) c.args.instant k (rw (items, instant) at c.in_ok-offset.ensures) still.sets (runs_short runs).offsets (zone_of c.in-Some.zone) still.is;
      sides = subst SetsBack (sym still.is) tt;
    }

pub returns : goal.returns
returns c =
    let runs = c.args.self.now.runs.items in
    let items = c.as_slice-runs.ensures.value in
    let instant = to_z-of_z c.ranges.instant in
    let k = c.in_ok-offset.offset in
    let z = zone_of c.in_ok-zone.zone in
    let fits : SFits w32 k = search rules in
    let eq : c.offset.result ≡ k = same_offset c.offset.result k c.offset.ensures.range fits c.if-offset.false in
    let at : IsOffsetAt z c.args.instant k = subst (IsOffsetAt z c.args.instant) eq (rw instant at c.offset.ensures.offset) in
    let after : HasOnsetsAfter (runs_in runs) c.args.instant z = rw (items, instant) at c.in_ok-zone.ensures in
    record {
      same = same (runs_in runs) c.args.instant k (rw (items, instant) at c.in_ok-offset.ensures) z after at c.one_meaning.ensures.offset
          (runs_short runs) (zone_short z c.offsets.result.0 c.offsets.result.1 c.offsets.ensures.bounds c.offsets.ensures.range.0 c.offsets.ensures.range.1);
      sides = after.sides;
    }
