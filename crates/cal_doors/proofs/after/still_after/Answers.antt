use Rattle.std.proofs.Common.{◌∙◌, ap, to_z-of_z}
use Rattle.profile.specs.series.Zones.{Constant}
use Rattle.cal_doors.proofs.after.still_after.Goals as goal

pub returns : goal.returns
returns c =
    let offset = to_z-of_z c.ranges.offset in
    record {
      is = c.constant.ensures ∙ ap Constant (c.in_ok-of_seconds.ensures.value ∙ offset);
      sets = rw (to_z-of_z c.ranges.instant, offset) at (c.all_hold.ensures c.if-not-all_hold.false);
    }
