use Rattle.std.proofs.Common.{◌∙◌, ap, sym, ◌-◌, length, take, drop, arith}
use Rattle.cal_doors.specs.Adapted.{others_among}
use Rattle.cal_doors.proofs.RightOthers.{zone_first, rest_of}
use Rattle.cal_doors.proofs.right.past_zones.Goals as goal

pub loop-left-preserved : goal.loop-left-preserved
loop-left-preserved c =
    let left = c.loop-left.left.now in
    sym (zone_first c.first-item.result (take (length left - 1) (drop 1 left)) (sym c.is_named.ensures ∙ c.if-not-is_named.false))
    ∙ sym (ap others_among (rest_of left c.first-item.result (omega (arith, c.in-len1-up.len_at_least)) c.first-item.is)) ∙ c.loop-left.invariant
