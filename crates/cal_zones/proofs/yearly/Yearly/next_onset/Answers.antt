use Rattle.std.proofs.Common.{◌≡◌, ◌+◌, ◌-◌, ◌*◌, ◌/◌, ◌%◌, ◌^◌, ◌<◌, arith, pos, negsuc, ◌-ℤ◌, ◌+ℤ◌, ◌≤ℤ◌, w64, to_z-of_z}
use Rattle.std.proofs.lemmas.Int.{to_z_pos}
use Rattle.jiff_core.proofs.SignedLemmas.{signed_arith, one_part}
use Rattle.cal_zones.proofs.Onsets.{next_checked}
use Rattle.cal_zones.proofs.yearly.Yearly.next_onset.Goals as goal

pub returns : goal.returns
returns c =
    let since = c.abs_diff-since.result in
    let day = c.args.first_day + since / 86_400 in
    let ahead = 86_400 * (c.first_on.result - day) - since % 86_400 in
    let apart = rw (to_z-of_z c.ranges.after, to_z-of_z c.ranges.first) at c.abs_diff-since.ensures in
    let whole : c.args.after ≡ c.args.first +ℤ pos since = omega (arith, signed_arith, one_part (c.args.after -ℤ c.args.first), apart, c.requires.begun) in
    let low : negsuc 9_223_372_036_854_775_807 ≤ℤ c.args.after = omega (arith, signed_arith, c.ranges.after) in
    let near = c.first_on.ensures.near in
    let small : ahead < 2 ^ 63 = omega (arith, near) in
    next_checked c.args.self c.args.first_day c.args.first c.args.after since c.first_on.result c.checked_add.result whole low c.first_on.ensures.first (rw (to_z-of_z c.ranges.after, to_z_pos w64 ahead small) at c.checked_add.ensures)
