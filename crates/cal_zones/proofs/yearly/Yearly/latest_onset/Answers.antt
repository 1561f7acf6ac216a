use Rattle.std.proofs.Common.{◌≡◌, ◌+◌, ◌-◌, ◌*◌, ◌/◌, ◌%◌, ◌≤◌, ◌<◌, arith, pos, ◌-ℤ◌, ◌+ℤ◌, to_z, of_z, w64, to_z-of_z}
use Rattle.std.proofs.lemmas.Int.{to_z_pos}
use Rattle.jiff_core.proofs.SignedLemmas.{signed_arith, one_part}
use Rattle.cal_zones.proofs.Onsets.{latest_after}
use Rattle.cal_zones.proofs.yearly.Yearly.latest_onset.Goals as goal

pub returns-clause-latest : goal.returns-clause-latest
returns-clause-latest c =
    let since = c.abs_diff-since.result in
    let latest = c.latest.result in
    let day = c.args.first_day + since / 86_400 in
    let back = since % 86_400 + 86_400 * (day - latest) in
    let apart = rw (to_z-of_z c.ranges.instant, to_z-of_z c.ranges.first) at c.abs_diff-since.ensures in
    let from : c.args.first_day ≤ latest = c.latest.ensures.latest.latest c.args.first_day c.requires.on (omega arith) in
    let within : back ≤ since = omega (arith, c.latest.ensures.latest.within) in
    let small : back < 100_000_000 = omega (arith, c.latest.ensures.near) in
    let whole : c.args.instant ≡ c.args.first +ℤ pos since = omega (arith, signed_arith, one_part (c.args.instant -ℤ c.args.first), apart, c.requires.begun) in
    let fits : to_z w64 (of_z w64 (c.args.instant -ℤ pos back)) ≡ c.args.instant -ℤ pos back = omega (arith, signed_arith, c.requires.low, c.ranges.instant) in
    let same : to_z w64 (of_z w64 (to_z w64 (of_z w64 c.args.instant) -ℤ to_z w64 back)) ≡ c.args.instant -ℤ pos back = rw (to_z-of_z c.ranges.instant, to_z_pos w64 back (omega arith)) fits in
    latest_after c.args.self c.args.first_day c.args.first c.args.instant _ since latest c.requires.on c.requires.begun apart c.latest.ensures.latest same

pub returns-clause-low : goal.returns-clause-low
returns-clause-low c =
    let since = c.abs_diff-since.result in
    let latest = c.latest.result in
    let day = c.args.first_day + since / 86_400 in
    let back = since % 86_400 + 86_400 * (day - latest) in
    let apart = rw (to_z-of_z c.ranges.instant, to_z-of_z c.ranges.first) at c.abs_diff-since.ensures in
    let from : c.args.first_day ≤ latest = c.latest.ensures.latest.latest c.args.first_day c.requires.on (omega arith) in
    let within : back ≤ since = omega (arith, c.latest.ensures.latest.within) in
    let small : back < 100_000_000 = omega (arith, c.latest.ensures.near) in
    let whole : c.args.instant ≡ c.args.first +ℤ pos since = omega (arith, signed_arith, one_part (c.args.instant -ℤ c.args.first), apart, c.requires.begun) in
    let fits : to_z w64 (of_z w64 (c.args.instant -ℤ pos back)) ≡ c.args.instant -ℤ pos back = omega (arith, signed_arith, c.requires.low, c.ranges.instant) in
    let same : to_z w64 (of_z w64 (to_z w64 (of_z w64 c.args.instant) -ℤ to_z w64 back)) ≡ c.args.instant -ℤ pos back = rw (to_z-of_z c.ranges.instant, to_z_pos w64 back (omega arith)) fits in
    rw same (omega (arith, signed_arith))
