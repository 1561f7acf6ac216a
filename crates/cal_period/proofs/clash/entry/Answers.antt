use Rattle.std.proofs.Common.{◌≡◌, arith, pos, negsuc, ◌-ℤ◌, ◌≤ℤ◌, to_z, of_z, w64, FitsSigned, rules, to_z-of_z}
use Rattle.std.specs.Int.{saturate_signed}
use Rattle.std.proofs.lemmas.Int.{ints}
use Rattle.cal_events.specs.Series.{series_said}
use Rattle.cal_period.proofs.Entries.{series_lasts, is_length, entry_is, not_less_saturated}
use Rattle.cal_period.proofs.clash.entry.Goals as goal

pub returns-clause-over : goal.returns-clause-over
returns-clause-over c =
    let series = c.args.series.now in
    let n = c.width.result in
    let begin = c.saturating_sub.result in
    let fits : FitsSigned w64 begin = search rules in
    let cast : to_z w64 (of_z w64 begin) ≡ begin = to_z-of_z fits in
    let fits_n : FitsSigned w64 n = search rules in
    let cast_n : to_z w64 (of_z w64 n) ≡ n = to_z-of_z fits_n in
    let cast_by : to_z w64 (of_z w64 c.args.by) ≡ c.args.by = to_z-of_z c.ranges.by in
    let is : begin ≡ saturate_signed w64 (c.args.by -ℤ n) = rw (cast_by, cast_n) at c.saturating_sub.ensures in
    let least : negsuc 9_223_372_036_854_775_807 ≤ℤ c.args.by = omega (arith, ints, c.ranges.by) in
    rw cast (entry_is (series_said series) c.args.by n begin (c.known_by_start.ensures series) least (is_length series n c.width.ensures.width) (series_lasts series n c.width.ensures.width) is)

pub returns-clause-near : goal.returns-clause-near
returns-clause-near c =
    let series = c.args.series.now in
    let n = c.width.result in
    let begin = c.saturating_sub.result in
    let fits : FitsSigned w64 begin = search rules in
    let cast : to_z w64 (of_z w64 begin) ≡ begin = to_z-of_z fits in
    let fits_n : FitsSigned w64 n = search rules in
    let cast_n : to_z w64 (of_z w64 n) ≡ n = to_z-of_z fits_n in
    let cast_by : to_z w64 (of_z w64 c.args.by) ≡ c.args.by = to_z-of_z c.ranges.by in
    let is : begin ≡ saturate_signed w64 (c.args.by -ℤ n) = rw (cast_by, cast_n) at c.saturating_sub.ensures in
    let long = is_length series n c.width.ensures.width in
    let most : c.args.by ≤ℤ pos 9_223_372_036_854_775_807 = omega (arith, ints, c.ranges.by) in
    let near = not_less_saturated (c.args.by -ℤ n) (omega (arith, ints, most, long)) in
    (n, c.width.ensures.of, rw cast (omega (arith, ints, near, is)))
