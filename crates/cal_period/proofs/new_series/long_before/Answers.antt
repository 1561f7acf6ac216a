use Rattle.std.proofs.Common.{◌≡◌, to_z, of_z, w64, FitsSigned, rules, to_z-of_z}
use Rattle.cal_events.specs.Series.{series_said}
use Rattle.cal_period.proofs.NearLists.{long_before}
use Rattle.cal_period.proofs.new_series.long_before.Goals as goal

pub returns-in-Some : goal.returns-in-Some
returns-in-Some c =
    let series = c.args.series.now in
    let first = c.in-Some.first in
    let fits : FitsSigned w64 first = search rules in
    let cast : to_z w64 (of_z w64 first) ≡ first = to_z-of_z fits in
    let before = c.saturating_sub.result in
    let fits_before : FitsSigned w64 before = search rules in
    let cast_before : to_z w64 (of_z w64 before) ≡ before = to_z-of_z fits_before in
    rw cast_before (long_before (series_said series) first before (c.known_by_start.ensures series) c.in-Some.ensures (rw cast at c.saturating_sub.ensures))
