use Rattle.std.proofs.Common.{◌≡◌, sym, pos, ◌+ℤ◌, to_z, of_z, w64, FitsSigned, rules, to_z-of_z}
use Rattle.std.specs.Int.{int_max}
use Rattle.cal_events.specs.Component.{times_of}
use Rattle.cal_events.proofs.regular_lemmas.Past.{starts_past}
use Rattle.cal_events.proofs.regular.past_rule.Goals as goal

pub returns-in-Some-last_start : goal.returns-in-Some-last_start
returns-in-Some-last_start c =
    let r = c.max.result in
    let start = c.in-Some-last_start.start in
    let fits : FitsSigned w64 r = search rules in
    let cast : to_z w64 (of_z w64 r) ≡ r = to_z-of_z fits in
    let same_from : to_z w64 (of_z w64 c.args.from) ≡ c.args.from = to_z-of_z c.ranges.from in
    let fits_start : FitsSigned w64 start = search rules in
    let same_start : to_z w64 (of_z w64 start) ≡ start = to_z-of_z fits_start in
    let fits_next : FitsSigned w64 (start +ℤ pos 1) = search rules in
    let same_next : to_z w64 (of_z w64 (start +ℤ pos 1)) ≡ start +ℤ pos 1 = to_z-of_z fits_next in
    let is : r ≡ int_max c.args.from (start +ℤ pos 1) = rw (same_from, same_start, same_next) at c.max.ensures.value in
    rw cast (starts_past (times_of c.args.times.now) c.args.given.now c.in-Some.rule c.in-Some.is c.args.from start r (sym c.if-not-has_end.ensures) c.in-Some-last_start.ensures is)
