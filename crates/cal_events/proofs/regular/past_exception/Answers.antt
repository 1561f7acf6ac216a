use Rattle.std.proofs.Common.{◌≡◌, pos, ◌+ℤ◌, ◌≤ℤ◌, ◌<ℤ◌, to_z, of_z, w64, FitsSigned, rules, to_z-of_z, arith}
use Rattle.std.proofs.lemmas.Int.{ints}
use Rattle.std.specs.Int.{int_max}
use Rattle.profile.specs.checker.Instances.{horizon}
use Rattle.profile.specs.events.Properties.{first_second}
use Rattle.cal_events.proofs.regular_lemmas.Past.{exception_past, next_fits}
use Rattle.cal_events.proofs.regular.past_exception.Goals as goal

pub returns : goal.returns
returns c =
    let e = c.args.exception in
    let r = c.max.result in
    let fits : FitsSigned w64 r = search rules in
    let cast : to_z w64 (of_z w64 r) ≡ r = to_z-of_z fits in
    let same_e : to_z w64 (of_z w64 e) ≡ e = to_z-of_z c.ranges.exception in
    let same_from : to_z w64 (of_z w64 c.args.from) ≡ c.args.from = to_z-of_z c.ranges.from in
    let low = rw same_e at c.if-exception-lt-FIRST_SECOND.false in
    let high = rw same_e at c.if-exception-ge-HORIZON.false in
    let from_first : first_second ≤ℤ e = omega (arith, ints, low) in
    let before : e <ℤ horizon = omega (arith, ints, high) in
    let same_next : to_z w64 (of_z w64 (e +ℤ pos 1)) ≡ e +ℤ pos 1 = next_fits e from_first before in
    let is : r ≡ int_max c.args.from (e +ℤ pos 1) = rw (same_e, same_from, same_next) at c.max.ensures.value in
    rw cast (exception_past c.args.from e r from_first before is)
