use Rattle.std.proofs.Common.{◌≡◌, sym, get_or, pos, to_z, of_z, w64, FitsSigned, rules, to_z-of_z}
use Rattle.std.proofs.lemmas.List.{get_or_default}
use Rattle.cal_events.proofs.regular_lemmas.Past.{none_past, take_one, take_whole}
use Rattle.cal_events.proofs.regular.past_exceptions.Goals as goal

pub loop-exception-init : goal.loop-exception-init
loop-exception-init c =
    let same_from : to_z w64 (of_z w64 c.args.from) ≡ c.args.from = to_z-of_z c.ranges.from in
    rw same_from (none_past c.args.from)

pub loop-exception-preserved : goal.loop-exception-preserved
loop-exception-preserved c =
    let past = c.past_exception-past.result in
    let fits : FitsSigned w64 past = search rules in
    let cast : to_z w64 (of_z w64 past) ≡ past = to_z-of_z fits in
    let all = c.args.exceptions.now in
    let i = c.loop-exception.exception-index in
    let e = get_or all i (pos 0) in
    let fits_e : FitsSigned w64 e = search rules in
    let same_e : to_z w64 (of_z w64 e) ≡ e = to_z-of_z fits_e in
    rw cast
    (take_one (to_z w64 (of_z w64 c.args.from)) (to_z w64 c.loop-exception.past-bits) past all i e c.loop-exception-test.true (sym (get_or_default all i e (pos 0) c.loop-exception-test.true))
    c.loop-exception.invariant (rw same_e at c.past_exception-past.ensures))

pub returns : goal.returns
returns c =
    let same_from : to_z w64 (of_z w64 c.args.from) ≡ c.args.from = to_z-of_z c.ranges.from in
    take_whole c.args.from (to_z w64 c.loop-exception.past-bits) c.args.exceptions.now c.loop-exception.exception-index c.loop-exception-test.false (rw same_from at c.loop-exception.invariant)
