use Rattle.std.proofs.Common.{◌≡◌, ◌<◌, ap, arith, length}
use Rattle.std.proofs.lemmas.Bool.Decides.{nat_tests}
use Rattle.ical_values.proofs.Parts.{exact_left, exact_found}
use Rattle.ical_values.proofs.duration.read_time.Goals as goal

pub returns-then-not-is_empty-clause-none : goal.returns-then-not-is_empty-clause-none
returns-then-not-is_empty-clause-none c = λ total s.
    let e = exact_left c.args.text.now c.in_ok-body.body.now c.part_or_zero-hours.result.1.now c.part_or_zero-minutes.result.1.now c.part_or_zero-seconds.result.1.now _ _ _ total c.in_ok-body.ensures.found c.part_or_zero-hours.ensures c.part_or_zero-minutes.ensures c.part_or_zero-seconds.ensures s in
    let gone = ap length e in
    let t = c.if-not-is_empty.true in
    let u = c.is_empty-2.ensures in
    grind (arith, nat_tests)

pub returns-clause-found : goal.returns-clause-found
returns-clause-found c =
    let a = c.if-is_empty.false in
    let b = c.is_empty.ensures in
    let t = c.if-not-is_empty.false in
    let u = c.is_empty-2.ensures in
    let some : 0 < length c.in_ok-body.body.now = grind (arith, nat_tests) in
    let end : length c.part_or_zero-seconds.result.1.now ≡ 0 = grind (arith, nat_tests) in
    exact_found c.args.text.now c.in_ok-body.body.now c.part_or_zero-hours.result.1.now c.part_or_zero-minutes.result.1.now c.part_or_zero-seconds.result.1.now _ _ _ c.total.result c.in_ok-body.ensures.found some c.part_or_zero-hours.ensures c.part_or_zero-minutes.ensures c.part_or_zero-seconds.ensures end c.total.ensures
