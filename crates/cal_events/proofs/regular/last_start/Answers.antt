use Rattle.std.proofs.Common.{◌≡◌, ◌≤ℤ◌, ◌<ℤ◌, to_z, of_z, w64, FitsSigned, rules, to_z-of_z, arith}
use Rattle.std.proofs.lemmas.Int.{ints}
use Rattle.profile.specs.checker.Instances.{horizon}
use Rattle.cal_events.specs.Component.{times_of}
use Rattle.cal_events.proofs.regular_lemmas.Latest.{none_at_all, is_last, last_found}
use Rattle.cal_events.proofs.regular.last_start.Goals as goal

pub returns-in_default : goal.returns-in_default
returns-in_default c = none_at_all (times_of c.args.times.now) c.args.rule.now c.requires.meaning c.requires.ascending c.in_default.ensures

pub returns-then-last-lt-HORIZON : goal.returns-then-last-lt-HORIZON
returns-then-last-lt-HORIZON c =
    let last = c.in-Some.last in
    let fits : FitsSigned w64 last = search rules in
    let cast : to_z w64 (of_z w64 last) ≡ last = to_z-of_z fits in
    let before : last <ℤ horizon = omega (arith, ints, (rw cast at c.if-last-lt-HORIZON.true)) in
    rw cast (is_last (times_of c.args.times.now) c.args.rule.now c.requires.meaning c.requires.ascending last c.in-Some.ensures before)

pub returns : goal.returns
returns c =
    let last = c.in-Some.last in
    let fits : FitsSigned w64 last = search rules in
    let cast : to_z w64 (of_z w64 last) ≡ last = to_z-of_z fits in
    let past : horizon ≤ℤ last = omega (arith, ints, (rw cast at c.if-last-lt-HORIZON.false)) in
    last_found (times_of c.args.times.now) c.args.rule.now c.requires.meaning c.requires.ascending last c.in-Some.ensures past c.last_start_to-2.result c.last_start_to-2.ensures
