use Rattle.std.proofs.Common.{◌≤◌, get_or, arith}
use Rattle.std.proofs.lemmas.Bool.Decides.{nat_tests}
use Rattle.ical_values.proofs.Parts.{number_more}
use Rattle.ical_values.proofs.duration.leading_number.Goals as goal

pub loop-i-preserved : goal.loop-i-preserved
loop-i-preserved c =
    let t = c.if-not-is_ascii_digit.false in
    let u = c.is_ascii_digit.ensures in
    let low : 48 ≤ get_or c.args.text.now c.loop-i.i 0 = grind (arith, nat_tests) in
    let high : get_or c.args.text.now c.loop-i.i 0 ≤ 57 = grind (arith, nat_tests) in
    number_more c.args.text.now c.loop-i.i c.loop-i.number c.saturating_mul.result c.saturating_add-number.result c.loop-i-test.true low high c.loop-i.invariant.0 c.loop-i.invariant.1 c.saturating_mul.ensures c.saturating_add-number.ensures
