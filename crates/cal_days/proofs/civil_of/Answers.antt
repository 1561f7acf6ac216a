use Rattle.std.proofs.Common.{arith, pos, ◌-ℤ◌, ◌≤ℤ◌, to_z, of_z, w64}
use Rattle.jiff_core.proofs.SignedLemmas.{signed_arith}
use Rattle.cal_days.proofs.Bridge.{year_high}
use Rattle.cal_days.proofs.civil_of.Goals as goal

pub returns-then-number-gt-LAST_NUMBER-clause-date : goal.returns-then-number-gt-LAST_NUMBER-clause-date
returns-then-number-gt-LAST_NUMBER-clause-date c =
    let e = c.date_of.ensures in
    let l = c.later.ensures in
    let bound : to_z w64 (of_z w64 (to_z w64 (of_z w64 c.args.number) -ℤ pos 146_097)) ≤ℤ pos 2_787_530 = omega (arith, signed_arith, c.requires) in
    let high = year_high c.date_of.result.year c.date_of.result.month c.date_of.result.day e.low e.date (rw e.number bound) in
    (omega (arith, signed_arith), omega (arith, signed_arith), l.date)
