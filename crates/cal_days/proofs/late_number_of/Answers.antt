use Rattle.std.proofs.Common.{arith, refl, sym, pos, ◌+ℤ◌, ◌-ℤ◌, ◌≡◌, ◌∙◌, to_z, of_z, w32, w64}
use Rattle.profile.specs.series.Days.{number_of_day}
use Rattle.jiff_core.proofs.SignedLemmas.{signed_arith}
use Rattle.cal_days.proofs.Bridge.{late}
use Rattle.cal_days.proofs.late_number_of.Goals as goal

pub returns-clause-value : goal.returns-clause-value
returns-clause-value c =
    let e = c.in_ok-number.ensures in
    let early = to_z w32 (of_z w32 (to_z w32 (of_z w32 c.args.year) -ℤ pos 400)) in
    let l = late c.args.year early c.args.month c.args.day c.requires.low c.requires.high (omega (arith, signed_arith)) in
    let whole : to_z w64 (of_z w64 (to_z w64 (of_z w64 c.in_ok-number.number) +ℤ pos 146_097)) ≡ c.in_ok-number.number +ℤ pos 146_097 = omega (arith, signed_arith, e.low, e.high) in
    whole ∙ rw e.value (sym l.number)

pub returns-clause-high : goal.returns-clause-high
returns-clause-high c =
    let e = c.in_ok-number.ensures in
    let early = to_z w32 (of_z w32 (to_z w32 (of_z w32 c.args.year) -ℤ pos 400)) in
    let l = late c.args.year early c.args.month c.args.day c.requires.low c.requires.high (omega (arith, signed_arith)) in
    let high = l.high (e.found.0 refl) in
    let same : c.in_ok-number.number ≡ number_of_day early c.args.month c.args.day = e.value in
    omega (arith, signed_arith, e.low, e.high, high, same)
