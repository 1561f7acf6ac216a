use Rattle.std.proofs.Common.{◌≡◌, arith, rules, to_z, of_z, w64, FitsSigned, to_z-of_z}
use Rattle.std.proofs.lemmas.Int.{ints}
use Rattle.ical_values.proofs.Readings.{stamp_same}
use Rattle.cal_doors.proofs.uses.instant_in.Goals as goal

pub returns-in-Ok : goal.returns-in-Ok
returns-in-Ok c = λ instant s.
    let n = c.instant.result in
    let fits : FitsSigned w64 n = search rules in
    let cast : to_z w64 (of_z w64 n) ≡ n = to_z-of_z fits in
    let e = stamp_same c.args.text.now c.in-Ok.stamp instant c.in-Ok.ensures.reads s in
    rw cast (omega (arith, ints, e, c.instant.ensures.value))

pub returns-in-Err : goal.returns-in-Err
returns-in-Err c = λ instant s. absurd (c.in-Err.ensures.none instant s)
