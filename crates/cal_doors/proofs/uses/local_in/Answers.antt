use Rattle.std.proofs.Common.{◌≡◌, arith, rules, to_z, of_z, w64, FitsSigned, to_z-of_z}
use Rattle.std.proofs.lemmas.Int.{ints}
use Rattle.cal_doors.proofs.UsesLines.{one_local}
use Rattle.cal_doors.proofs.uses.local_in.Goals as goal

pub returns-in-Ok-clause-value : goal.returns-in-Ok-clause-value
returns-in-Ok-clause-value c = λ local s.
    let n = c.seconds.result in
    let fits : FitsSigned w64 n = search rules in
    let cast : to_z w64 (of_z w64 n) ≡ n = to_z-of_z fits in
    let e = one_local c.args.text.now c.in-Ok.local local c.in-Ok.ensures.reads s in
    rw cast (omega (arith, ints, e, c.seconds.ensures.value))

pub returns-in-Err-clause-value : goal.returns-in-Err-clause-value
returns-in-Err-clause-value c = λ local s. absurd (c.in-Err.ensures.none local s)
