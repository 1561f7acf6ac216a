use Rattle.std.proofs.Common.{◌≡◌, pos, to_z, of_z, w64, to_z-of_z, FitsSigned, arith, rules}
use Rattle.std.proofs.Math.Facts.{to_z_pos}
use Rattle.cal_period.proofs.AroundLemmas.{residue_euclid}
use Rattle.cal_period.proofs.arcs.residue_of.Goals as goal

pub returns-clause-same : goal.returns-clause-same
returns-clause-same c =
    let instant : to_z w64 (of_z w64 c.args.instant) ≡ c.args.instant = to_z-of_z c.ranges.instant in
    let fits : FitsSigned w64 c.rem_euclid.result = search rules in
    let same : to_z w64 (of_z w64 c.rem_euclid.result) ≡ c.rem_euclid.result = to_z-of_z fits in
    let small : to_z w64 c.args.m ≡ pos c.args.m = to_z_pos w64 (omega (arith, c.requires.modulus)) in
    rw same (residue_euclid c.args.m c.args.instant c.rem_euclid.result c.requires.some (rw (instant, small) at c.rem_euclid.ensures.value))
