use Rattle.std.proofs.Common.{◌≡◌, to_z, of_z, w64, FitsSigned, rules, to_z-of_z}
use Rattle.cal_period.proofs.alone.clash_alone_below.Goals as goal

pub returns-in-Some : goal.returns-in-Some
returns-in-Some c =
    let bound = c.args.bound in
    let fits : FitsSigned w64 bound = search rules in
    let cast : to_z w64 (of_z w64 bound) ≡ bound = to_z-of_z fits in
    rw cast at c.clash_alone_near_onsets.ensures

pub returns-in-None : goal.returns-in-None
returns-in-None c =
    let bound = c.args.bound in
    let fits : FitsSigned w64 bound = search rules in
    let cast : to_z w64 (of_z w64 bound) ≡ bound = to_z-of_z fits in
    rw cast at c.clash_of_own_starts.ensures
