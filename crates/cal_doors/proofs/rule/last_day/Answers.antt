use Rattle.std.proofs.Common.{◌≡◌, arith, subst, to_z, of_z, w64}
use Rattle.jiff_core.proofs.SignedLemmas.{signed_arith}
use Rattle.cal_doors.specs.Ends.{IsNearEnd}
use Rattle.cal_doors.proofs.rule.last_day.Goals as goal

pub last_until-requires : goal.last_until-requires
last_until-requires c =
    let near = subst IsNearEnd c.in-At.is c.requires in
    let cast : to_z w64 (of_z w64 c.in-At.until) ≡ c.in-At.until = omega (arith, signed_arith, near) in
    rw cast near

pub returns-in-At : goal.returns-in-At
returns-in-At c =
    let near = subst IsNearEnd c.in-At.is c.requires in
    let cast : to_z w64 (of_z w64 c.in-At.until) ≡ c.in-At.until = omega (arith, signed_arith, near) in
    rw c.in-At.is (rw cast at c.last_until.ensures)
