use Rattle.std.proofs.Common.{arith, pos, ◌+ℤ◌, ◌≡◌, to_z, of_z, w32, refl}
use Rattle.jiff_core.proofs.SignedLemmas.{signed_arith}
use Rattle.cal_days.proofs.Bridge.{number_of_later}
use Rattle.cal_days.proofs.later.Goals as goal

pub returns-clause-number : goal.returns-clause-number
returns-clause-number c =
    let late : to_z w32 (of_z w32 (to_z w32 (of_z w32 c.args.early.year) +ℤ pos 400)) ≡ c.args.early.year +ℤ pos 400 = omega (arith, signed_arith) in
    rw late (number_of_later c.args.early.year _ c.args.early.month c.args.early.day c.requires.low refl)
