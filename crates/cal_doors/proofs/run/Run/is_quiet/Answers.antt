use Rattle.std.proofs.Common.{arith, to_z-of_z}
use Rattle.std.proofs.lemmas.Int.{ints}
use Rattle.cal_doors.proofs.run.Run.is_quiet.Goals as goal

pub returns-in-None : goal.returns-in-None
returns-in-None c =
    λ _ x is l.
    let ahead = (rw (to_z-of_z c.ranges.until) at c.in-None.ensures) x is in
    absurd (omega (arith, ints, ahead, l))
