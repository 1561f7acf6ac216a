use Rattle.std.proofs.Common.{arith, to_z-of_z}
use Rattle.std.proofs.lemmas.Int.{ints}
use Rattle.cal_doors.proofs.condition.is_still.Goals as goal

pub returns-then-is_over : goal.returns-then-is_over
returns-then-is_over c = λ _ x is later.
    let q = (rw (to_z-of_z c.ranges.instant) at (c.is_over.ensures c.if-is_over.true)) x is in
    absurd (omega (arith, ints, q, later))

pub returns : goal.returns
returns c = λ h x is later. (rw (to_z-of_z c.ranges.offset) at (c.sets.ensures h)) x is
