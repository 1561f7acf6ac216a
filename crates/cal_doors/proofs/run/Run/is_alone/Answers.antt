use Rattle.std.proofs.Common.{◌≡◌, arith, pos, ◌-ℤ◌, to_z, of_z, w64, to_z-of_z}
use Rattle.jiff_core.proofs.SignedLemmas.{signed_arith}
use Rattle.cal_doors.proofs.RunLemmas.{at_only}
use Rattle.cal_doors.proofs.run.Run.is_alone.Goals as goal

pub returns : goal.returns
returns c = λ h x is later.
    let only = to_z-of_z c.ranges.only in
    let instant = to_z-of_z c.ranges.instant in
    let back : to_z w64 (of_z w64 (c.args.only -ℤ pos 1)) ≡ c.args.only -ℤ pos 1 = omega (arith, signed_arith, only, instant, c.ranges.only.sfits, c.ranges.instant.sfits, c.if-only-instant.false) in
    at_only x.instant c.args.instant c.args.only later ((rw (only, instant, back) at (c.is_quiet.ensures c.if-not-is_quiet.false)) x is) ((rw only at (c.is_over.ensures h)) x is)
