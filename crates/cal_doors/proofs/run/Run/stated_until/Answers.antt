use Rattle.std.proofs.Common.{ap, arith, to_z-of_z}
use Rattle.jiff_core.proofs.SignedLemmas.{signed_arith}
use Rattle.cal_doors.specs.Runs.{run_of}
use Rattle.cal_doors.specs.Ends.{end_of}
use Rattle.cal_doors.proofs.Stated.{of_latest, of_until, end_behind}
use Rattle.cal_doors.proofs.run.Run.stated_until.Goals as goal

pub returns-then-until-instant : goal.returns-then-until-instant
returns-then-until-instant c =
    let until = to_z-of_z c.ranges.until in
    let instant = to_z-of_z c.ranges.instant in
    rw until (of_until (run_of c.args.self.now) c.args.instant c.args.until (ap end_of c.requires) (omega (arith, signed_arith, until, instant, c.if-until-instant.true)))

pub returns : goal.returns
returns c =
    let until = to_z-of_z c.ranges.until in
    let instant = to_z-of_z c.ranges.instant in
    of_latest (run_of c.args.self.now) c.args.instant c.latest_onset.result
    (end_behind (run_of c.args.self.now) c.args.instant c.args.until (ap end_of c.requires) (omega (arith, signed_arith, until, instant, c.if-until-instant.false)))
    (rw instant at c.latest_onset.ensures.latest)
