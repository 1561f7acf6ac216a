use Rattle.std.proofs.Common.{ap, to_z-of_z}
use Rattle.cal_doors.specs.Runs.{run_of}
use Rattle.cal_doors.specs.Ends.{end_of}
use Rattle.cal_doors.proofs.Stated.{of_latest, no_end, counted_end}
use Rattle.cal_doors.proofs.run.Run.last_stated.Goals as goal

pub returns-in-Never : goal.returns-in-Never
returns-in-Never c =
    of_latest (run_of c.args.self.now) c.args.instant c.latest_onset.result (no_end (run_of c.args.self.now) c.args.instant (ap end_of c.in-Never.is))
    (rw (to_z-of_z c.ranges.instant) at c.latest_onset.ensures.latest)

pub returns-in-After : goal.returns-in-After
returns-in-After c =
    of_latest (run_of c.args.self.now) c.args.instant c.latest_onset-in-After.result (counted_end (run_of c.args.self.now) c.args.instant c.in-After.field-0 (ap end_of c.in-After.is))
    (rw (to_z-of_z c.ranges.instant) at c.latest_onset-in-After.ensures.latest)

pub returns-in-At : goal.returns-in-At
returns-in-At c = rw (to_z-of_z c.ranges.instant) at c.stated_until.ensures
