use Rattle.std.proofs.Common.{ap, to_z-of_z}
use Rattle.cal_zones.specs.Onsets.{observance_of}
use Rattle.cal_doors.specs.Runs.{run_of}
use Rattle.cal_doors.specs.Ends.{end_of}
use Rattle.cal_doors.proofs.GoingOn.{stays, goes_on}
use Rattle.cal_doors.proofs.run.Run.past_until.Goals as goal

pub returns-then-has_onset_in : goal.returns-then-has_onset_in
returns-then-has_onset_in c =
    stays c.args.to c.args.until (run_of c.args.self.now) (ap end_of c.requires)
    (rw (to_z-of_z c.ranges.until, to_z-of_z c.ranges.to) at (c.has_onset_in.ensures.yes c.if-has_onset_in.true))

pub returns : goal.returns
returns c =
    let e = c.endless.ensures in
    goes_on c.args.to c.args.until (run_of c.args.self.now) (run_of c.endless.result) (ap observance_of e.observance) (ap end_of e.end) (ap end_of c.requires)
    (rw (to_z-of_z c.ranges.until, to_z-of_z c.ranges.to) at (c.has_onset_in.ensures.no c.if-has_onset_in.false))
