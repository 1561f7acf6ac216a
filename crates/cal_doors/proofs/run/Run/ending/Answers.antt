use Rattle.std.proofs.Common.{refl, to_z-of_z}
use Rattle.cal_doors.specs.Runs.{run_of}
use Rattle.cal_doors.proofs.RunsUpTo.{same_ending}
use Rattle.cal_doors.proofs.run.Run.ending.Goals as goal

pub returns : goal.returns
returns c = same_ending c.args.to (run_of c.args.self.now) _ refl (rw (to_z-of_z c.ranges.to) at c.ending_by-run.ensures)
