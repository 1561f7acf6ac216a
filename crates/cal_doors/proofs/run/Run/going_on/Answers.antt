use Rattle.std.proofs.Common.{ap, to_z-of_z}
use Rattle.cal_doors.specs.Runs.{run_of}
use Rattle.cal_doors.specs.Ends.{end_of}
use Rattle.cal_doors.proofs.GoingOn.{never_ended, ended_by_count}
use Rattle.cal_doors.proofs.run.Run.going_on.Goals as goal

pub returns-in-Never : goal.returns-in-Never
returns-in-Never c = never_ended c.args.to (run_of c.args.self.now) (ap end_of c.in-Never.is)

pub returns-in-After : goal.returns-in-After
returns-in-After c = ended_by_count c.args.to (run_of c.args.self.now) c.in-After.field-0 (ap end_of c.in-After.is)

pub returns-in-At : goal.returns-in-At
returns-in-At c = rw (to_z-of_z c.ranges.to) at c.past_until.ensures
