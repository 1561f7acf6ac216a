use Rattle.std.proofs.Common.{to_z-of_z}
use Rattle.cal_zones.specs.Onsets.{observance_of}
use Rattle.cal_doors.proofs.GoingOn.{no_onset}
use Rattle.cal_doors.proofs.run.Run.has_onset_in.Goals as goal

pub returns-in-None-clause-no : goal.returns-in-None-clause-no
returns-in-None-clause-no c = λ _.
    no_onset (observance_of c.args.self.now.observance) c.args.after c.args.until (rw (to_z-of_z c.ranges.until) at c.in-None.ensures.latest)
