use Rattle.std.proofs.Common.{true}
use Rattle.ical_tree.proofs.TreeOfLemmas.{object_tree}
use Rattle.cal_doors.proofs.readable.object_of.Goals as goal

pub returns-in-Ok : goal.returns-in-Ok
returns-in-Ok c = object_tree true c.in-Ok.object c.args.text.now c.in-Ok.ensures.spelled
