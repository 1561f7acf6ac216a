use Rattle.std.proofs.Common.{subst}
use Rattle.ical_tree.specs.Tree.{tree_of}
use Rattle.profile.specs.series.ZoneTexts.{SaysZone}
use Rattle.cal_doors.proofs.right.says.Goals as goal

pub returns-in-Ok : goal.returns-in-Ok
returns-in-Ok c = λ same. subst (SaysZone (tree_of c.args.zone.now)) (c.is_same.ensures same) c.in-Ok.ensures.says
