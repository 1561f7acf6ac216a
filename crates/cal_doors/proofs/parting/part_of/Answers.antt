use Rattle.std.proofs.Common.{subst}
use Rattle.ical_tree.specs.Tree.{tree_of}
use Rattle.cal_doors.specs.Told.{IsSingleOf}
use Rattle.cal_doors.proofs.parting.part_of.Goals as goal

pub returns : goal.returns
returns c =
    subst (IsSingleOf (tree_of c.args.whole.now) (tree_of c.args.event.now)) c.as_slice.ensures.value (c.in_ok-is_single.ensures c.if-not-branch.false)
