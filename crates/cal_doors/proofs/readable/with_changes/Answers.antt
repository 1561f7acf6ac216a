use Rattle.std.proofs.Common.{ℕ, List, subst}
use Rattle.ical_tree.specs.Tree.{tree_of}
use Rattle.cal_doors.specs.Adapted.{IsRightlyAdapted}
use Rattle.cal_doors.proofs.readable.with_changes.Goals as goal

pub is_right-requires-clause-before : goal.is_right-requires-clause-before
is_right-requires-clause-before c = c.requires.before

pub is_right-requires-clause-named : goal.is_right-requires-clause-named
is_right-requires-clause-named c = c.requires.named

pub returns-clause-right : goal.returns-clause-right
returns-clause-right c =
    subst (λ (octets : List ℕ). IsRightlyAdapted (tree_of c.args.object.now) c.args.uses.now.entries c.args.changes.now.entries octets) c.as_slice.ensures.value
    (c.in_ok-is_right.ensures c.if-not-branch.false)

pub returns-clause-going_on : goal.returns-clause-going_on
returns-clause-going_on c = c.in_ok-going_on.ensures
