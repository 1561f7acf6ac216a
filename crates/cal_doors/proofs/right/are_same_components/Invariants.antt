use Rattle.std.proofs.Common.{drop}
use Rattle.cal_doors.proofs.RightOthers.{SameLeft}
use Rattle.cal_doors.proofs.right.are_same_components.Given as goal

-- where what is left of both is the same, all is
abbrev pub invariant-loop-component : goal.invariant-loop-component
invariant-loop-component l = SameLeft l.fn.before (drop l.component-index l.before) l.fn.after l.left
