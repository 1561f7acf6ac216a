use Rattle.cal_doors.proofs.AdaptWhole.{NamedSofar}
use Rattle.cal_doors.proofs.changes.names_going_on.Given as goal

-- the names so far, and the changes that are left
abbrev pub invariant-loop-name : goal.invariant-loop-name
invariant-loop-name l = NamedSofar l.fn.changes.entries l.name-iterator l.names.items
