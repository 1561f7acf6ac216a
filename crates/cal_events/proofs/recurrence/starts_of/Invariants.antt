use Rattle.std.proofs.Common.{take}
use Rattle.cal_events.specs.Instants.{AreStartsOf}
use Rattle.cal_events.proofs.recurrence.starts_of.Given as goal

-- of those before
abbrev pub invariant-loop-instant : goal.invariant-loop-instant
invariant-loop-instant l = AreStartsOf (take l.instant-index l.instants) l.exceptions l.starts.items
