use Rattle.std.proofs.Common.{take}
use Rattle.cal_events.specs.Past.{ArePast, IsFirstPast}
use Rattle.cal_events.proofs.regular.past_exceptions.Given as goal

-- past those before
abbrev pub invariant-loop-exception : goal.invariant-loop-exception
invariant-loop-exception l = IsFirstPast l.from (ArePast (take l.exception-index l.exceptions)) l.past
