use Rattle.std.proofs.Common.{map}
use Rattle.cal_events.specs.Series.{series_said}
use Rattle.clash_cert.specs.Looked.{AreRowsLookedAt}
use Rattle.clash_cert.proofs.looking.clash_of_new.Given as goal

-- the pairs of the series so far are looked at
abbrev pub invariant-loop-i : goal.invariant-loop-i
invariant-loop-i l = AreRowsLookedAt l.kept (map series_said l.series) l.i
