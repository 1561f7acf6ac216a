use Rattle.std.proofs.Common.{map}
use Rattle.cal_events.specs.Series.{series_said}
use Rattle.clash_cert.specs.Looked.{IsRowLookedAt}
use Rattle.clash_cert.proofs.looking.clash_in_row.Given as goal

-- the pairs so far are looked at
abbrev pub invariant-loop-j : goal.invariant-loop-j
invariant-loop-j l = IsRowLookedAt l.kept (map series_said l.series) l.i l.j
