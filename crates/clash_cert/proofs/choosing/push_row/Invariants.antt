use Rattle.std.proofs.Common.{map}
use Rattle.cal_events.specs.Series.{series_said}
use Rattle.clash_cert.specs.Texts.{pair_said}
use Rattle.clash_cert.specs.Chosen.{AreKeptFrom, ArePairsMade}
use Rattle.clash_cert.proofs.choosing.push_row.Given as goal

-- the entries with the series before j are there
abbrev pub invariant-loop-j : goal.invariant-loop-j
invariant-loop-j l = ArePairsMade (AreKeptFrom l.old l.kept (map series_said l.series)) (map series_said l.series) l.i l.j (map pair_said l.pairs.items)
