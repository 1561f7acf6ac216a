use Rattle.std.proofs.Common.{map}
use Rattle.cal_events.specs.Series.{series_said}
use Rattle.clash_cert.specs.Texts.{pair_said}
use Rattle.clash_cert.specs.Chosen.{AreKeptFrom, ArePairsMade}
use Rattle.clash_cert.proofs.choosing.pairs_of.Given as goal

-- those of the first series are there
abbrev pub invariant-loop-i : goal.invariant-loop-i
invariant-loop-i l = ArePairsMade (AreKeptFrom l.old l.kept (map series_said l.series)) (map series_said l.series) l.i l.i (map pair_said l.pairs.items)
