use Rattle.cal_zones.specs.Spaced.{IsSpaced}
use Rattle.cal_zones.proofs.pair.is_spaced.Given as goal

abbrev pub invariant-loop-year : goal.invariant-loop-year
invariant-loop-year l = IsSpaced l.a l.b l.first l.second l.year
