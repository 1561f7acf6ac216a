use Rattle.cal_period.proofs.Sharers.{AreNoneBefore}
use Rattle.cal_period.proofs.beside.single_beside_series.Given as goal

abbrev pub invariant-loop-single : goal.invariant-loop-single
invariant-loop-single l = AreNoneBefore l.calendar l.single
