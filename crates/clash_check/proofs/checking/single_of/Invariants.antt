use Rattle.cal_events.specs.Calendar.{owned_key_of}
use Rattle.clash_check.proofs.ClashLemmas.{NoneHas}
use Rattle.clash_check.proofs.checking.single_of.Given as goal

abbrev pub invariant-loop-place : goal.invariant-loop-place
invariant-loop-place l = NoneHas l.calendar.singles (owned_key_of l.key) l.place
