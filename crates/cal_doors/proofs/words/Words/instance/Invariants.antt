use Rattle.cal_doors.proofs.words.Words.instance.Given as goal

abbrev pub invariant-loop-instance : goal.invariant-loop-instance
invariant-loop-instance l = Unit {0}
