use Rattle.std.proofs.Common.{ap, refl, arith}
use Rattle.sched_cli.specs.Explained.{meaning_of}
use Rattle.sched_cli.proofs.Meanings.{ones, tens}
use Rattle.sched_cli.proofs.explain.explanation.Goals as goal

pub returns-in-1-clause-own : goal.returns-in-1-clause-own
unfolding meaning_of
returns-in-1-clause-own c = rw (ones c.in-1.is (omega arith), ap meaning_of c.in-1.is) refl

pub returns-in-2-clause-own : goal.returns-in-2-clause-own
unfolding meaning_of
returns-in-2-clause-own c = rw (ones c.in-2.is (omega arith), ap meaning_of c.in-2.is) refl

pub returns-in-3-clause-own : goal.returns-in-3-clause-own
unfolding meaning_of
returns-in-3-clause-own c = rw (ones c.in-3.is (omega arith), ap meaning_of c.in-3.is) refl

pub returns-in-4-clause-own : goal.returns-in-4-clause-own
unfolding meaning_of
returns-in-4-clause-own c = rw (ones c.in-4.is (omega arith), ap meaning_of c.in-4.is) refl

pub returns-in-5-clause-own : goal.returns-in-5-clause-own
unfolding meaning_of
returns-in-5-clause-own c = rw (ones c.in-5.is (omega arith), ap meaning_of c.in-5.is) refl

pub returns-in-6-clause-own : goal.returns-in-6-clause-own
unfolding meaning_of
returns-in-6-clause-own c = rw (ones c.in-6.is (omega arith), ap meaning_of c.in-6.is) refl

pub returns-in-10-clause-own : goal.returns-in-10-clause-own
unfolding meaning_of
returns-in-10-clause-own c = rw (tens c.in-10.is (omega arith) (omega arith), ap meaning_of c.in-10.is) refl

pub returns-in-11-clause-own : goal.returns-in-11-clause-own
unfolding meaning_of
returns-in-11-clause-own c = rw (tens c.in-11.is (omega arith) (omega arith), ap meaning_of c.in-11.is) refl

pub returns-in-12-clause-own : goal.returns-in-12-clause-own
unfolding meaning_of
returns-in-12-clause-own c = rw (tens c.in-12.is (omega arith) (omega arith), ap meaning_of c.in-12.is) refl

pub returns-in-13-clause-own : goal.returns-in-13-clause-own
unfolding meaning_of
returns-in-13-clause-own c = rw (tens c.in-13.is (omega arith) (omega arith), ap meaning_of c.in-13.is) refl

pub returns-in-14-clause-own : goal.returns-in-14-clause-own
unfolding meaning_of
returns-in-14-clause-own c = rw (tens c.in-14.is (omega arith) (omega arith), ap meaning_of c.in-14.is) refl

pub returns-in-15-clause-own : goal.returns-in-15-clause-own
unfolding meaning_of
returns-in-15-clause-own c = rw (tens c.in-15.is (omega arith) (omega arith), ap meaning_of c.in-15.is) refl

pub returns-in-16-clause-own : goal.returns-in-16-clause-own
unfolding meaning_of
returns-in-16-clause-own c = rw (tens c.in-16.is (omega arith) (omega arith), ap meaning_of c.in-16.is) refl

pub returns-in-20-clause-own : goal.returns-in-20-clause-own
unfolding meaning_of
returns-in-20-clause-own c = rw (tens c.in-20.is (omega arith) (omega arith), ap meaning_of c.in-20.is) refl

pub returns-in-21-clause-own : goal.returns-in-21-clause-own
unfolding meaning_of
returns-in-21-clause-own c = rw (tens c.in-21.is (omega arith) (omega arith), ap meaning_of c.in-21.is) refl

pub returns-in-22-clause-own : goal.returns-in-22-clause-own
unfolding meaning_of
returns-in-22-clause-own c = rw (tens c.in-22.is (omega arith) (omega arith), ap meaning_of c.in-22.is) refl

pub returns-in-23-clause-own : goal.returns-in-23-clause-own
unfolding meaning_of
returns-in-23-clause-own c = rw (tens c.in-23.is (omega arith) (omega arith), ap meaning_of c.in-23.is) refl

pub returns-in-24-clause-own : goal.returns-in-24-clause-own
unfolding meaning_of
returns-in-24-clause-own c = rw (tens c.in-24.is (omega arith) (omega arith), ap meaning_of c.in-24.is) refl

pub returns-in-25-clause-own : goal.returns-in-25-clause-own
unfolding meaning_of
returns-in-25-clause-own c = rw (tens c.in-25.is (omega arith) (omega arith), ap meaning_of c.in-25.is) refl

pub returns-in-30-clause-own : goal.returns-in-30-clause-own
unfolding meaning_of
returns-in-30-clause-own c = rw (tens c.in-30.is (omega arith) (omega arith), ap meaning_of c.in-30.is) refl

pub returns-in-31-clause-own : goal.returns-in-31-clause-own
unfolding meaning_of
returns-in-31-clause-own c = rw (tens c.in-31.is (omega arith) (omega arith), ap meaning_of c.in-31.is) refl

pub returns-in-32-clause-own : goal.returns-in-32-clause-own
unfolding meaning_of
returns-in-32-clause-own c = rw (tens c.in-32.is (omega arith) (omega arith), ap meaning_of c.in-32.is) refl

pub returns-in-33-clause-own : goal.returns-in-33-clause-own
unfolding meaning_of
returns-in-33-clause-own c = rw (tens c.in-33.is (omega arith) (omega arith), ap meaning_of c.in-33.is) refl

pub returns-in-34-clause-own : goal.returns-in-34-clause-own
unfolding meaning_of
returns-in-34-clause-own c = rw (tens c.in-34.is (omega arith) (omega arith), ap meaning_of c.in-34.is) refl

pub returns-in-40-clause-own : goal.returns-in-40-clause-own
unfolding meaning_of
returns-in-40-clause-own c = rw (tens c.in-40.is (omega arith) (omega arith), ap meaning_of c.in-40.is) refl

pub returns-in-41-clause-own : goal.returns-in-41-clause-own
unfolding meaning_of
returns-in-41-clause-own c = rw (tens c.in-41.is (omega arith) (omega arith), ap meaning_of c.in-41.is) refl

pub returns-in-42-clause-own : goal.returns-in-42-clause-own
unfolding meaning_of
returns-in-42-clause-own c = rw (tens c.in-42.is (omega arith) (omega arith), ap meaning_of c.in-42.is) refl

pub returns-in-43-clause-own : goal.returns-in-43-clause-own
unfolding meaning_of
returns-in-43-clause-own c = rw (tens c.in-43.is (omega arith) (omega arith), ap meaning_of c.in-43.is) refl

pub returns-in-44-clause-own : goal.returns-in-44-clause-own
unfolding meaning_of
returns-in-44-clause-own c = rw (tens c.in-44.is (omega arith) (omega arith), ap meaning_of c.in-44.is) refl

pub returns-in-50-clause-own : goal.returns-in-50-clause-own
unfolding meaning_of
returns-in-50-clause-own c = rw (tens c.in-50.is (omega arith) (omega arith), ap meaning_of c.in-50.is) refl

pub returns-in-51-clause-own : goal.returns-in-51-clause-own
unfolding meaning_of
returns-in-51-clause-own c = rw (tens c.in-51.is (omega arith) (omega arith), ap meaning_of c.in-51.is) refl

pub returns-in-52-clause-own : goal.returns-in-52-clause-own
unfolding meaning_of
returns-in-52-clause-own c = rw (tens c.in-52.is (omega arith) (omega arith), ap meaning_of c.in-52.is) refl

pub returns-in-53-clause-own : goal.returns-in-53-clause-own
unfolding meaning_of
returns-in-53-clause-own c = rw (tens c.in-53.is (omega arith) (omega arith), ap meaning_of c.in-53.is) refl

pub returns-in-54-clause-own : goal.returns-in-54-clause-own
unfolding meaning_of
returns-in-54-clause-own c = rw (tens c.in-54.is (omega arith) (omega arith), ap meaning_of c.in-54.is) refl

pub returns-in-56-clause-own : goal.returns-in-56-clause-own
unfolding meaning_of
returns-in-56-clause-own c = rw (tens c.in-56.is (omega arith) (omega arith), ap meaning_of c.in-56.is) refl

pub returns-in-57-clause-own : goal.returns-in-57-clause-own
unfolding meaning_of
returns-in-57-clause-own c = rw (tens c.in-57.is (omega arith) (omega arith), ap meaning_of c.in-57.is) refl

pub returns-in-60-clause-own : goal.returns-in-60-clause-own
unfolding meaning_of
returns-in-60-clause-own c = rw (tens c.in-60.is (omega arith) (omega arith), ap meaning_of c.in-60.is) refl

pub returns-in-61-clause-own : goal.returns-in-61-clause-own
unfolding meaning_of
returns-in-61-clause-own c = rw (tens c.in-61.is (omega arith) (omega arith), ap meaning_of c.in-61.is) refl

pub returns-in-62-clause-own : goal.returns-in-62-clause-own
unfolding meaning_of
returns-in-62-clause-own c = rw (tens c.in-62.is (omega arith) (omega arith), ap meaning_of c.in-62.is) refl

pub returns-in-63-clause-own : goal.returns-in-63-clause-own
unfolding meaning_of
returns-in-63-clause-own c = rw (tens c.in-63.is (omega arith) (omega arith), ap meaning_of c.in-63.is) refl

pub returns-in-64-clause-own : goal.returns-in-64-clause-own
unfolding meaning_of
returns-in-64-clause-own c = rw (tens c.in-64.is (omega arith) (omega arith), ap meaning_of c.in-64.is) refl

pub returns-in-65-clause-own : goal.returns-in-65-clause-own
unfolding meaning_of
returns-in-65-clause-own c = rw (tens c.in-65.is (omega arith) (omega arith), ap meaning_of c.in-65.is) refl

pub returns-in-66-clause-own : goal.returns-in-66-clause-own
unfolding meaning_of
returns-in-66-clause-own c = rw (tens c.in-66.is (omega arith) (omega arith), ap meaning_of c.in-66.is) refl

pub returns-in-67-clause-own : goal.returns-in-67-clause-own
unfolding meaning_of
returns-in-67-clause-own c = rw (tens c.in-67.is (omega arith) (omega arith), ap meaning_of c.in-67.is) refl

pub returns-in-70-clause-own : goal.returns-in-70-clause-own
unfolding meaning_of
returns-in-70-clause-own c = rw (tens c.in-70.is (omega arith) (omega arith), ap meaning_of c.in-70.is) refl

pub returns-in-71-clause-own : goal.returns-in-71-clause-own
unfolding meaning_of
returns-in-71-clause-own c = rw (tens c.in-71.is (omega arith) (omega arith), ap meaning_of c.in-71.is) refl

pub returns-in-72-clause-own : goal.returns-in-72-clause-own
unfolding meaning_of
returns-in-72-clause-own c = rw (tens c.in-72.is (omega arith) (omega arith), ap meaning_of c.in-72.is) refl

pub returns-in-73-clause-own : goal.returns-in-73-clause-own
unfolding meaning_of
returns-in-73-clause-own c = rw (tens c.in-73.is (omega arith) (omega arith), ap meaning_of c.in-73.is) refl

pub returns-in-80-clause-own : goal.returns-in-80-clause-own
unfolding meaning_of
returns-in-80-clause-own c = rw (tens c.in-80.is (omega arith) (omega arith), ap meaning_of c.in-80.is) refl

pub returns-in-81-clause-own : goal.returns-in-81-clause-own
unfolding meaning_of
returns-in-81-clause-own c = rw (tens c.in-81.is (omega arith) (omega arith), ap meaning_of c.in-81.is) refl

pub returns-in-82-clause-own : goal.returns-in-82-clause-own
unfolding meaning_of
returns-in-82-clause-own c = rw (tens c.in-82.is (omega arith) (omega arith), ap meaning_of c.in-82.is) refl

pub returns-in-83-clause-own : goal.returns-in-83-clause-own
unfolding meaning_of
returns-in-83-clause-own c = rw (tens c.in-83.is (omega arith) (omega arith), ap meaning_of c.in-83.is) refl

pub returns-in-84-clause-own : goal.returns-in-84-clause-own
unfolding meaning_of
returns-in-84-clause-own c = rw (tens c.in-84.is (omega arith) (omega arith), ap meaning_of c.in-84.is) refl

pub returns-in-90-clause-own : goal.returns-in-90-clause-own
unfolding meaning_of
returns-in-90-clause-own c = rw (tens c.in-90.is (omega arith) (omega arith), ap meaning_of c.in-90.is) refl
