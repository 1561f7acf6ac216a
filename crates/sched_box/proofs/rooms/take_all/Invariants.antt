use Rattle.sched_box.proofs.AnswerLemmas.{TakenSofar}
use Rattle.sched_box.proofs.rooms.take_all.Given as goal

abbrev pub invariant-loop-place : goal.invariant-loop-place
invariant-loop-place l = TakenSofar l.now l.message l.fn.rooms.items l.room-items l.place l.fn.answers.items l.answers.items l.effects
