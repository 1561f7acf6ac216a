use Rattle.sched_box.proofs.MessageLemmas.{ReadSofar}
use Rattle.sched_box.proofs.folders.messages_among.Given as goal

abbrev pub invariant-loop-name : goal.invariant-loop-name
invariant-loop-name l = ReadSofar l.yielded l.files.items
