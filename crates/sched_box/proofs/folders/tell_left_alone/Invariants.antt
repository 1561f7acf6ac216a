use Rattle.std.proofs.Common.{take, map, string_bytes}
use Rattle.sched_box.specs.Telling.{AllPassed}
use Rattle.sched_box.proofs.folders.tell_left_alone.Given as goal

abbrev pub invariant-loop-name : goal.invariant-loop-name
invariant-loop-name g l = AllPassed g.J.Journal.passes l.fn.journal (map string_bytes (take l.name-index l.names)) l.journal
