use Rattle.sched_box.specs.Asked.{directory_addresses}
use Rattle.sched_box.proofs.AskedLemmas.{AsksSofar}
use Rattle.sched_box.proofs.directory.Directory.asked_by.Given as goal

abbrev pub invariant-loop-component : goal.invariant-loop-component
invariant-loop-component l = AsksSofar l.message (directory_addresses l.self) l.component-index l.asked.items
