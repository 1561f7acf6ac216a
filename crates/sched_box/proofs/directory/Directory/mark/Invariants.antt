use Rattle.sched_box.specs.Asked.{directory_addresses}
use Rattle.sched_box.proofs.AskedLemmas.{MarksSofar}
use Rattle.sched_box.proofs.directory.Directory.mark.Given as goal

abbrev pub invariant-loop-attendee : goal.invariant-loop-attendee
invariant-loop-attendee l = MarksSofar (directory_addresses l.self) l.attendees l.attendee-index l.fn.asked.items l.asked.items
