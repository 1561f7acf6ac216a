use Rattle.std.proofs.Common.{◌≡◌, map}
use Rattle.organiser_books.specs.declared.outgoing.Outgoing.{Outgoing}
use Rattle.sched_box.specs.Answering.{octets_each}
use Rattle.sched_box.proofs.organisers.objects_of.Given as goal

abbrev pub invariant-loop-one : goal.invariant-loop-one
invariant-loop-one l = octets_each l.objects.items ≡ map (λ (one : Outgoing). one.octets.items) l.yielded
