use Rattle.std.proofs.Common.{◌≡◌, ◌++◌, take}
use Rattle.std.specs.List.{flat_map}
use Rattle.sched_box.proofs.books.append_each.Given as goal

abbrev pub invariant-loop-object : goal.invariant-loop-object
invariant-loop-object l = l.answers.items ≡ l.fn.answers.items ++ flat_map (λ object. object.items) (take l.object-index l.objects)
