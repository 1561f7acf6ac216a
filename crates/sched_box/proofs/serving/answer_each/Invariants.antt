use Rattle.std.proofs.Common.{◌≡◌, ◌+◌, ◌-◌, ◌<◌, length}
use Rattle.sched_devices.specs.Input.{ForTaken}
use Rattle.sched_box.proofs.ServingLemmas.{Counted, HaveServed}
use Rattle.sched_box.proofs.serving.answer_each.Given as goal

abbrev pub invariant-loop-answers : goal.invariant-loop-answers
invariant-loop-answers g l =
    ForTaken g.R.Input.takes g.R.Input.lent g.R.Input.has_ended l.fn.reader l.reader
    (HaveServed g.J.Journal.tells l.fn.journal l.journal l.fn.objects.left l.now l.fn.books l.books (g.W.Output.contents l.fn.writer) (g.W.Output.contents l.writer) l.objects.left l.report (length (g.R.Input.lent l.reader))
    (g.R.Input.fills l.reader + l.objects.left + (1 - length (g.R.Input.lent l.reader))) (g.R.Input.fills l.fn.reader + l.fn.objects.left + (1 - length (g.R.Input.lent l.fn.reader))))
    × (g.R.Input.has_failed l.reader ≡ g.R.Input.has_failed l.fn.reader) × (g.W.Output.has_failed l.writer ≡ g.W.Output.has_failed l.fn.writer)
    × (0 < l.objects.left)
    × Counted l.fn.objects.left l.fn.books l.books l.objects.left l.report

abbrev pub decreases-loop-answers : goal.decreases-loop-answers
decreases-loop-answers g l = l.objects.left
