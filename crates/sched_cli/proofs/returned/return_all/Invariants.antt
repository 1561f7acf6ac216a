use Rattle.std.proofs.Common.{◌≡◌, length}
use Rattle.sched_cli.specs.Returned.{ReturnsAll}
use Rattle.sched_cli.proofs.returned.return_all.Given as goal

abbrev pub invariant-loop-left : goal.invariant-loop-left
invariant-loop-left g l =
    ReturnsAll l.fn.way l.fn.octets l.left (g.W.Output.contents l.fn.writer) (g.W.Output.contents l.writer)
    × (g.W.Output.has_failed l.writer ≡ g.W.Output.has_failed l.fn.writer)

abbrev pub decreases-loop-left : goal.decreases-loop-left
decreases-loop-left g l = length l.left
