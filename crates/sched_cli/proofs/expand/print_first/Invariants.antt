use Rattle.std.proofs.Common.{◌≡◌}
use Rattle.cal_events.specs.Event.{said_meeting}
use Rattle.sched_cli.specs.Expanding.{PrintsUpTo}
use Rattle.sched_cli.proofs.expand.print_first.Given as goal

abbrev pub invariant-loop-count : goal.invariant-loop-count
invariant-loop-count g l = record {
  printed : PrintsUpTo (said_meeting l.event) l.instances l.count (g.W.Output.contents l.fn.writer) (g.W.Output.contents l.writer) l.lines.text.items;
  mark : g.W.Output.has_failed l.writer ≡ g.W.Output.has_failed l.fn.writer;
}
