use Rattle.cal_events.specs.Event.{said_meeting}
use Rattle.sched_cli.proofs.Printing.{finished}
use Rattle.sched_cli.proofs.expand.print_event.Goals as goal

pub returns-clause-prints : goal.returns-clause-prints
returns-clause-prints g c =
    finished (said_meeting c.args.event.now) c.args.limit (g.W.Output.contents c.args.writer.now) (g.W.Output.contents c.print_first.new.writer) (g.W.Output.contents c.hand_over.new.writer) c.print_first.new.lines.text.items
    c.in_ok-print_first.ensures.prints c.in_ok-hand_over.ensures.written
