use Rattle.ical_values.specs.Octets.{address_octets}
use Rattle.sched_cli.proofs.AgendaSaid.{said_unwritten}
use Rattle.sched_cli.proofs.agenda.print_answer.Goals as goal

pub returns-clause-said : goal.returns-clause-said
returns-clause-said g c octets of =
    said_unwritten (address_octets c.args.room.now) octets _ _ _ c.report_write.result c.in-Err.fault c.report_write.ensures.status c.report_write.ensures.says
