use Rattle.profile.specs.events.Events.{EventTextFault}
use Rattle.cal_zones.specs.RoomZones.{room_of, words_of}
use Rattle.cal_events.specs.Event.{said_meeting}
use Rattle.sched_cli.proofs.Printing.{expanded}
use Rattle.sched_cli.proofs.Saying.{refused_at_3, said_read, said_write}
use Rattle.sched_cli.proofs.expand.run_expand.Goals as goal

pub returns-in-Err-clause-refused : goal.returns-in-Err-clause-refused
returns-in-Err-clause-refused g c =
    refused_at_3 (EventTextFault (room_of c.args.zone.now) c.args.octets.now) c.report_read.result _ _ _ _ c.report_read.ensures.status c.in-Err.ensures.fault c.report_read.ensures.says

pub returns-in-Err-clause-said : goal.returns-in-Err-clause-said
returns-in-Err-clause-said g c = said_read _ _ _ _ _ c.report_read.ensures.status c.report_read.ensures.says

pub returns-clause-said : goal.returns-clause-said
returns-clause-said g c = said_write _ _ _ _ _ c.report_write.ensures.status c.report_write.ensures.says

pub returns-in-Ok-print_event-clause-expands : goal.returns-in-Ok-print_event-clause-expands
returns-in-Ok-print_event-clause-expands g c _ =
    expanded c.one_instance.ensures.one c.one_instance.ensures.dates (words_of c.args.zone.now) (room_of c.args.zone.now) c.args.octets.now (said_meeting c.in-Ok.event) c.in-Ok.ensures.spells.said c.args.limit
    (g.W.Output.contents c.args.writer.now) (g.W.Output.contents c.print_event.new.writer) c.words_mean.ensures c.in-Ok.ensures.spells.is c.in-Ok.ensures.spells.alike c.in-Ok-print_event.ensures.prints
