use Rattle.std.proofs.Common.{subst}
use Rattle.ical_lines.specs.Fault.{RefusesBy}
use Rattle.profile.specs.streams.Streams.{ObjectFault}
use Rattle.sched_box.proofs.FaultLemmas.{object_fault}
use Rattle.sched_box.proofs.schedules.message_of.Goals as goal

pub returns-in-Err-Refused : goal.returns-in-Err-Refused
returns-in-Err-Refused c =
    let octets = c.args.octets.now in
    let fault = object_fault octets c.in-Err-Refused.field-0 c.in-Err-Refused.ensures.fault in
    (c.in-Err-Refused.field-0-0.number, subst (RefusesBy (λ n. ObjectFault n octets)) c.in-Err-Refused.field-0-is fault)
