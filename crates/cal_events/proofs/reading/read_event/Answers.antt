use Rattle.std.proofs.lemmas.Result.{IfErr-weaker}
use Rattle.ical_lines.specs.Fault.{RefusesOnly, RefusesBy}
use Rattle.profile.specs.faults.Faults.{is_meeting_event_fault}
use Rattle.profile.specs.events.EventComponents.{EventComponentFault}
use Rattle.ical_tree.specs.Own.{own_lines}
use Rattle.cal_events.specs.Component.{method_read}
use Rattle.cal_events.specs.Zones.{object_of}
use Rattle.cal_events.proofs.reading_lemmas.NumberLemmas.{refused_for}
use Rattle.cal_events.proofs.reading.read_event.Goals as goal

pub returns-clause-refuses : goal.returns-clause-refuses
returns-clause-refuses c =
    let object = object_of c.args.zones.now in
    let m = method_read c.args.method in
    let lines = own_lines c.in_ok-properties.properties in
    IfErr-weaker _ (RefusesBy (EventComponentFault object m lines)) (RefusesOnly is_meeting_event_fault) (refused_for object m lines) c.read.ensures.fault
