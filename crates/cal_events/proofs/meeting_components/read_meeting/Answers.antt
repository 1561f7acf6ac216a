use Rattle.std.proofs.Common.{subst}
use Rattle.std.specs.Prelude.{Option, IfErr}
use Rattle.ical_lines.specs.Fault.{RefusesBy}
use Rattle.ical_tree.specs.Tree.{tree_of}
use Rattle.profile.specs.series.Zones.{Zone}
use Rattle.profile.specs.events.Events.{EventFault}
use Rattle.cal_events.specs.Component.{method_read, vevents_of}
use Rattle.cal_zones.specs.RoomZones.{room_of}
use Rattle.cal_events.proofs.shared_lemmas.MeetingLemmas.{meeting_written}
use Rattle.cal_events.proofs.meeting_components.read_meeting.Goals as goal

pub returns-clause-says : goal.returns-clause-says
returns-clause-says c =
    let object = c.args.object.now in
    meeting_written _ (tree_of object) (method_read c.args.method) (vevents_of object) (room_of c.utc-utc.result) c.utc-utc.ensures.zone c.read_meeting_in.ensures.says

pub returns-clause-fault : goal.returns-clause-fault
returns-clause-fault c =
    subst (λ (r : Option Zone). IfErr c.read_meeting_in.result (RefusesBy (EventFault r (tree_of c.args.object.now) (method_read c.args.method)))) c.utc-utc.ensures.zone c.read_meeting_in.ensures.fault
