use Rattle.std.proofs.Common.{ap}
use Rattle.std.specs.Prelude.{None}
use Rattle.ical_lines.specs.Fault.{RefusesBy}
use Rattle.ical_tree.specs.Tree.{tree_of}
use Rattle.profile.specs.events.Events.{EventFault}
use Rattle.profile.specs.checker.Instances.{Instance}
use Rattle.ical_values.proofs.Exits.{err_exit}
use Rattle.cal_events.specs.OneMeeting.{meeting_of}
use Rattle.cal_zones.specs.RoomZones.{words_of, room_of}
use Rattle.cal_events.proofs.shared_lemmas.MeetingInstances.{one_at, dated}
use Rattle.cal_events.proofs.event_lemmas.Alike.{of_one}
use Rattle.cal_events.proofs.event.Event.of_object.Goals as goal

pub returns-in_err-components-clause-fault : goal.returns-in_err-components-clause-fault
returns-in_err-components-clause-fault c =
    err_exit _ (RefusesBy (EventFault (room_of c.args.room.now) (tree_of c.args.object.now) None)) _ c.from_residual.ensures.1 c.in_err-components.ensures.fault

pub of-requires-clause-one : goal.of-requires-clause-one
of-requires-clause-one c = of_one (room_of c.args.room.now) (tree_of c.args.object.now) (meeting_of c.in_ok-components.components) c.in_ok-components.ensures.says

pub of-requires-clause-ends : goal.of-requires-clause-ends
of-requires-clause-ends c a b =
    λ h k start slot.
    let room = c.args.room.now in
    ap (λ (x : Instance). x.end)
    (one_at (words_of room) (room_of room) c.words_mean.ensures (tree_of c.args.object.now) (meeting_of c.in_ok-components.components) c.in_ok-components.ensures.says a b h k start slot)

pub of-requires-clause-dated : goal.of-requires-clause-dated
of-requires-clause-dated c a =
    λ h.
    let room = c.args.room.now in
    let x = dated (words_of room) (room_of room) c.words_mean.ensures (tree_of c.args.object.now) (meeting_of c.in_ok-components.components) c.in_ok-components.ensures.says a h in (x.0, x.1)

pub returns-clause-says : goal.returns-clause-says
returns-clause-says c = record { said = meeting_of c.in_ok-components.components; is = c.in_ok-components.ensures.says; alike = c.in_ok-of.ensures }
