use Rattle.std.proofs.Common.{subst, sym, List, map}
use Rattle.std.specs.List.{AllZip}
use Rattle.std.specs.Prelude.{None}
use Rattle.profile.specs.events.EventComponents.{EventComponent as SaidComponent}
use Rattle.profile.specs.events.Placed.{SaysPlaced}
use Rattle.cal_zones.specs.RoomZones.{room_of}
use Rattle.ical_tree.specs.Tree.{tree_of}
use Rattle.cal_events.specs.Component.{component_of, vevents_of}
use Rattle.cal_events.specs.OneMeeting.{meeting_of}
use Rattle.cal_events.proofs.shared_lemmas.TreeLemmas.{vevents_tree}
use Rattle.cal_events.proofs.shared_lemmas.MeetingLemmas.{meeting_there}
use Rattle.cal_events.proofs.meeting_components.MeetingComponents.read.Goals as goal

pub of-requires : goal.of-requires
of-requires c = record { masters = c.in_ok-components.ensures.says.masters }

pub returns-clause-says : goal.returns-clause-says
returns-clause-says c =
    let object = c.args.object.now in
    let are = c.in_ok-components.ensures.says in
    meeting_there (room_of c.args.room.now) (tree_of object) (vevents_of object) (vevents_tree object) None (map component_of c.in_ok-components.components.items)
    (subst (λ (l : List SaidComponent). AllZip (SaysPlaced (room_of c.args.room.now) (tree_of object) None) (vevents_of object) l) (sym are.taken) are.says)
    (meeting_of c.in_ok-divided.divided) are.some are.one c.in_ok-divided.ensures.master c.in_ok-divided.ensures.overrides are.differ
