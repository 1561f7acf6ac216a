use Rattle.std.proofs.Common.{◌≡◌, map, take, List, None}
use Rattle.std.specs.List.{AllZip}
use Rattle.ical_tree.specs.Tree.{component_children, numbered_of, tree_of}
use Rattle.ical_values.specs.Octets.{address_octets}
use Rattle.profile.specs.events.EventComponents.{EventComponent}
use Rattle.profile.specs.events.Placed.{SaysPlaced}
use Rattle.cal_zones.specs.RoomZones.{room_of}
use Rattle.cal_events.specs.Draft.{IsDraft}
use Rattle.cal_events.proofs.shared_lemmas.ReadingLemmas.{events_by, events_in}
use Rattle.cal_events.proofs.draft.Draft.of_object.Given as goal

-- the VEVENTs so far say events, and the draft is of these, and begins where they do
abbrev pub invariant-loop-component : goal.invariant-loop-component
invariant-loop-component l =
    (events : List EventComponent) × AllZip (SaysPlaced (room_of l.zone) (tree_of l.object) None) (events_in (take l.component-index (component_children l.object))) events
    × IsDraft (address_octets l.room) events l.draft
    × (l.draft.begins.items ≡ map (λ event. event.begun) (events_by numbered_of (take l.component-index (component_children l.object))))
