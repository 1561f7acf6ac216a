use Rattle.std.proofs.Common.{◌≡◌, take, map}
use Rattle.std.specs.List.{AllZip}
use Rattle.ical_tree.specs.Tree.{component_children, numbered_of, tree_of}
use Rattle.profile.specs.events.Placed.{SaysPlaced}
use Rattle.cal_zones.specs.RoomZones.{room_of}
use Rattle.cal_events.specs.Component.{component_of, method_read}
use Rattle.cal_events.proofs.shared_lemmas.ReadingLemmas.{events_by, events_in}
use Rattle.cal_events.proofs.reading.read_events.Given as goal

-- the VEVENTs so far say the events so far, and begin where they do
abbrev pub invariant-loop-component : goal.invariant-loop-component
invariant-loop-component l =
    AllZip (SaysPlaced (room_of l.room) (tree_of l.object) (method_read l.method)) (events_in (take l.component-index (component_children l.object))) (map component_of l.events.items)
    × (map (λ event. event.begun) l.events.items ≡ map (λ event. event.begun) (events_by numbered_of (take l.component-index (component_children l.object))))
