use Rattle.std.proofs.Common.{◌≡◌, ◌++◌, map, true}
use Rattle.std.specs.List.{AllZip}
use Rattle.profile.specs.events.Messages.{is_to_rooms}
use Rattle.cal_events.specs.Component.{component_of, method_said}
use Rattle.itip_messages.specs.Components.{HasInstances, SaysComponent}
use Rattle.itip_messages.proofs.message.components_of.Given as goal

-- those so far are said, with their instances in a message to rooms
abbrev pub invariant-loop-event : goal.invariant-loop-event
invariant-loop-event l =
    (l.fn.events.items ≡ l.yielded ++ l.event-iterator.rest.items)
    × AllZip SaysComponent (map component_of l.yielded) l.components.items
    × (is_to_rooms (method_said l.method) ≡ true → AllZip HasInstances (map component_of l.yielded) l.components.items)
