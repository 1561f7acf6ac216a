use Rattle.std.proofs.Common.{◌≡◌, drop}
use Rattle.std.specs.List.{list_all}
use Rattle.profile.specs.events.Messages.{has_one_attendee}
use Rattle.cal_events.specs.Component.{component_of}
use Rattle.itip_messages.proofs.message_events.first_without_one.Given as goal

-- all so far have one
abbrev pub invariant-loop-event : goal.invariant-loop-event
invariant-loop-event l =
    list_all (λ event. has_one_attendee (component_of event)) (drop l.event-index l.events) ≡ list_all (λ event. has_one_attendee (component_of event)) l.fn.events
