use Rattle.std.proofs.Common.{◌≡◌, drop, map, option_map}
use Rattle.std.specs.List.{find}
use Rattle.std.specs.Str.{bytes_eq}
use Rattle.ical_values.specs.Octets.{address_octets}
use Rattle.profile.specs.events.EventComponents.{answer_of}
use Rattle.cal_events.specs.Component.{attendee_of, component_of}
use Rattle.cal_events.proofs.component.EventComponent.status_of.Given as goal

-- those that are left decide it
abbrev pub invariant-loop-attendee : goal.invariant-loop-attendee
invariant-loop-attendee l =
    answer_of (address_octets l.address) (component_of l.self)
    ≡ option_map (λ a. a.participation) (find (λ a. bytes_eq a.address (address_octets l.address)) (map attendee_of (drop l.attendee-index l.self.attendees.items)))
