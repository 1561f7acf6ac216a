use Rattle.std.proofs.Common.{◌≡◌, map, filter}
use Rattle.std.specs.Prelude.{Some}
use Rattle.profile.specs.events.Events.{is_master, is_override}
use Rattle.cal_events.specs.Component.{component_of}
use Rattle.cal_events.specs.MeetingComponents.{instants_said}
use Rattle.cal_events.proofs.meeting_components.MeetingComponents.of.Given as goal

-- those so far are divided
abbrev pub invariant-loop-component : goal.invariant-loop-component
invariant-loop-component l =
    (filter is_master (map component_of l.yielded) ≡ map component_of l.masters.items)
    × (filter is_override (map component_of l.yielded) ≡ map component_of l.overrides.items)
    × (map Some l.instants.items ≡ instants_said (map component_of l.overrides.items))
