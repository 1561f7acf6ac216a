use Rattle.std.proofs.Common.{◌≡◌, map}
use Rattle.profile.specs.events.Events.{as_added}
use Rattle.cal_events.specs.Begins.{begins_of}
use Rattle.cal_events.specs.Component.{component_of}
use Rattle.cal_events.proofs.meeting_components.all_added.Given as goal

abbrev pub invariant-loop-component : goal.invariant-loop-component
invariant-loop-component l =
    (map component_of l.added.items ≡ map as_added (map component_of l.yielded)) × (begins_of l.added.items ≡ begins_of l.yielded)
