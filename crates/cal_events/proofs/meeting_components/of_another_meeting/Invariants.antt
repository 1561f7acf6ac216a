use Rattle.std.proofs.Common.{◌≡◌, drop}
use Rattle.std.specs.List.{list_all}
use Rattle.profile.specs.events.Events.{is_same_meeting}
use Rattle.cal_events.specs.Component.{component_of}
use Rattle.cal_events.specs.declared.component.EventComponent.{EventComponent}
use Rattle.cal_events.proofs.meeting_components.of_another_meeting.Given as goal

-- those that are left decide it
abbrev pub invariant-loop-other : goal.invariant-loop-other
invariant-loop-other l =
    list_all (λ (other : EventComponent). is_same_meeting (component_of l.first) (component_of other)) l.others
    ≡ list_all (λ (other : EventComponent). is_same_meeting (component_of l.first) (component_of other)) (drop l.other-index l.others)
