-- What the VEVENTs of one meeting represent, and the numbers of their refusals.
use Rattle.std.specs.Prelude.{ℕ, Bool, ◌||◌, ◌==◌}
use Rattle.profile.specs.faults.Faults.{is_between, is_meeting_event_fault}
use Rattle.profile.specs.events.Events.{Event}
use Rattle.cal_events.specs.Component.{meeting_with}
use Rattle.cal_events.specs.declared.meeting_components.MeetingComponents.{MeetingComponents}

abbrev pub meeting_of : MeetingComponents → Event
meeting_of m = meeting_with m.master m.overrides.items

-- a fault of VEVENTs, or between them
abbrev pub is_components_fault : ℕ → Bool
is_components_fault n = is_meeting_event_fault n || is_between 53 54 n || n == 62 || n == 66
