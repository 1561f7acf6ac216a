use Rattle.std.proofs.Common.{◌≡◌, map, take}
use Rattle.ical_values.specs.Octets.{text_octets}
use Rattle.profile.specs.checker.Blamed.{of_uid}
use Rattle.cal_events.specs.Component.{component_of}
use Rattle.cal_events.specs.Names.{name_said}
use Rattle.cal_events.proofs.blamed.entries_of.Given as goal

-- those so far
abbrev pub invariant-loop-event : goal.invariant-loop-event
invariant-loop-event l = l.entries ≡ map name_said (of_uid (text_octets l.uid) (map component_of (take l.event-index l.events)))
