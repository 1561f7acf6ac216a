use Rattle.std.proofs.Common.{◌≡◌, drop, map}
use Rattle.profile.specs.events.Messages.{master_in}
use Rattle.cal_events.specs.Component.{component_of}
use Rattle.itip_messages.proofs.message.whole_revision.Given as goal

-- those that are left decide it
abbrev pub invariant-loop-event : goal.invariant-loop-event
invariant-loop-event l = master_in (map component_of l.events) ≡ master_in (map component_of (drop l.event-index l.events))
