use Rattle.std.proofs.Common.{take}
use Rattle.itip_messages.specs.Reply.{WritesEvents}
use Rattle.itip_messages.proofs.reply.write_events.Given as goal

abbrev pub invariant-loop-event : goal.invariant-loop-event
invariant-loop-event l = WritesEvents (take l.event-index l.events) l.initial.object l.object
