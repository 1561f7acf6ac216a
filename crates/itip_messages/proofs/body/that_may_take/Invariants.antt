use Rattle.std.proofs.Common.{◌≡◌, filter, map, take}
use Rattle.profile.specs.rooms.Messages.{may_take}
use Rattle.cal_events.specs.Component.{time_of}
use Rattle.itip_messages.proofs.body.that_may_take.Given as goal

-- those so far
abbrev pub invariant-loop-time : goal.invariant-loop-time
invariant-loop-time l = map time_of l.kept.items ≡ filter may_take (map time_of (take l.time-index l.times))
