use Rattle.std.proofs.Common.{◌≡◌, map, take}
use Rattle.profile.specs.rooms.Messages.{instants_in}
use Rattle.cal_events.specs.Component.{form_of, time_of}
use Rattle.itip_messages.proofs.body.instants_in.Given as goal

-- those so far
abbrev pub invariant-loop-time : goal.invariant-loop-time
invariant-loop-time l = l.within.items ≡ instants_in (form_of l.form) (map time_of (take l.time-index l.times))
