use Rattle.std.specs.Prelude.{map, take}
use Rattle.std.specs.List.{AllZip}
use Rattle.profile.specs.events.Placed.{IsAt}
use Rattle.cal_zones.specs.RoomZones.{room_of}
use Rattle.cal_events.specs.Component.{time_of}
use Rattle.cal_events.proofs.place.instants_in.Given as goal

-- the instants so far are those of the times so far
abbrev pub invariant-loop-time : goal.invariant-loop-time
invariant-loop-time l = AllZip (IsAt (room_of l.room)) (map time_of (take l.time-index l.times)) l.instants.items
