use Rattle.std.proofs.Common.{map, take}
use Rattle.sched_box.specs.Answering.{IsMade}
use Rattle.sched_box.specs.Asked.{directory_addresses}
use Rattle.sched_box.specs.Settings.{zoned_room}
use Rattle.sched_box.proofs.rooms.Rooms.new.Given as goal

abbrev pub invariant-loop-host : goal.invariant-loop-host
invariant-loop-host l = IsMade l.rooms.items (directory_addresses l.directory) (map zoned_room (take l.host-index l.hosts))
