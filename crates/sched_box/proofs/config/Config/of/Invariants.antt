use Rattle.std.proofs.Common.{◌≡◌, map}
use Rattle.ical_values.specs.Octets.{address_octets}
use Rattle.profile.specs.streams.Streams.{room_in}
use Rattle.sched_box.specs.Settings.{zoned_room}
use Rattle.sched_box.proofs.config.Config.of.Given as goal

abbrev pub invariant-loop-address : goal.invariant-loop-address
invariant-loop-address l = map zoned_room l.rooms.items ≡ map (room_in (map zoned_room l.zones.items)) (map address_octets l.yielded)
