use Rattle.std.proofs.Common.{◌≡◌, map, take}
use Rattle.ical_values.specs.Octets.{address_octets}
use Rattle.profile.specs.rooms.Kept.{each_once}
use Rattle.sched_box.specs.Asked.{directory_addresses}
use Rattle.sched_box.proofs.directory.Directory.of.Given as goal

abbrev pub invariant-loop-host : goal.invariant-loop-host
invariant-loop-host l = directory_addresses l.directory ≡ each_once (map address_octets (take l.host-index l.hosts))
