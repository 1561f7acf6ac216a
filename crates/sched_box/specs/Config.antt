-- What a configuration hosts.
use Rattle.std.specs.Prelude.{ℕ, List, map}
use Rattle.ical_values.specs.Octets.{address_octets}
use Rattle.profile.specs.streams.Streams.{Config as SaidConfig, addresses}
use Rattle.sched_box.specs.Settings.{zoned_room}
use Rattle.sched_box.specs.declared.config.Config.{Config}

-- the addresses of the rooms, in the order of the lines
abbrev pub config_rooms : Config → List (List ℕ)
config_rooms config = addresses (map zoned_room config.rooms.items)

-- those of the organisers
abbrev pub config_organisers : Config → List (List ℕ)
config_organisers config = map address_octets config.organisers.items

abbrev pub config_hosts : Config → SaidConfig
config_hosts config = record { rooms = map zoned_room config.rooms.items; organisers = config_organisers config }
