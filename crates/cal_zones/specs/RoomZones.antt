-- The zone of a room.
use Rattle.std.specs.Prelude.{ℕ, List, Option}
use Rattle.profile.specs.series.Zones.{Zone}
use Rattle.cal_zones.specs.Kinds.{zone_of}
use Rattle.cal_zones.specs.RoomWords.{form_words, own_zone}
use Rattle.cal_zones.specs.declared.room_zone.RoomZone.{RoomZone}

-- its words
abbrev pub words_of : RoomZone → List ℕ
words_of r = form_words r.kept.kind

-- the zone that they mean
abbrev pub room_of : RoomZone → Option Zone
room_of r = own_zone (zone_of r.kept)
