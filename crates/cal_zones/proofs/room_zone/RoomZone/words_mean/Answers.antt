use Rattle.cal_zones.proofs.RoomZoneLemmas.{room_means}
use Rattle.cal_zones.proofs.room_zone.RoomZone.words_mean.Goals as goal

pub returns : goal.returns
returns c = room_means c.args.self
