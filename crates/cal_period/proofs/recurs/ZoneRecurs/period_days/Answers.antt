use Rattle.cal_zones.specs.Kinds.{zone_of}
use Rattle.cal_period.proofs.Multiples.{zone_are}
use Rattle.cal_period.proofs.recurs.ZoneRecurs.period_days.Goals as goal

pub returns : goal.returns
returns c = zone_are (zone_of c.args.self.now) c.period_days.result c.period_days.ensures
