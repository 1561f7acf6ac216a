use Rattle.cal_zones.proofs.Regular.{said_regular, kept_regular}
use Rattle.cal_zones.proofs.RoomZoneLemmas.{named_regular}
use Rattle.cal_zones.proofs.Periods.{repeat, bounds}
use Rattle.cal_zones.proofs.law.zones_repeat.Goals as goal

pub returns-clause-said : goal.returns-clause-said
returns-clause-said c = said_regular

pub returns-clause-named : goal.returns-clause-named
returns-clause-named c = named_regular

pub returns-clause-kept : goal.returns-clause-kept
returns-clause-kept c = kept_regular

pub returns-clause-repeat : goal.returns-clause-repeat
returns-clause-repeat c = repeat c.base_days_repeat.ensures

pub returns-clause-bounds : goal.returns-clause-bounds
returns-clause-bounds c = bounds
