use Rattle.sched_box.proofs.ZoneLemmas.{zone_given, zone_utc}
use Rattle.sched_box.proofs.config.zone_of.Goals as goal

pub returns-in-Some : goal.returns-in-Some
returns-in-Some c = zone_given _ _ c.in-Some.zone c.in-Some.ensures

pub returns-in-None : goal.returns-in-None
returns-in-None c = zone_utc _ _ c.utc.result c.in-None.ensures c.utc.ensures.words c.utc.ensures.zone
