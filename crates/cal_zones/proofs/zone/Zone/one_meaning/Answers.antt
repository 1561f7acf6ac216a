use Rattle.cal_zones.specs.Kinds.{zone_of}
use Rattle.cal_zones.proofs.Once.{once}
use Rattle.cal_zones.proofs.Zones.{sides_of, unique, one_meaning}
use Rattle.cal_zones.proofs.zone.Zone.one_meaning.Goals as goal

pub returns-clause-offset : goal.returns-clause-offset
returns-clause-offset c t p q h k = unique (zone_of c.args.self.now) t p q (once c.args.self.now) h k

pub returns-clause-meaning : goal.returns-clause-meaning
returns-clause-meaning c local t u h k =
    let z = zone_of c.args.self.now in
    one_meaning z c.ends.result.0 c.ends.result.1 local t u (sides_of z c.ends.result.0 c.ends.result.1 c.ends.ensures.ends) h k
