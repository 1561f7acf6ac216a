use Rattle.cal_zones.specs.Kinds.{zone_of}
use Rattle.cal_period.proofs.Members.{zone_recurs}
use Rattle.cal_period.proofs.recurs.ZoneRecurs.recurs.Goals as goal

pub returns : goal.returns
returns c =
    let z = zone_of c.args.self.now in
    let law = c.zones_repeat.ensures in
    zone_recurs z (λ from days. law.repeat z from days (law.kept c.args.self.now))
