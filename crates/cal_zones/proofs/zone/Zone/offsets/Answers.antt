use Rattle.cal_zones.specs.Kinds.{zone_of}
use Rattle.cal_zones.proofs.Zones.{bounds_of}
use Rattle.cal_zones.proofs.Ends.{are_offsets}
use Rattle.cal_zones.proofs.zone.Zone.offsets.Goals as goal

pub returns-clause-bounds : goal.returns-clause-bounds
returns-clause-bounds c =
    bounds_of (zone_of c.args.self.now) c.ends.result.0 c.ends.result.1 c.first_onsets.result.0 c.first_onsets.result.1 c.ends.ensures.ends c.first_onsets.ensures

pub returns-clause-is_offset : goal.returns-clause-is_offset
returns-clause-is_offset c = are_offsets (zone_of c.args.self.now) c.ends.result.0 c.ends.result.1 c.ends.ensures.ends
