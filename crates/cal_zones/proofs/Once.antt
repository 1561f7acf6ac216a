-- What a zone's invariants say of what it represents.
use Rattle.profile.specs.series.Zones.{IsZoneOnset}
use Rattle.cal_zones.specs.Onsets.{observance_of}
use Rattle.cal_zones.specs.Kinds.{zone_of_form, zone_of}
use Rattle.cal_zones.specs.declared.zone.Form as rust
use Rattle.cal_zones.specs.declared.zone.Form.TheVariants as the
use Rattle.cal_zones.specs.declared.zone.Zone as kept
use Rattle.cal_zones.proofs.Force.{OneAtOnce}
use Rattle.cal_zones.proofs.Zones.{once_constant, once_single, once_pair}

once_kind : (k : rust.Form) → OneAtOnce (IsZoneOnset (zone_of_form k))
once_kind (the.Constant f) = once_constant f.offset
once_kind (the.Single a) = once_single (observance_of a.observance)
once_kind (the.Pair p) = once_pair (observance_of p.standard) (observance_of p.daylight) p.apart

pub once : (z : kept.Zone) → OneAtOnce (IsZoneOnset (zone_of z))
once z = once_kind z.kind
