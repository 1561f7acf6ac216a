-- What the conditions on onsets say.
use Rattle.profile.specs.series.Zones.{Onset}
use Rattle.cal_zones.specs.Onsets.{observance_of}
use Rattle.cal_doors.specs.Passing.{PassesStill, PassesLatest, PassesFirst, PassesOnly, PassesPair}
use Rattle.cal_doors.specs.declared.condition.Condition.{Condition}
use Rattle.cal_doors.specs.declared.condition.Condition.TheVariants as the

abbrev pub PassesCondition : Condition → Onset → Type 0
PassesCondition (the.Still c) x = PassesStill c.instant c.sets x
PassesCondition (the.Latest c) x = PassesLatest c.instant c.latest c.sets x
PassesCondition (the.First c) x = PassesFirst c.first c.ends x
PassesCondition (the.Only c) x = PassesOnly c.instant c.only c.offset_from c.offset_to x
PassesCondition (the.Pair c) x = PassesPair c.instant (observance_of c.one.observance) (observance_of c.other.observance) x
