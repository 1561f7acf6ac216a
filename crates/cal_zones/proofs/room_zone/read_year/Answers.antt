use Rattle.std.proofs.Common.{◌≡◌, ◌∙◌, refl}
use Rattle.profile.specs.series.ZoneTexts.{SpellsNoYear}
use Rattle.cal_zones.specs.Shapes.{rule_named}
use Rattle.cal_zones.proofs.RoomReads.{year_spelled, year_same, no_year, fault_of}
use Rattle.cal_zones.proofs.room_zone.read_year.Goals as goal

pub returns-in-Ok-clause-reads : goal.returns-in-Ok-clause-reads
returns-in-Ok-clause-reads c = λ each w.
    year_same c.as_str.result.now (rule_named c.in-Ok.rule.month c.in-Ok.rule.days) each c.in-Ok.ensures.says
    (year_spelled c.as_str.result.now c.args.month.now c.args.day.now each (c.as_str.ensures.value ∙ c.in_ok-text.ensures.ok) w)

pub returns-clause-fault : goal.returns-clause-fault
returns-clause-fault c = (
  refl,
  λ each w.
      no_year c.as_str.result.now each (fault_of (λ n. (n ≡ 40) × SpellsNoYear c.as_str.result.now) c.in-Err-Refused.field-0 c.in-Err-Refused.field-0-0 c.in-Err-Refused.field-0-is c.in-Err-Refused.ensures.fault).1
      (year_spelled c.as_str.result.now c.args.month.now c.args.day.now each (c.as_str.ensures.value ∙ c.in_ok-text.ensures.ok) w),
)
