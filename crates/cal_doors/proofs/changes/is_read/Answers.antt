use Rattle.std.proofs.Common.{Bor, sym, subst}
use Rattle.std.specs.Prelude.{Option, option_map}
use Rattle.ical_lines.specs.Fault.{RefusesBy}
use Rattle.ical_tree.specs.Tree.{tree_of}
use Rattle.ical_tree.specs.declared.component.Component.{Component}
use Rattle.profile.specs.series.ZoneTexts.{ZoneFault}
use Rattle.profile.specs.events.ZonedTimes.{SaysZoneOf}
use Rattle.cal_zones.specs.Kinds.{zone_of}
use Rattle.cal_doors.proofs.ChangesNamed.{tree_at}
use Rattle.cal_doors.proofs.changes.is_read.Goals as goal

pub returns-in_default-clause-no : goal.returns-in_default-clause-no
returns-in_default-clause-no c = λ _ said h. subst (λ (o : Option (Bor Component)). SaysZoneOf (option_map tree_at o) said) c.in_default.is h

pub returns-in-Ok-clause-yes : goal.returns-in-Ok-clause-yes
returns-in-Ok-clause-yes c = λ _. (
  zone_of c.in-Ok.field-0,
  subst (λ (o : Option (Bor Component)). SaysZoneOf (option_map tree_at o) (zone_of c.in-Ok.field-0)) (sym c.in-Some.is) c.in-Ok.ensures.says,
)

pub returns-in-Err-Refused-clause-no : goal.returns-in-Err-Refused-clause-no
returns-in-Err-Refused-clause-no c = λ _ said h.
    let t = tree_of c.in-Some.zone.now in
    c.one_zone.ensures.or_a_fault t said c.in-Err-Refused.field-0-0.number (subst (λ (o : Option (Bor Component)). SaysZoneOf (option_map tree_at o) said) c.in-Some.is h)
    (subst (RefusesBy (ZoneFault t)) c.in-Err-Refused.field-0-is c.in-Err-Refused.ensures.fault)
