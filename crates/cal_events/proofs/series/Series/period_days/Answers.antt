use Rattle.std.proofs.Common.{ℕ, subst, ap}
use Rattle.std.specs.Prelude.{option_map, ◌↔◌}
use Rattle.profile.specs.series.Zones.{Zone}
use Rattle.profile.specs.series.Periods.{IsMultiple}
use Rattle.profile.specs.events.Spans.{IsZonePeriod}
use Rattle.cal_events.specs.Recurrence.{master_of}
use Rattle.cal_events.specs.Series.{series_said}
use Rattle.cal_events.proofs.shared_lemmas.SeriesLemmas.{own_master}
use Rattle.cal_events.proofs.series_lemmas.Periods.{of_rule, none_of_rule, of_zone, no_rule_period, common_found}
use Rattle.cal_events.proofs.series.Series.period_days.Goals as goal

pub returns-in_default : goal.returns-in_default
returns-in_default c =
    let series = c.args.self.now in
    let m = own_master series.event.value series.ruled in
    let own = master_of series.event.value.name m.0 in
    let is = ap (option_map (master_of series.event.value.name)) m.1 in
    let rule = c.rule.result.now in
    no_rule_period (series_said series) own is rule (c.rule.ensures own is)
    (none_of_rule rule c.period_days.result c.period_days.ensures.ended c.period_days.ensures.endless c.shifts_are_multiples.ensures c.in_default.is)

pub returns : goal.returns
returns c =
    let series = c.args.self.now in
    let m = own_master series.event.value series.ruled in
    let own = master_of series.event.value.name m.0 in
    let is = ap (option_map (master_of series.event.value.name)) m.1 in
    let rule = c.rule.result.now in
    let days = c.in-Some.rule_days in
    let zone_days = c.period_days-2.result in
    common_found (series_said series) own is rule (c.rule.ensures own is) days zone_days
    (of_rule rule c.period_days.result c.period_days.ensures.ended c.period_days.ensures.endless c.shifts_are_multiples.ensures days c.in-Some.is)
    (subst (λ (z : Zone). (n : ℕ) → IsZonePeriod z n ↔ IsMultiple n zone_days) (c.zone.ensures own is) (of_zone _ zone_days c.period_days-2.ensures))
    c.common_multiple.result c.common_multiple.ensures.least c.common_multiple.ensures.few
