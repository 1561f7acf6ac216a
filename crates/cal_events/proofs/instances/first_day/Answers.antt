use Rattle.std.proofs.Common.{◌≡◌, ◌∙◌, ap, sym, subst, refl, ◌+ℤ◌}
use Rattle.profile.specs.series.Days.{day_index}
use Rattle.profile.specs.series.Zones.{Zone, IsBounds, local_time}
use Rattle.profile.specs.events.ZonedTimes.{EventTimes, clock_of}
use Rattle.cal_zones.proofs.Lasts.{clock_day}
use Rattle.cal_events.proofs.shared_lemmas.InstanceLemmas.{none_before_day, none_before_start}
use Rattle.cal_events.proofs.instances.first_day.Goals as goal

pub returns-in-Some : goal.returns-in-Some
returns-in-Some c = λ master overrides times rule.
    let d = c.day_and_second in
    let bounds = c.offsets-least.result in
    let on : c.args.from +ℤ bounds.0 ≡ local_time (day_index d.result.0) d.result.1 =
    clock_day c.args.from bounds.0 c.saturating_add.result c.in-Some.local d.result.0 d.result.1 c.ranges.from (record { sfits = c.saturating_add.type_inv }) c.offsets-least.ensures.range.0 c.saturating_add.ensures
    (c.in-Some.ensures.found.0 refl) c.in-Some.ensures.value d.ensures.sum d.ensures.second d.ensures.day in
    none_before_day master overrides c.args.from bounds.0 bounds.1 (day_index d.result.0) d.result.1
    (subst (λ (z : Zone). IsBounds z bounds.0 bounds.1) (c.clock.ensures ∙ ap (λ (t : EventTimes). clock_of t.zone) (sym times)) c.offsets-least.ensures.bounds) on

pub returns-in-None : goal.returns-in-None
returns-in-None c = λ master overrides times rule. none_before_start master overrides _ c.args.rule.now (day_index c.start.result) rule c.start.ensures
