use Rattle.std.proofs.Common.{arith, subst, refl, inl, option_map}
use Rattle.std.specs.Prelude.{Option}
use Rattle.std.proofs.lemmas.Int.{ints}
use Rattle.profile.specs.series.Days.{day_index}
use Rattle.profile.specs.series.Rules.{Until}
use Rattle.profile.specs.series.Zones.{Zone}
use Rattle.profile.specs.events.ZonedTimes.{clock_of}
use Rattle.profile.specs.events.EventRules.{IsLastAllowed, AllowsNone, IsOnDay}
use Rattle.cal_rules.specs.Views.{until_of}
use Rattle.cal_events.specs.Component.{zone_said, local_said}
use Rattle.cal_events.proofs.event_rule_lemmas.RuleLemmas.{rule_given, rule_refused}
use Rattle.cal_events.proofs.event_rule.rule_from.Goals as goal

pub returns-in-Some-clause-gives : goal.returns-in-Some-clause-gives
returns-in-Some-clause-gives c =
    let d = c.day_and_second-day.result in
    let on : IsOnDay (local_said c.args.start) (day_index d.0) d.1 = (c.day_and_second-day.ensures.second, omega (arith, ints, c.local.ensures, c.day_and_second-day.ensures.sum, c.day_and_second-day.type_inv)) in
    let allowed = subst (λ (u : Option Until). IsLastAllowed (clock_of (zone_said c.args.start)) d.1 u (day_index c.in-Some.last)) c.until.ensures
    (subst (λ (z : Zone). IsLastAllowed z d.1 (option_map until_of c.until.result) (day_index c.in-Some.last)) c.clock.ensures c.in-Some.ensures) in
    rule_given (clock_of (zone_said c.args.start)) (local_said c.args.start) c.args.text (day_index d.0) d.1 (day_index c.in-Some.last) on allowed c.new.result c.new.ensures.made c.new.ensures.starts

pub returns-in-Some-clause-outside : goal.returns-in-Some-clause-outside
returns-in-Some-clause-outside c =
    let d = c.day_and_second-day.result in
    let on : IsOnDay (local_said c.args.start) (day_index d.0) d.1 = (c.day_and_second-day.ensures.second, omega (arith, ints, c.local.ensures, c.day_and_second-day.ensures.sum, c.day_and_second-day.type_inv)) in
    let allowed = subst (λ (u : Option Until). IsLastAllowed (clock_of (zone_said c.args.start)) d.1 u (day_index c.in-Some.last)) c.until.ensures
    (subst (λ (z : Zone). IsLastAllowed z d.1 (option_map until_of c.until.result) (day_index c.in-Some.last)) c.clock.ensures c.in-Some.ensures) in
    rule_refused (clock_of (zone_said c.args.start)) (local_said c.args.start) c.args.text (day_index d.0) d.1 (day_index c.in-Some.last) on allowed c.new.result c.new.ensures.refuses

pub returns-in-None-clause-outside : goal.returns-in-None-clause-outside
returns-in-None-clause-outside c =
    let d = c.day_and_second-day.result in
    let none = subst (λ (u : Option Until). AllowsNone (clock_of (zone_said c.args.start)) d.1 u) c.until.ensures
    (subst (λ (z : Zone). AllowsNone z d.1 (option_map until_of c.until.result)) c.clock.ensures c.in-None.ensures) in (
      refl,
      record {
        day = day_index d.0;
        second = d.1;
        on = (c.day_and_second-day.ensures.second, omega (arith, ints, c.local.ensures, c.day_and_second-day.ensures.sum, c.day_and_second-day.type_inv));
        none = inl none;
      },
    )
