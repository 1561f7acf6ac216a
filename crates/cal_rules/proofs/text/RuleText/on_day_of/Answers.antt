use Rattle.std.proofs.Common.{◌∙◌, subst, sym, ℤ, List, arith}
use Rattle.std.proofs.lemmas.Int.{ints}
use Rattle.profile.specs.series.Rules.{RuleText, IsAllowed}
use Rattle.cal_rules.specs.Views.{rule_text_said}
use Rattle.cal_rules.proofs.Filled.{allowed_filled, day_added}
use Rattle.cal_rules.proofs.text.RuleText.on_day_of.Goals as goal

abbrev with_days : RuleText → List ℤ → RuleText
with_days t days = record {
  frequency = t.frequency;
  interval = t.interval;
  week_start = t.week_start;
  months = t.months;
  month_days = days;
  weekdays = t.weekdays;
  positions = t.positions;
  count = t.count;
  until = t.until;
}

pub invariant_of-result : goal.invariant_of-result
invariant_of-result c =
    let t = rule_text_said c.self.inside.written in
    let leaves = sym c.leaves_day_to_start.ensures ∙ c.if-not-leaves_day_to_start.false in
    subst (λ days. IsAllowed (with_days t days)) (sym (day_added t c.push.new.self.items _ c.month_days_before-day.result leaves c.in_ok-push.ensures.items (omega (arith, ints))))
    (allowed_filled t c.month_days_before-day.result c.month_days_before-day.ensures.range leaves c.self.invariant)
