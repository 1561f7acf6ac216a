use Rattle.std.proofs.Common.{◌≡◌, ◌∙◌, ◌≤◌, ap, arith, refl, sym, length}
use Rattle.std.proofs.lemmas.Bool.Decides.{nat_tests}
use Rattle.profile.specs.series.Days.{day_index}
use Rattle.profile.specs.series.Rules.{Rule, rule_days_from}
use Rattle.cal_rules.specs.Left.{days_left}
use Rattle.cal_doors.specs.Listed.{days_to}
use Rattle.cal_doors.proofs.RuleDays.{next_day, many_days, all_days}
use Rattle.cal_doors.proofs.rule.listed_days.Goals as goal

pub loop-day-init : goal.loop-day-init
loop-day-init c =
    let first = day_index c.args.first in (
      ap (λ (r : Rule). rule_days_from r first) (sym c.from_day-rule.ensures) ∙ sym c.days-day-items.ensures ∙ ap days_left (sym c.into_iter-day-iterator.ensures.into_iter_gives) ∙ rw c.new-days.ensures.items refl,
      rw c.new-days.ensures.items (omega arith),
    )

pub loop-day-preserved : goal.loop-day-preserved
loop-day-preserved c =
    let all = days_to c.args.rule (day_index c.args.first) (day_index c.args.last) in
    let push = c.in_ok-push.ensures.items in
    let few : length c.push.new.self.items ≤ 200 = grind (arith, nat_tests) in
    (rw push (next_day all c.loop-day.days.items c.in-Some.day (days_left c.loop-day.day-iterator) (days_left c.next.new.self) c.loop-day.invariant.0 c.in-Some.ensures.steps), few)

pub returns-then-len-eq-MOST_DAYS : goal.returns-then-len-eq-MOST_DAYS
returns-then-len-eq-MOST_DAYS c =
    let all = days_to c.args.rule (day_index c.args.first) (day_index c.args.last) in
    let long : length c.loop-day.days.items ≡ 200 = grind (arith, nat_tests, c.if-len-eq-MOST_DAYS.true, c.len.ensures, c.loop-day.days.ok) in
    many_days all c.loop-day.days.items (days_left c.loop-day.day-iterator) (days_left c.next.new.self) (day_index c.in-Some.day) c.loop-day.invariant.0 c.in-Some.ensures.steps long

pub returns : goal.returns
returns c =
    let all = days_to c.args.rule (day_index c.args.first) (day_index c.args.last) in
    all_days all c.loop-day.days.items (days_left c.loop-day.day-iterator) c.loop-day.invariant.0 c.in-None.ensures.steps.0 c.loop-day.invariant.1
