use Rattle.std.proofs.Common.{arith}
use Rattle.cal_rules.proofs.Tomorrow.{month_left, month_has, ranges}
use Rattle.profile.specs.series.Days.{day_index}
use Rattle.cal_rules.proofs.facts.DayFacts.of.Goals as goal

pub overflow_sub-result-2 : goal.overflow_sub-result-2
overflow_sub-result-2 c =
    omega (arith, c.civil-civil.ensures.parts, c.days_in_month.ensures.value, month_has (day_index c.args.day))

pub returns-clause-facts : goal.returns-clause-facts
returns-clause-facts c =
    let e = c.index.ensures.value in
    let parts = c.civil-civil.ensures.parts in
    let bounds = ranges (day_index c.args.day) in
    let range = c.index.ensures.range in
    record {
      day = (omega arith, omega arith);
      weekday = rw e c.weekday.ensures.value;
      month = rw e parts.1;
      month_before = rw e (omega (arith, parts.2));
      month_after = rw (e, c.days_in_month.ensures.value, parts.2) (month_left (day_index c.args.day));
      year_before = rw e c.year_days_before.ensures.value;
      year_after = rw e c.year_days_after.ensures.value;
      ranges = (omega arith, omega (arith, parts.2), rw (c.days_in_month.ensures.value, parts.2) (omega (arith, month_left (day_index c.args.day))), omega arith, omega arith);
    }
