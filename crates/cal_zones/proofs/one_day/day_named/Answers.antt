use Rattle.std.proofs.Common.{map, sym, true, false}
use Rattle.profile.specs.series.GeneralZoneTexts.{without_end}
use Rattle.cal_rules.specs.Views.{weekday_number_of}
use Rattle.ical_values.proofs.Exits.{if_none}
use Rattle.cal_zones.specs.Shapes.{days_of}
use Rattle.cal_zones.proofs.Named.{none_month, one_day_parts, names_at, months_at}
use Rattle.cal_zones.proofs.YearLemmas.{year_found, year_none}
use Rattle.cal_zones.proofs.one_day.day_named.Goals as goal

pub returns-in_err-month-clause-none : goal.returns-in_err-month-clause-none
returns-in_err-month-clause-none c =
    if_none c.from_residual.result (λ r h. none_month (without_end c.args.rule.now) r (λ month low high. months_at month c.months.result.now c.args.rule.now.months false c.months.ensures (c.in_err-month.ensures.none month)) h)

pub returns-in_err-days-clause-none : goal.returns-in_err-days-clause-none
returns-in_err-days-clause-none c =
    let rule = without_end c.args.rule.now in
    if_none c.from_residual-in_err-days.result (λ r h.
    let o = one_day_parts rule r h in
    c.in_err-days.ensures.none r.month r.days
    (names_at r.days rule.month_days c.month_days.result.now rule.weekdays (map weekday_number_of c.weekdays.result.now) (sym c.month_days.ensures) (sym c.weekdays.ensures) o.days) o.each)

pub returns-clause-found : goal.returns-clause-found
returns-clause-found c =
    let rule = without_end c.args.rule.now in
    let days = days_of c.in_ok-days.days in
    year_found c.new.result rule c.in_ok-month.month c.in_ok-days.days (sym c.if-not-is_plain_yearly.ensures)
    (months_at c.in_ok-month.month c.months.result.now rule.months true c.months.ensures c.in_ok-month.ensures.found)
    (names_at days c.month_days.result.now rule.month_days (map weekday_number_of c.weekdays.result.now) rule.weekdays c.month_days.ensures c.weekdays.ensures c.in_ok-days.ensures.found)
    c.new.ensures.value

pub returns-clause-none : goal.returns-clause-none
returns-clause-none c =
    let rule = without_end c.args.rule.now in
    let days = days_of c.in_ok-days.days in
    year_none c.new.result rule c.in_ok-month.month c.in_ok-days.days
    (months_at c.in_ok-month.month c.months.result.now rule.months true c.months.ensures c.in_ok-month.ensures.found)
    (names_at days c.month_days.result.now rule.month_days (map weekday_number_of c.weekdays.result.now) rule.weekdays c.month_days.ensures c.weekdays.ensures c.in_ok-days.ensures.found)
    c.new.ensures.found
