use Rattle.cal_rules.proofs.Periods.{day_span, month_of_facts, year_of_facts}
use Rattle.cal_rules.proofs.cursor.PeriodDays.of.Goals as goal

pub returns-in-Daily-clause-days : goal.returns-in-Daily-clause-days
returns-in-Daily-clause-days c =
    rw c.in-Daily.is (day_span c.args.week_start c.args.day.index c.requires.range.0)

pub returns-in-Monthly-clause-days : goal.returns-in-Monthly-clause-days
returns-in-Monthly-clause-days c =
    rw c.in-Monthly.is (month_of_facts c.args.week_start c.args.day c.requires.facts c.requires.range.0)

pub returns-in-Yearly-clause-days : goal.returns-in-Yearly-clause-days
returns-in-Yearly-clause-days c =
    rw c.in-Yearly.is (year_of_facts c.args.week_start c.args.day c.requires.facts c.requires.range.0)
