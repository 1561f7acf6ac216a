use Rattle.std.proofs.Common.{ap}
use Rattle.cal_days.specs.Views.{frequency_of}
use Rattle.cal_rules.specs.Views.{pattern_of}
use Rattle.cal_rules.proofs.PeriodsOf.{by_days, by_weeks, by_months, by_years}
use Rattle.cal_rules.proofs.written.Written.period_days.Goals as goal

pub returns-in-Daily-clause-period : goal.returns-in-Daily-clause-period
returns-in-Daily-clause-period c = λ start. by_days (pattern_of c.args.self.now start) c.from-interval.result c.days_of_parts.result c.common_multiple.result (ap frequency_of c.in-Daily.is) c.from-interval.ensures (c.days_of_parts.ensures start) c.common_multiple.ensures.least

pub returns-in-Weekly-clause-period : goal.returns-in-Weekly-clause-period
returns-in-Weekly-clause-period c = λ start. by_weeks (pattern_of c.args.self.now start) c.from-interval.result c.days_of_parts-in-Weekly.result c.common_multiple-in-Weekly.result (ap frequency_of c.in-Weekly.is) c.from-interval.ensures (c.days_of_parts-in-Weekly.ensures start) c.common_multiple-in-Weekly.ensures.least

pub returns-in-Monthly-clause-period : goal.returns-in-Monthly-clause-period
returns-in-Monthly-clause-period c = λ start. by_months (pattern_of c.args.self.now start) c.from-interval.result c.cycles.result (ap frequency_of c.in-Monthly.is) c.from-interval.ensures c.cycles.ensures.least

pub returns-in-Yearly-clause-period : goal.returns-in-Yearly-clause-period
returns-in-Yearly-clause-period c = λ start. by_years (pattern_of c.args.self.now start) c.from-interval.result c.cycles-in-Yearly.result (ap frequency_of c.in-Yearly.is) c.from-interval.ensures c.cycles-in-Yearly.ensures.least
