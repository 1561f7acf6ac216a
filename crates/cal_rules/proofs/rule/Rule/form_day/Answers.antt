use Rattle.std.proofs.Common.{◌∙◌, ap}
use Rattle.profile.specs.series.Rules.{Pattern}
use Rattle.cal_rules.specs.Forms.{listed_day}
use Rattle.cal_rules.proofs.FormParts.{interval_of, week_of, pattern_is}
use Rattle.cal_rules.proofs.rule.Rule.form_day.Goals as goal

pub form_day-requires-clause-interval : goal.form_day-requires-clause-interval
form_day-requires-clause-interval c = interval_of c.written.result.now c.text-text.result.now c.written.ensures.is c.is_allowed.ensures

pub form_day-requires-clause-week : goal.form_day-requires-clause-week
form_day-requires-clause-week c = week_of c.written.result.now c.text-text.result.now c.written.ensures.is c.is_allowed.ensures

pub returns-clause-day : goal.returns-clause-day
returns-clause-day c =
    c.form_day.ensures.day
    ∙ ap (λ (p : Pattern). listed_day p c.args.number)
    (pattern_is c.written.result.now c.text-text.result.now c.args.self.now c.index.result c.written.ensures.is c.text-text.ensures (c.index.ensures.value ∙ c.start.ensures))
