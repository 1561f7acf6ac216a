use Rattle.std.proofs.Common.{◌+◌, ap}
use Rattle.profile.specs.series.Days.{day_index}
use Rattle.cal_events.specs.RuleDays.{days_to_come, rest_to_come, with_first}
use Rattle.cal_events.proofs.rule_days_lemmas.RuleDayLemmas.{first_taken}
use Rattle.cal_events.proofs.rule_days.RuleDays.pass.Goals as goal

pub returns-clause-days : goal.returns-clause-days
returns-clause-days c = λ rule are is.
    let s = c.args.self.now in
    (first_taken rule s.from (c.index.result + 1) (day_index c.args.day) (days_to_come s) (rest_to_come s.rest) are (ap (λ o. with_first o (rest_to_come s.rest)) c.requires) (ap (λ n. n + 1) c.index.ensures.value)).1
