use Rattle.std.proofs.Common.{◌+◌, ap}
use Rattle.profile.specs.series.Days.{day_index}
use Rattle.cal_events.specs.RuleDays.{days_to_come}
use Rattle.cal_events.proofs.rule_days_lemmas.RuleDayLemmas.{first_taken, none_taken}
use Rattle.cal_events.proofs.rule_days.RuleDays.next.Goals as goal

pub returns-in_err-day : goal.returns-in_err-day
returns-in_err-day c = λ rule are.
    let n = none_taken rule c.args.self.now.from c.take.new.self.from (days_to_come c.args.self.now) (days_to_come c.take.new.self) are c.in_err-day.ensures.gives.0 c.in_err-day.ensures.gives.1 c.take.ensures.from in
    rw c.from_residual.ensures (n.1, c.take.ensures.first, (n.0, c.take.ensures.from))

pub returns : goal.returns
returns c = λ rule are.
    let d = c.in_ok-day.day in
    let n = first_taken rule c.args.self.now.from (c.index.result + 1) (day_index d) (days_to_come c.args.self.now) (days_to_come c.take.new.self) are c.in_ok-day.ensures.gives (ap (λ n. n + 1) c.index.ensures.value) in
    (n.1, c.take.ensures.first, (n.0, ap (λ n. n + 1) c.index.ensures.value))
