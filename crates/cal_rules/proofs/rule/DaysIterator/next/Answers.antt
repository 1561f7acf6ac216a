use Rattle.cal_rules.proofs.Lists.{no_days, days_after, shorter}
use Rattle.cal_rules.proofs.rule.DaysIterator.next.Goals as goal

pub returns-in_err-day-clause-steps : goal.returns-in_err-day-clause-steps
returns-in_err-day-clause-steps c =
    let e = no_days c.args.self.now.rule.now c.args.self.now.cursor.day.index c.in_err-day.ensures in rw c.from_residual.ensures (e, e)

pub returns-clause-steps : goal.returns-clause-steps
returns-clause-steps c =
    let next = c.in_ok-day.ensures in
    days_after c.args.self.now.rule.now c.args.self.now.cursor.day.index _ _ next.0 next.1

pub returns-clause-goes : goal.returns-clause-goes
returns-clause-goes c =
    let next = c.in_ok-day.ensures in
    record {
      on = λ _. (tt, tt, shorter _ _ _ (days_after c.args.self.now.rule.now c.args.self.now.cursor.day.index _ _ next.0 next.1));
      keeps = tt;
      rests = λ _. tt;
    }
