use Rattle.std.proofs.Common.{◌∙◌, sym, pos, suc}
use Rattle.profile.specs.series.Days.{month_days_before, month_days_after}
use Rattle.profile.specs.series.Rules.{implies_month_day, is_nth, passes_month_day}
use Rattle.cal_rules.specs.Views.{pattern_of}
use Rattle.cal_rules.proofs.Judging.{by_implied, by_written, same_suc}
use Rattle.cal_rules.proofs.written.Written.passes_month_day.Goals as goal

pub returns-then-implies_month_day : goal.returns-then-implies_month_day
unfolding passes_month_day
returns-then-implies_month_day c =
    by_implied (λ k. is_nth k (month_days_before c.args.day.index) (month_days_after c.args.day.index)) (implies_month_day (pattern_of c.args.self.now 0)) (pos (suc (month_days_before c.args.start.index))) c.args.self.now.month_days.items _
    (sym c.implies_month_day.ensures ∙ c.if-implies_month_day.true)
    (rw (c.requires.start.month_before, c.requires.day.month_before) (same_suc (month_days_before c.args.start.index) (month_days_before c.args.day.index)))

pub returns : goal.returns
unfolding passes_month_day
returns c =
    by_written (λ k. is_nth k (month_days_before c.args.day.index) (month_days_after c.args.day.index)) (implies_month_day (pattern_of c.args.self.now 0)) (pos (suc (month_days_before c.args.start.index))) c.args.self.now.month_days.items _
    (sym c.implies_month_day.ensures ∙ c.if-implies_month_day.false)
    (rw (c.deref.ensures.value, c.requires.day.month_before, c.requires.day.month_after) at c.allows_nth.ensures)
