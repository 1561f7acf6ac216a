use Rattle.std.proofs.Common.{◌∙◌, sym, refl, ◌==◌}
use Rattle.profile.specs.series.Days.{month_of}
use Rattle.profile.specs.series.Rules.{implies_month, passes_month}
use Rattle.cal_rules.specs.Views.{pattern_of}
use Rattle.cal_rules.proofs.Judging.{by_implied, by_written}
use Rattle.cal_rules.proofs.written.Written.passes_month.Goals as goal

pub returns-then-implies_month : goal.returns-then-implies_month
unfolding passes_month
returns-then-implies_month c =
    by_implied (λ m. m == month_of c.args.day.index) (implies_month (pattern_of c.args.self.now 0)) (month_of c.args.start.index) c.args.self.now.months.items _
    (sym c.implies_month.ensures ∙ c.if-implies_month.true)
    (rw (c.requires.start.month, c.requires.day.month) refl)

pub returns : goal.returns
unfolding passes_month
returns c =
    by_written (λ m. m == month_of c.args.day.index) (implies_month (pattern_of c.args.self.now 0)) (month_of c.args.start.index) c.args.self.now.months.items _
    (sym c.implies_month.ensures ∙ c.if-implies_month.false)
    (rw (c.deref.ensures.value, c.requires.day.month) at c.allows_month.ensures)
