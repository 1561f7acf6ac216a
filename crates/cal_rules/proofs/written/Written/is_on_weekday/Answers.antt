use Rattle.std.proofs.Common.{◌∙◌, sym, pos, map, ◌==◌}
use Rattle.profile.specs.series.Days.{weekday_of}
use Rattle.profile.specs.series.Rules.{implies_weekday}
use Rattle.cal_rules.specs.Views.{weekday_number_of, pattern_of}
use Rattle.cal_rules.proofs.Judging.{by_written, allows_map}
use Rattle.cal_rules.proofs.written.Written.is_on_weekday.Goals as goal

pub returns : goal.returns
returns c =
    by_written (λ entry. entry.weekday == weekday_of c.args.day) (implies_weekday (pattern_of c.args.self.now 0)) (record { number = pos 0; weekday = weekday_of c.args.start }) (map weekday_number_of c.args.self.now.weekdays.items) _
    (sym c.implies_weekday.ensures ∙ c.if-implies_weekday.false)
    ((rw (c.deref.ensures.value, c.weekday-2.ensures) at c.allows_day.ensures)
    ∙ sym (allows_map (λ entry. entry.weekday == weekday_of c.args.day) weekday_number_of c.args.self.now.weekdays.items))
