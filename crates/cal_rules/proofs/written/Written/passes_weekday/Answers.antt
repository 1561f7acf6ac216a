use Rattle.std.proofs.Common.{◌∙◌, sym, refl, pos, map}
use Rattle.profile.specs.series.Days.{weekday_of}
use Rattle.profile.specs.series.Rules.{implies_weekday, counts_in_year, same_weekdays_before, same_weekdays_after, names_weekday, passes_weekday}
use Rattle.cal_rules.specs.Views.{weekday_number_of, pattern_of}
use Rattle.cal_rules.proofs.Judging.{by_implied, by_written, plain_weekday, allows_map}
use Rattle.cal_rules.proofs.written.Written.passes_weekday.Goals as goal

pub returns-then-implies_weekday : goal.returns-then-implies_weekday
unfolding passes_weekday
returns-then-implies_weekday c =
    let n = c.args.day.index in
    let in_year = counts_in_year (pattern_of c.args.self.now 0) in
    by_implied (names_weekday (weekday_of n) (same_weekdays_before in_year n) (same_weekdays_after in_year n)) (implies_weekday (pattern_of c.args.self.now 0)) (record { number = pos 0; weekday = weekday_of c.args.start.index }) (map weekday_number_of c.args.self.now.weekdays.items) _
    (sym c.implies_weekday.ensures ∙ c.if-implies_weekday.true)
    (plain_weekday (weekday_of n) (weekday_of c.args.start.index) (same_weekdays_before in_year n) (same_weekdays_after in_year n) _ (rw (c.requires.start.weekday, c.requires.day.weekday) refl))

pub returns : goal.returns
unfolding passes_weekday
returns c =
    let n = c.args.day.index in
    let in_year = counts_in_year (pattern_of c.args.self.now 0) in
    let test = names_weekday (weekday_of n) (same_weekdays_before in_year n) (same_weekdays_after in_year n) in
    by_written test (implies_weekday (pattern_of c.args.self.now 0)) (record { number = pos 0; weekday = weekday_of c.args.start.index }) (map weekday_number_of c.args.self.now.weekdays.items) _
    (sym c.implies_weekday.ensures ∙ c.if-implies_weekday.false)
    ((rw (c.deref.ensures.value, c.weekday_place-before.ensures.before, c.weekday_place-before.ensures.after, c.requires.day.weekday, c.counts_in_year.ensures) at c.allows_weekday.ensures)
    ∙ sym (allows_map test weekday_number_of c.args.self.now.weekdays.items))
