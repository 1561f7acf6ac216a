-- What the types represent.
use Rattle.std.specs.Prelude.{ℕ, map, option_map}
use Rattle.cal_days.specs.Views.{frequency_of}
use Rattle.cal_rules.specs.declared.written.WeekdayNumber as rust_entry
use Rattle.cal_rules.specs.declared.written.Written as rust
use Rattle.cal_rules.specs.declared.written.Until as rust_until
use Rattle.cal_rules.specs.declared.written.Until.TheVariants as the
use Rattle.profile.specs.series.Rules.{WeekdayNumber, Pattern, Rule, RuleText, Until, UntilDay, UntilLocal, UntilInstant}

abbrev pub weekday_number_of : rust_entry.WeekdayNumber → WeekdayNumber
weekday_number_of entry = record { number = entry.number; weekday = entry.weekday }

abbrev pub until_of : rust_until.Until → Until
until_of (the.Date day) = UntilDay day
until_of (the.Local seconds) = UntilLocal seconds
until_of (the.Utc instant) = UntilInstant instant

-- what is written, with the day of DTSTART
abbrev pub pattern_of : rust.Written → ℕ → Pattern
pattern_of written start = record {
  frequency = frequency_of written.frequency;
  interval = written.interval;
  week_start = written.week_start;
  months = written.months.items;
  month_days = written.month_days.items;
  weekdays = map weekday_number_of written.weekdays.items;
  positions = written.positions.items;
  start = start;
}

-- what is written, with the days of DTSTART and of UNTIL
abbrev pub rule_said : rust.Written → ℕ → ℕ → Rule
rule_said written start last = record {
  pattern = pattern_of written start;
  count = written.count;
  last = last;
  until = option_map until_of written.until;
}

-- what is written
abbrev pub rule_text_said : rust.Written → RuleText
rule_text_said written = record {
  frequency = frequency_of written.frequency;
  interval = written.interval;
  week_start = written.week_start;
  months = written.months.items;
  month_days = written.month_days.items;
  weekdays = map weekday_number_of written.weekdays.items;
  positions = written.positions.items;
  count = written.count;
  until = option_map until_of written.until;
}
