-- Recurrence rules: which days a rule means (RFC 5545 3.3.10 and 3.8.5.3).
-- A day is given by its index, the days from 0000-01-01 to it.
use Rattle.std.specs.Prelude.{◌≡◌, ℕ, zero, suc, ◌+◌, ◌-◌, ◌/◌, ◌%◌, ◌<◌, ◌≤◌, Bool, true, false, not, ◌&&◌, ◌||◌, ◌==◌, nat_lt, nat_le, if◌then◌else◌, IsTrue, Option, Some, None, is_none, List, [], ◌∷◌, length, filter, ℤ, pos, negsuc}
use Rattle.std.specs.List.{list_any, list_all, range_with_len}
use Rattle.profile.specs.faults.Faults.{is_between}
use Rattle.profile.specs.series.Days.{Frequency, Daily, Weekly, Monthly, Yearly, period_of, month_of, month_days_before, month_days_after, year_days_before, year_days_after, weekday_of}

-- THE PARTS OF A RULE

-- an entry of BYDAY: a weekday, Monday 0, and the number before it, 0 where none is written
pub record WeekdayNumber : Type 0 where
  pub number : ℤ
  pub weekday : ℕ

-- what a rule says, apart from COUNT and UNTIL, and the day of DTSTART. An empty list is a part that isn't written
pub record Pattern : Type 0 where
  pub frequency : Frequency
  pub interval : ℕ
  pub week_start : ℕ
  pub months : List ℕ
  pub month_days : List ℤ
  pub weekdays : List WeekdayNumber
  pub positions : List ℤ
  pub start : ℕ

-- what UNTIL says: the number of a day, the seconds of a local time, or an instant
pub data Until : Type 0 where
  UntilDay : ℤ → Until
  UntilLocal : ℤ → Until
  UntilInstant : ℤ → Until

-- a rule: its pattern, COUNT, the last day that UNTIL allows, and what UNTIL says
pub record Rule : Type 0 where
  pub pattern : Pattern
  pub count : Option ℕ
  pub last : ℕ
  pub until : Option Until

-- what the text of a rule says; an empty list is a part that isn't written
pub record RuleText : Type 0 where
  pub frequency : Frequency
  pub interval : ℕ
  pub week_start : ℕ
  pub months : List ℕ
  pub month_days : List ℤ
  pub weekdays : List WeekdayNumber
  pub positions : List ℤ
  pub count : Option ℕ
  pub until : Option Until

-- the rule of a text, from the day of DTSTART to the last day that UNTIL allows
abbrev pub rule_of : RuleText → ℕ → ℕ → Rule
rule_of text start last = record {
  pattern = record {
    frequency = text.frequency;
    interval = text.interval;
    week_start = text.week_start;
    months = text.months;
    month_days = text.month_days;
    weekdays = text.weekdays;
    positions = text.positions;
    start = start;
  };
  count = text.count;
  last = last;
  until = text.until;
}

-- what the text of a rule says
abbrev pub text_in : Rule → RuleText
text_in rule = record {
  frequency = rule.pattern.frequency;
  interval = rule.pattern.interval;
  week_start = rule.pattern.week_start;
  months = rule.pattern.months;
  month_days = rule.pattern.month_days;
  weekdays = rule.pattern.weekdays;
  positions = rule.pattern.positions;
  count = rule.count;
  until = rule.until;
}

-- IMPLIED PARTS

abbrev pub is_weekly : Frequency → Bool
is_weekly Daily = false
is_weekly Weekly = true
is_weekly Monthly = false
is_weekly Yearly = false

abbrev pub is_yearly : Frequency → Bool
is_yearly Daily = false
is_yearly Weekly = false
is_yearly Monthly = false
is_yearly Yearly = true

-- MONTHLY or YEARLY
abbrev pub is_long : Frequency → Bool
is_long Daily = false
is_long Weekly = false
is_long Monthly = true
is_long Yearly = true

abbrev pub is_missing : {A : Type 0} → List A → Bool
is_missing [] = true
is_missing (_ ∷ _) = false

-- neither BYDAY nor BYMONTHDAY is written
abbrev pub names_no_day : Pattern → Bool
names_no_day p = is_missing p.weekdays && is_missing p.month_days

-- a YEARLY rule that names no day and no month implies the month of DTSTART
abbrev pub implies_month : Pattern → Bool
implies_month p = is_yearly p.frequency && is_missing p.months && names_no_day p

-- a MONTHLY or YEARLY rule that names no day implies the month day of DTSTART
abbrev pub implies_month_day : Pattern → Bool
implies_month_day p = is_long p.frequency && names_no_day p

-- a WEEKLY rule without BYDAY implies the weekday of DTSTART
abbrev pub implies_weekday : Pattern → Bool
implies_weekday p = is_weekly p.frequency && is_missing p.weekdays

-- the months that count, written or implied; none: every month
abbrev pub months_meant : Pattern → List ℕ
months_meant p = if implies_month p then month_of p.start ∷ [] else p.months

-- the month days that count; none: every day
abbrev pub month_days_meant : Pattern → List ℤ
month_days_meant p = if implies_month_day p then pos (suc (month_days_before p.start)) ∷ [] else p.month_days

-- the weekdays that count; none: every weekday
abbrev pub weekdays_meant : Pattern → List WeekdayNumber
weekdays_meant p =
    if implies_weekday p then record { number = pos 0; weekday = weekday_of p.start } ∷ [] else p.weekdays

-- the text of a YEARLY rule with BYMONTH that names no day
abbrev pub leaves_day_to_start : RuleText → Bool
leaves_day_to_start t =
    is_yearly t.frequency && not (is_missing t.months) && is_missing t.month_days && is_missing t.weekdays

-- the same rule, with the month day of DTSTART written out where such a text implies it
abbrev pub on_day_of_start : ℕ → RuleText → RuleText
on_day_of_start start t =
    if leaves_day_to_start t then record {
      frequency = t.frequency;
      interval = t.interval;
      week_start = t.week_start;
      months = t.months;
      month_days = pos (suc (month_days_before start)) ∷ [];
      weekdays = t.weekdays;
      positions = t.positions;
      count = t.count;
      until = t.until;
    } else t

-- WHAT A TEXT MAY SAY

-- n is 1 to the most, or -1 to minus the most
abbrev pub is_place : ℕ → ℤ → Bool
is_place most (pos n) = is_between 1 most n
is_place most (negsuc n) = nat_lt n most

-- no number is written
abbrev pub is_plain : ℤ → Bool
is_plain (pos n) = n == 0
is_plain (negsuc _) = false

abbrev pub is_entry : WeekdayNumber → Bool
is_entry entry = nat_lt entry.weekday 7 && (is_plain entry.number || is_place 53 entry.number)

-- 1 to 100,000, this profile's choice
abbrev pub is_count : Option ℕ → Bool
is_count None = true
is_count (Some count) = is_between 1 100_000 count

-- at most 366 entries, this profile's choice
abbrev pub has_few_entries : {A : Type 0} → List A → Bool
has_few_entries xs = nat_le (length xs) 366

-- each number is in its range, and no list is too long (RFC 5545 3.3.10; the bounds of INTERVAL are this profile's)
unfoldable pub is_in_range : RuleText → Bool
is_in_range t =
    is_between 1 9999 t.interval && is_count t.count && nat_lt t.week_start 7
    && (list_all (is_between 1 12) t.months && has_few_entries t.months)
    && (list_all (is_place 31) t.month_days && has_few_entries t.month_days)
    && (list_all is_entry t.weekdays && has_few_entries t.weekdays)
    && (list_all (is_place 366) t.positions && has_few_entries t.positions)

-- no BYMONTHDAY in WEEKLY; numbers in BYDAY only in MONTHLY and YEARLY without BYMONTHDAY; BYSETPOS only beside another BY part
-- (RFC 5545 3.3.10)
unfoldable pub go_together : RuleText → Bool
go_together t =
    (not (is_weekly t.frequency) || is_missing t.month_days)
    && (list_all (λ entry. is_plain entry.number) t.weekdays || (is_long t.frequency && is_missing t.month_days))
    && (is_missing t.positions || not (is_missing t.months && is_missing t.month_days && is_missing t.weekdays))

-- not both COUNT and UNTIL (RFC 5545 3.3.10)
abbrev pub has_one_end : RuleText → Bool
has_one_end t = is_none t.count || is_none t.until

-- a text that is taken
abbrev pub IsAllowed : RuleText → Type 0
IsAllowed t = IsTrue (is_in_range t) × IsTrue (go_together t) × IsTrue (has_one_end t)

-- BASE DAYS

-- a day with this many before it and this many after it is the nth, or where n is negative the nth from the end
abbrev pub is_nth : ℤ → ℕ → ℕ → Bool
is_nth (pos n) before after = n == suc before
is_nth (negsuc n) before after = n == after

-- an entry of the list passes, or the list has none
abbrev pub allows : {A : Type 0} → (A → Bool) → List A → Bool
allows test xs = is_missing xs || list_any test xs

-- the numbers of BYDAY count in the year in a YEARLY rule without BYMONTH, else in the month
abbrev pub counts_in_year : Pattern → Bool
counts_in_year p = is_yearly p.frequency && is_missing p.months

-- the days of the day's own weekday before it, and after it, in its year or in its month
abbrev pub same_weekdays_before : Bool → ℕ → ℕ
same_weekdays_before in_year n = (if in_year then year_days_before n else month_days_before n) / 7

abbrev pub same_weekdays_after : Bool → ℕ → ℕ
same_weekdays_after in_year n = (if in_year then year_days_after n else month_days_after n) / 7

-- an entry of BYDAY names a day of that weekday with this many of them before it and this many after it
abbrev pub names_weekday : ℕ → ℕ → ℕ → WeekdayNumber → Bool
names_weekday weekday before after entry =
    (entry.weekday == weekday) && (is_plain entry.number || is_nth entry.number before after)

-- the day passes BYMONTH, BYMONTHDAY and BYDAY, written or implied
unfoldable pub passes_month : Pattern → ℕ → Bool
passes_month p n = allows (λ month. month == month_of n) (months_meant p)

unfoldable pub passes_month_day : Pattern → ℕ → Bool
passes_month_day p n = allows (λ k. is_nth k (month_days_before n) (month_days_after n)) (month_days_meant p)

unfoldable pub passes_weekday : Pattern → ℕ → Bool
passes_weekday p n =
    allows
    (names_weekday (weekday_of n) (same_weekdays_before (counts_in_year p) n) (same_weekdays_after (counts_in_year p) n))
    (weekdays_meant p)

unfoldable pub passes : Pattern → ℕ → Bool
passes p n = passes_month p n && passes_month_day p n && passes_weekday p n

-- its period and that of DTSTART are a multiple of INTERVAL apart
unfoldable pub is_in_step : Pattern → ℕ → Bool
is_in_step p n =
    period_of p.frequency p.week_start n % p.interval == period_of p.frequency p.week_start p.start % p.interval

-- a base day: a condition on the one day, which may also be before DTSTART
unfoldable pub is_base : Pattern → ℕ → Bool
is_base p n = is_in_step p n && passes p n

-- SET POSITIONS

-- how many of this number of days, from that one on, pass the test
unfoldable pub count_days : (ℕ → Bool) → ℕ → ℕ → ℕ
count_days test from zero = 0
count_days test from (suc days) = count_days test from days + (if test (from + days) then 1 else 0)

-- how far two days of one period can be apart
abbrev pub reach : Frequency → ℕ
reach Daily = 0
reach Weekly = 6
reach Monthly = 30
reach Yearly = 365

-- a day from 0001-01-01 to 10001-12-31
abbrev pub is_day : ℕ → Bool
is_day n = nat_le 366 n && nat_le n 3_653_155

-- m is a base day of the period of n
unfoldable pub is_mate : Pattern → ℕ → ℕ → Bool
is_mate p n m =
    is_day m && (period_of p.frequency p.week_start m == period_of p.frequency p.week_start n) && is_base p m

-- the base days of its period before n, and after it, also those before DTSTART
unfoldable pub mates_before : Pattern → ℕ → ℕ
mates_before p n = count_days (is_mate p n) (n - reach p.frequency) (reach p.frequency)

unfoldable pub mates_after : Pattern → ℕ → ℕ
mates_after p n = count_days (is_mate p n) (n + 1) (reach p.frequency)

-- a base day has one of the set positions of BYSETPOS, or none is written
unfoldable pub is_placed : Pattern → ℕ → Bool
is_placed p n = allows (λ k. is_nth k (mates_before p n) (mates_after p n)) p.positions

-- RULE DAYS

-- 9999-12-31
abbrev pub last_rule_day : ℕ
last_rule_day = 3_652_424

-- a day from DTSTART to the last one of UNTIL and to 9999-12-31 that the pattern has: a rule day apart from COUNT
unfoldable pub is_counted : Rule → ℕ → Bool
is_counted r n =
    nat_le r.pattern.start n && nat_le n r.last && nat_le n last_rule_day && is_base r.pattern n && is_placed r.pattern n

-- the number of the day among those, DTSTART being the first, isn't past COUNT
unfoldable pub is_within_count : Rule → ℕ → Bool
is_within_count r n =
    elim r.count [
      | None ↦ true
      | Some count ↦ nat_le (count_days (is_counted r) r.pattern.start (n + 1 - r.pattern.start)) count
    ]

-- a rule day
unfoldable pub is_rule_day : Rule → ℕ → Bool
is_rule_day r n = is_counted r n && is_within_count r n

-- the rule days from a day on, ascending
unfoldable pub rule_days_from : Rule → ℕ → List ℕ
rule_days_from r from = filter (is_rule_day r) (range_with_len from (last_rule_day + 1 - from))

-- no rule day from a day on
abbrev pub NoDayFrom : Rule → ℕ → Type 0
NoDayFrom r from = (n : ℕ) → from ≤ n → is_rule_day r n ≡ false

-- the least rule day from a day on
pub record IsNextDay (r : Rule) (from day : ℕ) : Type 0 where
  pub not_before : from ≤ day
  pub holds : is_rule_day r day ≡ true
  pub least : (n : ℕ) → from ≤ n → n < day → is_rule_day r n ≡ false
