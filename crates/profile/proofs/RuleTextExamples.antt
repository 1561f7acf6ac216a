-- Texts of rules, and what they spell or what is wrong with them, by the definitions alone.
use Rattle.std.proofs.Common.{◌≡◌, ℕ, IsTrue, refl, ap, inl, inr, List, [], ◌∷◌, get_or, codes, Some, None, unwrap_or, pos, negsuc, arith, lit<, lit≤}
use Rattle.std.proofs.lemmas.Bool.Decides.{nat_tests}
use Rattle.std.proofs.lemmas.Fmt.{decimal_digit}
use Rattle.std.proofs.lemmas.List.Elements.{All-from_recursion}
use Rattle.profile.specs.faults.Faults.{is_between}
use Rattle.profile.specs.series.Days.{Frequency, Daily, Weekly, Monthly, Yearly, days_before_year, days_of_months}
use Rattle.profile.specs.series.Rules.{RuleText, UntilDay, go_together}
use Rattle.profile.specs.text.Values.{SpellsDate}
use Rattle.profile.specs.series.RuleTexts.{Interval, Count, EndsAt, WeekStart, ByMonth, ByMonthDay, ByDay, BySetPosition, rule_parts, after_key, frequency_word, IsKnownPart, SpellsRule, RuleFault, unknown, bad_value, apart, two_ends, no_frequency, twice, months_from, numbers_from, entries_from, rule_text}

-- ---- FREQ=WEEKLY;INTERVAL=2;COUNT=4;BYDAY=TU,SU;WKST=MO, of RFC 5545 3.8.5.3

abbrev every_other_week : RuleText
every_other_week = record {
  frequency = Weekly;
  interval = 2;
  week_start = 0;
  months = [];
  month_days = [];
  weekdays = record { number = pos 0; weekday = 1 } ∷ record { number = pos 0; weekday = 6 } ∷ [];
  positions = [];
  count = Some 4;
  until = None;
}

spells_every_other_week : SpellsRule (codes "FREQ=WEEKLY;INTERVAL=2;COUNT=4;BYDAY=TU,SU;WKST=MO") every_other_week
unfolding after_key go_together
spells_every_other_week = record {
  known = All-from_recursion IsKnownPart (rule_parts (codes "FREQ=WEEKLY;INTERVAL=2;COUNT=4;BYDAY=TU,SU;WKST=MO"))
      (inl (Weekly, refl), (inr (Interval, codes "2", refl), (inr (Count, codes "4", refl), (inr (ByDay, codes "TU,SU", refl), (inr (WeekStart, codes "MO", refl), tt)))));
  says = record {
    frequency = refl;
    interval = ((lit< tt, (lit< tt, tt), refl), refl);
    count = ((lit< tt, (lit< tt, tt), refl), refl);
    until = refl;
    week_start = (lit< tt, refl);
    months = refl;
    month_days = refl;
    weekdays = ((([], codes "TU", refl, (lit< tt, refl), inl (refl, refl)), (([], codes "SU", refl, (lit< tt, refl), inl (refl, refl)), tt)), lit≤ tt);
    positions = refl;
  };
  together = refl;
  one_end = refl;
}

-- ---- FREQ=HOURLY

word_of : (word : List ℕ) (value : List ℕ) → Some value ≡ Some word → get_or value 0 0 ≡ get_or word 0 0
word_of word value e = ap (λ o. get_or (unwrap_or o []) 0 0) e

hourly_is_none : (frequency : Frequency) → Some (codes "HOURLY") ≡ Some (frequency_word frequency) → ⊥
hourly_is_none Daily e = absurd (omega (arith, word_of (codes "DAILY") (codes "HOURLY") e))
hourly_is_none Weekly e = absurd (omega (arith, word_of (codes "WEEKLY") (codes "HOURLY") e))
hourly_is_none Monthly e = absurd (omega (arith, word_of (codes "MONTHLY") (codes "HOURLY") e))
hourly_is_none Yearly e = absurd (omega (arith, word_of (codes "YEARLY") (codes "HOURLY") e))

hourly_is_unknown : IsKnownPart (codes "FREQ=HOURLY") → ⊥
unfolding after_key
hourly_is_unknown (inl (frequency, e)) = hourly_is_none frequency e
hourly_is_unknown (inr (Interval, value, e)) = cc
hourly_is_unknown (inr (Count, value, e)) = cc
hourly_is_unknown (inr (EndsAt, value, e)) = cc
hourly_is_unknown (inr (WeekStart, value, e)) = cc
hourly_is_unknown (inr (ByMonth, value, e)) = cc
hourly_is_unknown (inr (ByMonthDay, value, e)) = cc
hourly_is_unknown (inr (ByDay, value, e)) = cc
hourly_is_unknown (inr (BySetPosition, value, e)) = cc

hourly : RuleFault (codes "FREQ=HOURLY") 30
hourly = unknown (codes "FREQ=HOURLY") (0, lit< tt, refl) hourly_is_unknown

-- ---- FREQ=WEEKLY;INTERVAL=10000

past_9999 : (n : ℕ) → 10_000 ≡ n → IsTrue (is_between 1 9999 n) → ⊥
past_9999 n e h = grind (arith, nat_tests)

long_interval : RuleFault (codes "FREQ=WEEKLY;INTERVAL=10000") 31
unfolding after_key
long_interval = bad_value Interval (codes "10000") (0, lit< tt, refl) (λ n s. past_9999 n s.0.2 s.1)

-- ---- FREQ=DAILY;BYMONTHDAY=1;BYDAY=1MO: a number before a weekday, in a daily rule with BYMONTHDAY

abbrev numbered_daily : RuleText
numbered_daily = record {
  frequency = Daily;
  interval = 1;
  week_start = 0;
  months = [];
  month_days = pos 1 ∷ [];
  weekdays = record { number = pos 1; weekday = 0 } ∷ [];
  positions = [];
  count = None;
  until = None;
}

numbered_in_daily : RuleFault (codes "FREQ=DAILY;BYMONTHDAY=1;BYDAY=1MO") 32
unfolding after_key go_together
numbered_in_daily = apart numbered_daily (record {
  frequency = refl;
  interval = refl;
  count = refl;
  until = refl;
  week_start = refl;
  months = refl;
  month_days = (((codes "1", 1, ((lit< tt, (lit< tt, tt), refl), refl), inl (inl refl, refl)), tt), lit≤ tt);
  weekdays = (((codes "1", codes "MO", refl, (lit< tt, refl), inr (codes "1", 1, ((lit< tt, (lit< tt, tt), refl), refl), inl (inl refl, refl))), tt), lit≤ tt);
  positions = refl;
}) refl

-- ---- FREQ=DAILY;COUNT=2;UNTIL=20250110

abbrev ends_twice : RuleText
ends_twice = record {
  frequency = Daily;
  interval = 1;
  week_start = 0;
  months = [];
  month_days = [];
  weekdays = [];
  positions = [];
  count = Some 2;
  until = Some (UntilDay (pos 20_098));
}

the_tenth : SpellsDate (codes "20250110") (pos 20_098)
unfolding days_before_year days_of_months
the_tenth = record {
  year = 2025;
  month = 1;
  day = 10;
  first = lit≤ tt;
  last = lit≤ tt;
  date = (lit≤ tt, lit≤ tt, lit≤ tt, lit≤ tt);
  spelled = refl;
  counted = refl;
}

count_and_until : RuleFault (codes "FREQ=DAILY;COUNT=2;UNTIL=20250110") 33
unfolding after_key
count_and_until = two_ends ends_twice (record {
  frequency = refl;
  interval = refl;
  count = ((lit< tt, (lit< tt, tt), refl), refl);
  until = the_tenth;
  week_start = refl;
  months = refl;
  month_days = refl;
  weekdays = refl;
  positions = refl;
}) refl

-- ---- a part twice, and no FREQ

an_interval_twice : RuleFault (codes "FREQ=DAILY;INTERVAL=1;INTERVAL=1") 32
unfolding after_key
an_interval_twice = twice Interval (lit< tt)

no_freq : RuleFault (codes "INTERVAL=2") 32
unfolding after_key
no_freq = no_frequency refl

-- ---- the one form of FREQ=MONTHLY;UNTIL=19971224T000000;BYDAY=1SU,-1SU,MO;BYSETPOS=+2,-1, with another UNTIL

abbrev listed_monthly : RuleText
listed_monthly = record {
  frequency = Monthly;
  interval = 1;
  week_start = 0;
  months = [];
  month_days = [];
  weekdays = record { number = pos 1; weekday = 6 } ∷ record { number = negsuc 0; weekday = 6 } ∷ record { number = pos 0; weekday = 0 } ∷ [];
  positions = pos 2 ∷ negsuc 0 ∷ [];
  count = None;
  until = Some (UntilDay (pos 20_098));
}

its_entries : entries_from 0 listed_monthly.weekdays ≡ record { number = negsuc 0; weekday = 6 } ∷ record { number = pos 0; weekday = 0 } ∷ record { number = pos 1; weekday = 6 } ∷ []
unfolding entries_from
its_entries = refl

its_positions : numbers_from 0 listed_monthly.positions ≡ negsuc 0 ∷ pos 2 ∷ []
unfolding numbers_from
its_positions = refl

no_numbers : numbers_from 0 [] ≡ []
unfolding numbers_from
no_numbers = refl

no_months : months_from 1 [] ≡ []
unfolding months_from
no_months = refl

written_monthly : rule_text listed_monthly (Some (codes "19971224T050000Z")) ≡ codes "FREQ=MONTHLY;UNTIL=19971224T050000Z;BYDAY=-1SU,MO,1SU;BYSETPOS=-1,2"
written_monthly = rw (no_months, no_numbers, its_entries, its_positions, decimal_digit 1 (lit< tt), decimal_digit 2 (lit< tt)) refl
