-- Numbers, times and rules as they are written: what each of their octets is.
-- Behind canonical_body of body, zone_lines of body, write_instance of event_lines, one_message of law, refreshes_are_heard of law, replies_are_heard of law and 17 more.
use Rattle.std.proofs.Common.{◌≡◌, ◌∙◌, refl, ℕ, zero, suc, ℤ, pos, negsuc, ◌+◌, ◌/◌, ◌%◌, ◌<◌, ◌≤◌, Bool, true, false, not, ◌&&◌, ◌||◌, cond, nat_eq, nat_lt, List, [], ◌∷◌, ◌++◌, map, codes, decimal, Option, None, Some, arith}
use Rattle.std.specs.Prelude.{◌==◌}
use Rattle.std.specs.List.{list_all}
use Rattle.std.specs.Fmt.{digits, digits_onto, digit_glyph, signed_decimal}
use Rattle.std.proofs.lemmas.Bool.{and_parts, and_from}
use Rattle.std.proofs.lemmas.Bool.Decides.{nat_tests}
use Rattle.std.proofs.lemmas.List.Folds.{list_all-append}
use Rattle.profile.specs.series.Days.{Frequency, Daily, Weekly, Monthly, Yearly, IsDate, is_leap_year}
use Rattle.profile.specs.series.Rules.{Pattern, RuleText, Until, UntilDay, UntilLocal, UntilInstant, WeekdayNumber, is_plain}
use Rattle.profile.specs.series.RuleTexts.{count_text, entries_from, weekday_number_text, frequency_word, listed, months_from, numbers_from, rule_text, until_text, weekday_word}
use Rattle.profile.specs.series.Zones.{Zone}
use Rattle.profile.specs.text.Values.{two_digits, four_digits, duration_text, SpellsDate, SpellsTime, WritesLocal, WritesStamp}
use Rattle.profile.specs.events.Properties.{BothOrNeither, Form, Fixed, Floating, WholeDay}
use Rattle.profile.specs.written.WrittenZones.{rule_lines}
use Rattle.profile.specs.events.EventRules.{as_end}
use Rattle.profile.specs.rooms.Messages.{WritesEnd, WritesFixedEnd}
use Rattle.ical_lines.proofs.CleanLines.{is_shown}

-- ---- a test that the octets of written times pass

pub record IsTimeTest (test : ℕ → Bool) : Type 0 where
  pub digit : (n : ℕ) → n < 10 → test (48 + n) ≡ true
  pub middle : test 84 ≡ true
  pub last : test 90 ≡ true

abbrev all_digits : (ℕ → Bool) → Type 0
all_digits test = (n : ℕ) → n < 10 → test (48 + n) ≡ true

pub both_pass : (test : ℕ → Bool) (a b : List ℕ) → list_all test a ≡ true → list_all test b ≡ true → list_all test (a ++ b) ≡ true
both_pass test a b p q = list_all-append test a b ∙ and_from _ _ p q

-- ---- numbers, however long

small_glyph : (b : Bool) (d : ℕ) (test : ℕ → Bool) → test (48 + d) ≡ true → b ≡ true → test (cond b (48 + d) (87 + d)) ≡ true
small_glyph true d test h e = h
small_glyph false d test h e = cc

module _ (test : ℕ → Bool) (digit : all_digits test) where
  glyph : (n : ℕ) → test (digit_glyph false (n % 10)) ≡ true
  glyph n =
      let small : n % 10 < 10 = omega arith in
      let h : nat_lt (n % 10) 10 ≡ true = grind (arith, nat_tests) in
      small_glyph (nat_lt (n % 10) 10) (n % 10) test (digit (n % 10) small) h

  either : (b : Bool) (xs ys : List ℕ) → list_all test xs ≡ true → list_all test ys ≡ true → list_all test (cond b xs ys) ≡ true
  either true xs ys p q = p
  either false xs ys p q = q

  onto : (k n : ℕ) (acc : List ℕ) → list_all test acc ≡ true → list_all test (digits_onto k 10 false n acc) ≡ true
  onto zero n acc h = h
  onto (suc k) n acc h =
      let more = digit_glyph false (n % 10) ∷ acc in
      let passes : list_all test more ≡ true = and_from _ _ (glyph n) h in
      either (nat_eq (n / 10) 0) more (digits_onto k 10 false (n / 10) more) passes (onto k (n / 10) more passes)

  pub decimal_passes : (n : ℕ) → list_all test (decimal n) ≡ true
  unfolding digits
  decimal_passes n = onto 64 n [] refl

-- ---- times

module _ (test : ℕ → Bool) (t : IsTimeTest test) where
  two_pass : (n : ℕ) → n < 100 → list_all test (two_digits n) ≡ true
  two_pass n h = and_from _ _ (t.digit (n / 10) (omega arith)) (and_from _ _ (t.digit (n % 10) (omega arith)) refl)

  four_pass : (n : ℕ) → n ≤ 9999 → list_all test (four_digits n) ≡ true
  four_pass n h = both_pass test (two_digits (n / 100)) (two_digits (n % 100)) (two_pass (n / 100) (omega arith)) (two_pass (n % 100) (omega arith))

  most_days : (p q r : Bool) → cond p (cond q 29 28) (cond r 30 31) ≤ 31
  most_days true true r = omega arith
  most_days true false r = omega arith
  most_days false q true = omega arith
  most_days false q false = omega arith

  short_month : (year month day : ℕ) → IsDate year month day → day < 100
  short_month year month day d =
      let most = most_days (nat_eq month 2) (is_leap_year year) (nat_eq month 4 || nat_eq month 6 || nat_eq month 9 || nat_eq month 11) in
      omega (arith, most, d.3)

  pub date_passes : (text : List ℕ) (number : ℤ) → SpellsDate text number → list_all test text ≡ true
  date_passes text number d =
      rw d.spelled (both_pass test (four_digits d.year ++ two_digits d.month) (two_digits d.day) (both_pass test (four_digits d.year) (two_digits d.month) (four_pass d.year d.last) (two_pass d.month (omega (arith, d.date.1)))) (two_pass d.day (short_month d.year d.month d.day d.date)))

  time_passes : (text : List ℕ) (total : ℕ) → SpellsTime 59 text total → list_all test text ≡ true
  time_passes text total s =
      rw s.spelled (both_pass test (two_digits s.hour ++ two_digits s.minute) (two_digits s.second) (both_pass test (two_digits s.hour) (two_digits s.minute) (two_pass s.hour (omega (arith, s.hours))) (two_pass s.minute (omega (arith, s.minutes)))) (two_pass s.second (omega (arith, s.seconds))))

  pub local_passes : (text : List ℕ) (seconds : ℤ) → WritesLocal text seconds → list_all test text ≡ true
  local_passes text seconds w =
      rw w.spelled (both_pass test (w.date ++ codes "T") w.time (both_pass test w.date (codes "T") (date_passes w.date w.number w.on) (and_from _ _ t.middle refl)) (time_passes w.time w.second w.at_second))

  pub stamp_passes : (text : List ℕ) (instant : ℤ) → WritesStamp text instant → list_all test text ≡ true
  stamp_passes text instant w = rw w.2 (both_pass test w.0 (codes "Z") (local_passes w.0 instant w.1) (and_from _ _ t.last refl))

-- ---- durations

module _ (test : ℕ → Bool) (digit : all_digits test) (heads : list_all test (codes "PTSD") ≡ true) where
  duration_by : (a b : Bool) (d s : List ℕ) → list_all test d ≡ true → list_all test s ≡ true → test 80 ≡ true → test 84 ≡ true → test 83 ≡ true → test 68 ≡ true
      → list_all test (cond a (codes "PT" ++ s ++ codes "S") (cond b (codes "P" ++ d ++ codes "D") (codes "P" ++ d ++ codes "DT" ++ s ++ codes "S"))) ≡ true
  duration_by true b d s p q P T S D = both_pass test (codes "PT" ++ s) (codes "S") (and_from _ _ P (and_from _ _ T q)) (and_from _ _ S refl)
  duration_by false true d s p q P T S D = both_pass test (codes "P" ++ d) (codes "D") (and_from _ _ P p) (and_from _ _ D refl)
  duration_by false false d s p q P T S D =
      both_pass test (codes "P" ++ d ++ codes "DT" ++ s) (codes "S") (both_pass test (codes "P" ++ d ++ codes "DT") s (both_pass test (codes "P" ++ d) (codes "DT") (and_from _ _ P p) (and_from _ _ D (and_from _ _ T refl))) q) (and_from _ _ S refl)

  pub duration_passes : (days seconds : ℕ) → list_all test (duration_text days seconds) ≡ true
  duration_passes days seconds =
      let a = and_parts (test 80) (list_all test (codes "TSD")) heads in
      let b = and_parts (test 84) (list_all test (codes "SD")) a.1 in
      let c = and_parts (test 83) (list_all test (codes "D")) b.1 in
      let d = and_parts (test 68) true c.1 in
      duration_by (nat_eq days 0) (nat_eq seconds 0) (decimal days) (decimal seconds) (decimal_passes test digit days) (decimal_passes test digit seconds) a.0 b.0 c.0 d.0

-- ---- printable ASCII without `G`

-- printable, and no `G`
abbrev pub is_early : ℕ → Bool
is_early c = is_shown c && not (c == 71)

pub early_time : IsTimeTest is_early
early_time = record { digit = λ n h. grind (arith, nat_tests); middle = refl; last = refl }

pub early_shown : (line : List ℕ) → list_all is_early line ≡ true → list_all is_shown line ≡ true
early_shown [] h = refl
early_shown (c ∷ cs) h =
    let both = and_parts (is_early c) (list_all is_early cs) h in
    and_from _ _ (and_parts (is_shown c) (not (c == 71)) both.0).0 (early_shown cs both.1)

pub shown_digits : (n : ℕ) → n < 10 → is_shown (48 + n) ≡ true
shown_digits n h = grind (arith, nat_tests)

decimal_early : (n : ℕ) → list_all is_early (decimal n) ≡ true
decimal_early = decimal_passes is_early early_time.digit

pub decimal_shown : (n : ℕ) → list_all is_shown (decimal n) ≡ true
decimal_shown = decimal_passes is_shown shown_digits

signed_early : (n : ℤ) → list_all is_early (signed_decimal n) ≡ true
signed_early (pos n) = decimal_early n
signed_early (negsuc n) = decimal_early (suc n)

word_early : (a b c d e f : Bool) → list_all is_early (cond a (codes "MO") (cond b (codes "TU") (cond c (codes "WE") (cond d (codes "TH") (cond e (codes "FR") (cond f (codes "SA") (codes "SU"))))))) ≡ true
word_early true b c d e f = refl
word_early false true c d e f = refl
word_early false false true d e f = refl
word_early false false false true e f = refl
word_early false false false false true f = refl
word_early false false false false false true = refl
word_early false false false false false false = refl

weekday_early : (n : ℕ) → list_all is_early (weekday_word n) ≡ true
weekday_early n = word_early (nat_eq n 0) (nat_eq n 1) (nat_eq n 2) (nat_eq n 3) (nat_eq n 4) (nat_eq n 5)

-- written unless it is what is meant without it
unless_early : (b : Bool) (text : List ℕ) → list_all is_early text ≡ true → list_all is_early (cond b [] text) ≡ true
unless_early true text h = refl
unless_early false text h = h

entry_early : (e : WeekdayNumber) → list_all is_early (weekday_number_text e) ≡ true
entry_early e =
    both_pass is_early (cond (is_plain e.number) [] (signed_decimal e.number)) (weekday_word e.weekday) (unless_early (is_plain e.number) (signed_decimal e.number) (signed_early e.number)) (weekday_early e.weekday)

listed_early : {X : Type 0} (f : X → List ℕ) → ((x : X) → list_all is_early (f x) ≡ true) → (lead : List ℕ) (xs : List X) → list_all is_early lead ≡ true → list_all is_early (listed lead (map f xs)) ≡ true
listed_early f each lead [] h = refl
listed_early f each lead (x ∷ xs) h =
    both_pass is_early (lead ++ f x) (listed (codes ",") (map f xs)) (both_pass is_early lead (f x) h (each x)) (listed_early f each (codes ",") xs refl)

months_early : (months : List ℕ) → list_all is_early (listed (codes ";BYMONTH=") (map decimal months)) ≡ true
months_early months = listed_early decimal decimal_early (codes ";BYMONTH=") months refl

days_early : (days : List ℤ) → list_all is_early (listed (codes ";BYMONTHDAY=") (map signed_decimal days)) ≡ true
days_early days = listed_early signed_decimal signed_early (codes ";BYMONTHDAY=") days refl

weekdays_early : (weekdays : List WeekdayNumber) → list_all is_early (listed (codes ";BYDAY=") (map weekday_number_text weekdays)) ≡ true
weekdays_early weekdays = listed_early weekday_number_text entry_early (codes ";BYDAY=") weekdays refl

-- ---- the rule of an event

frequency_early : (f : Frequency) → list_all is_early (frequency_word f) ≡ true
frequency_early Daily = refl
frequency_early Weekly = refl
frequency_early Monthly = refl
frequency_early Yearly = refl

count_early : (count : Option ℕ) → list_all is_early (count_text count) ≡ true
count_early None = refl
count_early (Some count) = both_pass is_early (codes ";COUNT=") (decimal count) refl (decimal_early count)

fixed_early : (clock : Zone) (until : Until) (text : List ℕ) → WritesFixedEnd clock until text → list_all is_early text ≡ true
fixed_early clock (UntilDay number) text w = date_passes is_early early_time text number w
fixed_early clock (UntilLocal local) text w = stamp_passes is_early early_time text (as_end w.0) w.2
fixed_early clock (UntilInstant instant) text w = stamp_passes is_early early_time text (as_end instant) w

end_early : (form : Form) (clock : Zone) (last : ℕ) (until : Until) (text : List ℕ) → WritesEnd form clock last until text → list_all is_early text ≡ true
end_early Fixed clock last until text w = fixed_early clock until text w
end_early Floating clock last until text (number, d, e) = date_passes is_early early_time text number d
end_early WholeDay clock last until text (number, d, e) = date_passes is_early early_time text number d

until_early : (form : Form) (clock : Zone) (last : ℕ) (until : Option Until) (text : Option (List ℕ)) → BothOrNeither (WritesEnd form clock last) until text → list_all is_early (until_text until text) ≡ true
until_early form clock last None None w = refl
until_early form clock last (Some until) (Some text) w = both_pass is_early (codes ";UNTIL=") text refl (end_early form clock last until text w)
until_early form clock last None (Some text) w = absurd w
until_early form clock last (Some until) None w = absurd w

pub rule_text_early : (form : Form) (clock : Zone) (last : ℕ) (rule : RuleText) (text : Option (List ℕ)) → BothOrNeither (WritesEnd form clock last) rule.until text → list_all is_early (rule_text rule text) ≡ true
rule_text_early form clock last rule text w =
    let interval = codes ";INTERVAL=" ++ decimal rule.interval in
    let start = codes ";WKST=" ++ weekday_word rule.week_start in
    let r1 = codes "FREQ=" ++ frequency_word rule.frequency in
    let r2 = r1 ++ count_text rule.count in
    let r3 = r2 ++ until_text rule.until text in
    let r4 = r3 ++ cond (rule.interval == 1) [] interval in
    let r5 = r4 ++ listed (codes ";BYMONTH=") (map decimal (months_from 1 rule.months)) in
    let r6 = r5 ++ listed (codes ";BYMONTHDAY=") (map signed_decimal (numbers_from 0 rule.month_days)) in
    let r7 = r6 ++ listed (codes ";BYDAY=") (map weekday_number_text (entries_from 0 rule.weekdays)) in
    let r8 = r7 ++ listed (codes ";BYSETPOS=") (map signed_decimal (numbers_from 0 rule.positions)) in
    let p1 : list_all is_early r1 ≡ true = both_pass is_early (codes "FREQ=") (frequency_word rule.frequency) refl (frequency_early rule.frequency) in
    let p2 : list_all is_early r2 ≡ true = both_pass is_early r1 (count_text rule.count) p1 (count_early rule.count) in
    let p3 : list_all is_early r3 ≡ true = both_pass is_early r2 (until_text rule.until text) p2 (until_early form clock last rule.until text w) in
    let p4 : list_all is_early r4 ≡ true = both_pass is_early r3 (cond (rule.interval == 1) [] interval) p3 (unless_early (rule.interval == 1) interval (both_pass is_early (codes ";INTERVAL=") (decimal rule.interval) refl (decimal_early rule.interval))) in
    let p5 : list_all is_early r5 ≡ true = both_pass is_early r4 (listed (codes ";BYMONTH=") (map decimal (months_from 1 rule.months))) p4 (months_early (months_from 1 rule.months)) in
    let p6 : list_all is_early r6 ≡ true = both_pass is_early r5 (listed (codes ";BYMONTHDAY=") (map signed_decimal (numbers_from 0 rule.month_days))) p5 (days_early (numbers_from 0 rule.month_days)) in
    let p7 : list_all is_early r7 ≡ true = both_pass is_early r6 (listed (codes ";BYDAY=") (map weekday_number_text (entries_from 0 rule.weekdays))) p6 (weekdays_early (entries_from 0 rule.weekdays)) in
    let places = listed (codes ";BYSETPOS=") (map signed_decimal (numbers_from 0 rule.positions)) in
    let p8 : list_all is_early r8 ≡ true = both_pass is_early r7 places p7 (listed_early signed_decimal signed_early (codes ";BYSETPOS=") (numbers_from 0 rule.positions) refl) in
    both_pass is_early r8 (cond (rule.week_start == 0) [] start) p8 (unless_early (rule.week_start == 0) start (both_pass is_early (codes ";WKST=") (weekday_word rule.week_start) refl (weekday_early rule.week_start)))

-- ---- the rule of a zone

-- a rule of a zone, after `RRULE:`
abbrev pub rule_value : Pattern → List ℕ
rule_value p = codes "FREQ=YEARLY" ++ listed (codes ";BYMONTH=") (map decimal p.months) ++ listed (codes ";BYMONTHDAY=") (map signed_decimal p.month_days) ++ listed (codes ";BYDAY=") (map weekday_number_text p.weekdays)

pub rule_shown : (p : Pattern) → list_all is_shown (rule_value p) ≡ true
rule_shown p =
    let months = listed (codes ";BYMONTH=") (map decimal p.months) in
    let days = listed (codes ";BYMONTHDAY=") (map signed_decimal p.month_days) in
    let weekdays = listed (codes ";BYDAY=") (map weekday_number_text p.weekdays) in
    early_shown (rule_value p)
    (both_pass is_early (codes "FREQ=YEARLY" ++ months ++ days) weekdays
    (both_pass is_early (codes "FREQ=YEARLY" ++ months) days (both_pass is_early (codes "FREQ=YEARLY") months refl (months_early p.months)) (days_early p.month_days)) (weekdays_early p.weekdays))

pub rule_lines_shown : (rule : Option Pattern) → list_all (list_all is_shown) (rule_lines rule) ≡ true
rule_lines_shown None = refl
rule_lines_shown (Some p) = and_from _ _ (both_pass is_shown (codes "RRULE:") (rule_value p) refl (rule_shown p)) refl
