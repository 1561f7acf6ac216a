-- Local times, stamps and offsets as they are written are printable ASCII.
use Rattle.std.proofs.Common.{◌≡◌, ℕ, ℤ, ◌+◌, ◌/◌, ◌%◌, ◌<◌, ◌≤◌, Bool, true, false, ◌||◌, cond, nat_eq, List, ◌++◌, take, codes, refl, arith, unsigned_abs}
use Rattle.std.specs.List.{list_all}
use Rattle.std.specs.Int.{is_negative}
use Rattle.std.specs.Str.{IsUtf8}
use Rattle.std.proofs.lemmas.Bool.{and_from}
use Rattle.profile.specs.series.Days.{IsDate, is_leap_year}
use Rattle.profile.specs.text.Values.{two_digits, four_digits, SpellsDate, SpellsTime, WritesLocal, WritesStamp, WritesOffset}
use Rattle.ical_lines.proofs.CleanLines.{is_shown, clean_shown, shown_append, shown_digit}

pub shown_two : (n : ℕ) → n < 100 → list_all is_shown (two_digits n) ≡ true
shown_two n h = and_from _ _ (shown_digit (48 + n / 10) (omega arith, omega arith)) (and_from _ _ (shown_digit (48 + n % 10) (omega arith, omega arith)) refl)

shown_four : (n : ℕ) → n ≤ 9999 → list_all is_shown (four_digits n) ≡ true
shown_four n h = shown_append (two_digits (n / 100)) (two_digits (n % 100)) (shown_two (n / 100) (omega arith)) (shown_two (n % 100) (omega arith))

most_days : (p q r : Bool) → cond p (cond q 29 28) (cond r 30 31) ≤ 31
most_days true true r = omega arith
most_days true false r = omega arith
most_days false q true = omega arith
most_days false q false = omega arith

short_month : (year month day : ℕ) → IsDate year month day → day < 100
short_month year month day d =
    let most = most_days (nat_eq month 2) (is_leap_year year) (nat_eq month 4 || nat_eq month 6 || nat_eq month 9 || nat_eq month 11) in
    omega (arith, most, d.3)

pub shown_date : (text : List ℕ) (number : ℤ) → SpellsDate text number → list_all is_shown text ≡ true
shown_date text number d =
    rw d.spelled (shown_append (four_digits d.year ++ two_digits d.month) (two_digits d.day) (shown_append (four_digits d.year) (two_digits d.month) (shown_four d.year d.last) (shown_two d.month (omega (arith, d.date.1)))) (shown_two d.day (short_month d.year d.month d.day d.date)))

-- a date as it is written is text
pub utf8_date : (text : List ℕ) (number : ℤ) → SpellsDate text number → IsUtf8 text
utf8_date text number d = (clean_shown text (shown_date text number d)).utf8

shown_time : (text : List ℕ) (total : ℕ) → SpellsTime 59 text total → list_all is_shown text ≡ true
shown_time text total t =
    rw t.spelled (shown_append (two_digits t.hour ++ two_digits t.minute) (two_digits t.second) (shown_append (two_digits t.hour) (two_digits t.minute) (shown_two t.hour (omega (arith, t.hours))) (shown_two t.minute (omega (arith, t.minutes)))) (shown_two t.second (omega (arith, t.seconds))))

pub shown_local : (text : List ℕ) (seconds : ℤ) → WritesLocal text seconds → list_all is_shown text ≡ true
shown_local text seconds w =
    rw w.spelled (shown_append (w.date ++ codes "T") w.time (shown_append w.date (codes "T") (shown_date w.date w.number w.on) refl) (shown_time w.time w.second w.at_second))

pub shown_stamp : (text : List ℕ) (instant : ℤ) → WritesStamp text instant → list_all is_shown text ≡ true
shown_stamp text instant w = rw w.2 (shown_append w.0 (codes "Z") (shown_local w.0 instant w.1) refl)

-- a stamp as it is written is text
pub utf8_stamp : (text : List ℕ) (instant : ℤ) → WritesStamp text instant → IsUtf8 text
utf8_stamp text instant w = (clean_shown text (shown_stamp text instant w)).utf8

-- ---- offsets

shown_front : (hour minute second : ℕ) → hour ≤ 23 → minute ≤ 59 → list_all is_shown (take 4 (two_digits hour ++ two_digits minute ++ two_digits second)) ≡ true
shown_front hour minute second h m = shown_append (two_digits hour) (two_digits minute) (shown_two hour (omega arith)) (shown_two minute (omega arith))

shown_size : (time : List ℕ) (size : ℕ) (short : Bool) → SpellsTime 59 time size → list_all is_shown (cond short (take 4 time) time) ≡ true
shown_size time size true t = rw t.spelled (shown_front t.hour t.minute t.second t.hours t.minutes)
shown_size time size false t = shown_time time size t

shown_sign : (negative : Bool) → list_all is_shown (cond negative (codes "-") (codes "+")) ≡ true
shown_sign true = refl
shown_sign false = refl

pub shown_offset : (text : List ℕ) (offset : ℤ) → WritesOffset text offset → list_all is_shown text ≡ true
shown_offset text offset (time, t, e) =
    let short = nat_eq (unsigned_abs offset % 60) 0 in
    rw e (shown_append (cond (is_negative offset) (codes "-") (codes "+")) (cond short (take 4 time) time) (shown_sign (is_negative offset)) (shown_size time (unsigned_abs offset) short t))
