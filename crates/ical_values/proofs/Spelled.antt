-- Lists of a few octets, digits, dates and clocks as they are spelled.
use Rattle.std.proofs.Common.{to_z, of_z, w32, w64, ◌≡◌, ◌∙◌, ℕ, ◌-◌, ◌<◌, ◌≤◌, List, [], ◌∷◌, ◌++◌, length, get_or, take, drop, codes, refl, sym, ap, arith, ℤ, pos, ◌+ℤ◌, ◌*ℤ◌, ◌≤ℤ◌, ◌↔◌, Option, Some, None, true≢false}
use Rattle.std.specs.Option.{IsSome, IfSome, IfNone}
use Rattle.std.proofs.lemmas.Int.{ints}
use Rattle.std.proofs.lemmas.List.{append-nil}
use Rattle.std.proofs.Common.{append_assoc}
use Rattle.cal_days.proofs.Bridge.{number_low}
use Rattle.cal_days.proofs.Dates.{month_length_max}
use Rattle.profile.specs.series.Days.{IsDate, IsDayDate, day_index, days_in_month, number_of_day}
use Rattle.profile.specs.series.Zones.{local_time}
use Rattle.profile.specs.text.Values.{two_digits, four_digits, SpellsDate, SpellsTime, SpellsClock}

-- a list of 4 by its elements
pub list_of_4 : (s : List ℕ) → length s ≡ 4 → s ≡ get_or s 0 0 ∷ get_or s 1 0 ∷ get_or s 2 0 ∷ get_or s 3 0 ∷ []
list_of_4 [] h = absurd (omega arith)
list_of_4 (x0 ∷ []) h = absurd (omega arith)
list_of_4 (x0 ∷ x1 ∷ []) h = absurd (omega arith)
list_of_4 (x0 ∷ x1 ∷ x2 ∷ []) h = absurd (omega arith)
list_of_4 (x0 ∷ x1 ∷ x2 ∷ x3 ∷ []) h = refl
list_of_4 (x0 ∷ x1 ∷ x2 ∷ x3 ∷ x4 ∷ xs) h = absurd (omega arith)

-- a list of 6 by its elements
pub list_of_6 : (s : List ℕ) → length s ≡ 6 → s ≡ get_or s 0 0 ∷ get_or s 1 0 ∷ get_or s 2 0 ∷ get_or s 3 0 ∷ get_or s 4 0 ∷ get_or s 5 0 ∷ []
list_of_6 [] h = absurd (omega arith)
list_of_6 (x0 ∷ []) h = absurd (omega arith)
list_of_6 (x0 ∷ x1 ∷ []) h = absurd (omega arith)
list_of_6 (x0 ∷ x1 ∷ x2 ∷ []) h = absurd (omega arith)
list_of_6 (x0 ∷ x1 ∷ x2 ∷ x3 ∷ []) h = absurd (omega arith)
list_of_6 (x0 ∷ x1 ∷ x2 ∷ x3 ∷ x4 ∷ []) h = absurd (omega arith)
list_of_6 (x0 ∷ x1 ∷ x2 ∷ x3 ∷ x4 ∷ x5 ∷ []) h = refl
list_of_6 (x0 ∷ x1 ∷ x2 ∷ x3 ∷ x4 ∷ x5 ∷ x6 ∷ xs) h = absurd (omega arith)

-- a list of 8 by its elements
pub list_of_8 : (s : List ℕ) → length s ≡ 8 → s ≡ get_or s 0 0 ∷ get_or s 1 0 ∷ get_or s 2 0 ∷ get_or s 3 0 ∷ get_or s 4 0 ∷ get_or s 5 0 ∷ get_or s 6 0 ∷ get_or s 7 0 ∷ []
list_of_8 [] h = absurd (omega arith)
list_of_8 (x0 ∷ []) h = absurd (omega arith)
list_of_8 (x0 ∷ x1 ∷ []) h = absurd (omega arith)
list_of_8 (x0 ∷ x1 ∷ x2 ∷ []) h = absurd (omega arith)
list_of_8 (x0 ∷ x1 ∷ x2 ∷ x3 ∷ []) h = absurd (omega arith)
list_of_8 (x0 ∷ x1 ∷ x2 ∷ x3 ∷ x4 ∷ []) h = absurd (omega arith)
list_of_8 (x0 ∷ x1 ∷ x2 ∷ x3 ∷ x4 ∷ x5 ∷ []) h = absurd (omega arith)
list_of_8 (x0 ∷ x1 ∷ x2 ∷ x3 ∷ x4 ∷ x5 ∷ x6 ∷ []) h = absurd (omega arith)
list_of_8 (x0 ∷ x1 ∷ x2 ∷ x3 ∷ x4 ∷ x5 ∷ x6 ∷ x7 ∷ []) h = refl
list_of_8 (x0 ∷ x1 ∷ x2 ∷ x3 ∷ x4 ∷ x5 ∷ x6 ∷ x7 ∷ x8 ∷ xs) h = absurd (omega arith)

-- a list of 15 by its elements
pub list_of_15 : (s : List ℕ) → length s ≡ 15 → s ≡ get_or s 0 0 ∷ get_or s 1 0 ∷ get_or s 2 0 ∷ get_or s 3 0 ∷ get_or s 4 0 ∷ get_or s 5 0 ∷ get_or s 6 0 ∷ get_or s 7 0 ∷ get_or s 8 0 ∷ get_or s 9 0 ∷ get_or s 10 0 ∷ get_or s 11 0 ∷ get_or s 12 0 ∷ get_or s 13 0 ∷ get_or s 14 0 ∷ []
list_of_15 [] h = absurd (omega arith)
list_of_15 (x0 ∷ []) h = absurd (omega arith)
list_of_15 (x0 ∷ x1 ∷ []) h = absurd (omega arith)
list_of_15 (x0 ∷ x1 ∷ x2 ∷ []) h = absurd (omega arith)
list_of_15 (x0 ∷ x1 ∷ x2 ∷ x3 ∷ []) h = absurd (omega arith)
list_of_15 (x0 ∷ x1 ∷ x2 ∷ x3 ∷ x4 ∷ []) h = absurd (omega arith)
list_of_15 (x0 ∷ x1 ∷ x2 ∷ x3 ∷ x4 ∷ x5 ∷ []) h = absurd (omega arith)
list_of_15 (x0 ∷ x1 ∷ x2 ∷ x3 ∷ x4 ∷ x5 ∷ x6 ∷ []) h = absurd (omega arith)
list_of_15 (x0 ∷ x1 ∷ x2 ∷ x3 ∷ x4 ∷ x5 ∷ x6 ∷ x7 ∷ []) h = absurd (omega arith)
list_of_15 (x0 ∷ x1 ∷ x2 ∷ x3 ∷ x4 ∷ x5 ∷ x6 ∷ x7 ∷ x8 ∷ []) h = absurd (omega arith)
list_of_15 (x0 ∷ x1 ∷ x2 ∷ x3 ∷ x4 ∷ x5 ∷ x6 ∷ x7 ∷ x8 ∷ x9 ∷ []) h = absurd (omega arith)
list_of_15 (x0 ∷ x1 ∷ x2 ∷ x3 ∷ x4 ∷ x5 ∷ x6 ∷ x7 ∷ x8 ∷ x9 ∷ x10 ∷ []) h = absurd (omega arith)
list_of_15 (x0 ∷ x1 ∷ x2 ∷ x3 ∷ x4 ∷ x5 ∷ x6 ∷ x7 ∷ x8 ∷ x9 ∷ x10 ∷ x11 ∷ []) h = absurd (omega arith)
list_of_15 (x0 ∷ x1 ∷ x2 ∷ x3 ∷ x4 ∷ x5 ∷ x6 ∷ x7 ∷ x8 ∷ x9 ∷ x10 ∷ x11 ∷ x12 ∷ []) h = absurd (omega arith)
list_of_15 (x0 ∷ x1 ∷ x2 ∷ x3 ∷ x4 ∷ x5 ∷ x6 ∷ x7 ∷ x8 ∷ x9 ∷ x10 ∷ x11 ∷ x12 ∷ x13 ∷ []) h = absurd (omega arith)
list_of_15 (x0 ∷ x1 ∷ x2 ∷ x3 ∷ x4 ∷ x5 ∷ x6 ∷ x7 ∷ x8 ∷ x9 ∷ x10 ∷ x11 ∷ x12 ∷ x13 ∷ x14 ∷ []) h = refl
list_of_15 (x0 ∷ x1 ∷ x2 ∷ x3 ∷ x4 ∷ x5 ∷ x6 ∷ x7 ∷ x8 ∷ x9 ∷ x10 ∷ x11 ∷ x12 ∷ x13 ∷ x14 ∷ x15 ∷ xs) h = absurd (omega arith)

-- what follows the letter
abbrev pub after_letter : List ℕ → List ℕ
after_letter text = take (length text - 9) (drop 9 text)

-- numbers with the same digits are one
pub two_same : (m n : ℕ) (ds : List ℕ) → m < 100 → n < 100 → two_digits m ≡ ds → two_digits n ≡ ds → m ≡ n
two_same m n ds small little d e =
    let tens = ap (λ s. get_or s 0 0) (d ∙ sym e) in
    let ones = ap (λ s. get_or s 1 0) (d ∙ sym e) in
    omega arith

pub four_same : (m n : ℕ) (ds : List ℕ) → m < 10_000 → n < 10_000 → four_digits m ≡ ds → four_digits n ≡ ds → m ≡ n
four_same m n ds small little d e =
    let a = ap (λ s. get_or s 0 0) (d ∙ sym e) in
    let b = ap (λ s. get_or s 1 0) (d ∙ sym e) in
    let p = ap (λ s. get_or s 2 0) (d ∙ sym e) in
    let q = ap (λ s. get_or s 3 0) (d ∙ sym e) in
    omega arith

-- the digits of a date as it is in the text
pub record DateDigits (text : List ℕ) (year month day : ℕ) : Type 0 where
  pub years : four_digits year ≡ get_or text 0 0 ∷ get_or text 1 0 ∷ get_or text 2 0 ∷ get_or text 3 0 ∷ []
  pub months : two_digits month ≡ get_or text 4 0 ∷ get_or text 5 0 ∷ []
  pub days : two_digits day ≡ get_or text 6 0 ∷ get_or text 7 0 ∷ []

pub date_digits : (text : List ℕ) (number : ℤ) (s : SpellsDate text number) → DateDigits text s.year s.month s.day
date_digits text number s = record { years = rw s.spelled refl; months = rw s.spelled refl; days = rw s.spelled refl }

pub date_length : (text : List ℕ) (number : ℤ) (s : SpellsDate text number) → length text ≡ 8
date_length text number s = ap length s.spelled

-- the digits make the text
joined : (a b p : List ℕ) (x0 x1 x2 x3 x4 x5 x6 x7 : ℕ) → a ≡ x0 ∷ x1 ∷ x2 ∷ x3 ∷ [] → b ≡ x4 ∷ x5 ∷ [] → p ≡ x6 ∷ x7 ∷ [] → x0 ∷ x1 ∷ x2 ∷ x3 ∷ x4 ∷ x5 ∷ x6 ∷ x7 ∷ [] ≡ a ++ b ++ p
joined a b p x0 x1 x2 x3 x4 x5 x6 x7 d e f = rw (d, e, f) refl

pub date_found : (text : List ℕ) (year month day : ℕ) (number : ℤ) → length text ≡ 8 → year < 10_000 → DateDigits text year month day → IsDayDate (pos year) month day → number ≡ number_of_day (pos year) month day → SpellsDate text number
date_found text year month day number long small d h e = record {
  year = year;
  month = month;
  day = day;
  first = omega (arith, ints, h.0);
  last = omega arith;
  date = h.2;
  spelled = list_of_8 text long ∙ joined _ _ _ _ _ _ _ _ _ _ _ d.years d.months d.days;
  counted = e;
}

pub date_read : (text : List ℕ) (year month day : ℕ) (read : Option ℤ) → length text ≡ 8 → year < 10_000 → DateDigits text year month day
    → IsSome read ↔ IsDayDate (pos year) month day → IfSome read (λ d. d ≡ number_of_day (pos year) month day) → IfSome read (SpellsDate text)
date_read text year month day None l y digits found value = tt
date_read text year month day (Some d) l y digits found value = date_found text year month day d l y digits (found.0 refl) value

-- and where there are no such digits, or no such date, the text isn't one
pub no_year : (text : List ℕ) → ((n : ℕ) → n < 10_000 → four_digits n ≡ get_or text 0 0 ∷ get_or text 1 0 ∷ get_or text 2 0 ∷ get_or text 3 0 ∷ [] → ⊥) → (number : ℤ) → SpellsDate text number → ⊥
no_year text h number s = h s.year (omega (arith, s.last)) (date_digits text number s).years

pub no_month : (text : List ℕ) → ((n : ℕ) → n < 100 → two_digits n ≡ get_or text 4 0 ∷ get_or text 5 0 ∷ [] → ⊥) → (number : ℤ) → SpellsDate text number → ⊥
no_month text h number s = h s.month (omega (arith, s.date.1)) (date_digits text number s).months

day_small : (year month day : ℕ) → IsDate year month day → day < 100
day_small year month day d = let l : days_in_month year month ≤ 31 = month_length_max year month in omega (arith, l, d.3)

pub no_day : (text : List ℕ) → ((n : ℕ) → n < 100 → two_digits n ≡ get_or text 6 0 ∷ get_or text 7 0 ∷ [] → ⊥) → (number : ℤ) → SpellsDate text number → ⊥
no_day text h number s = h s.day (day_small s.year s.month s.day s.date) (date_digits text number s).days

same_date : (text : List ℕ) (year month day : ℕ) (number : ℤ) → year < 10_000 → month < 100 → day < 100 → DateDigits text year month day → SpellsDate text number → IsDayDate (pos year) month day
same_date text year month day number y m d h s =
    let g = date_digits text number s in
    let years : s.year ≡ year = four_same s.year year _ (omega (arith, s.last)) y g.years h.years in
    let months : s.month ≡ month = two_same s.month month _ (omega (arith, s.date.1)) m g.months h.months in
    let days : s.day ≡ day = two_same s.day day _ (day_small s.year s.month s.day s.date) d g.days h.days in
    (omega (arith, ints, years, s.first), omega (arith, ints, years, s.last), rw (sym years, sym months, sym days) s.date)

pub date_none : (text : List ℕ) (year month day : ℕ) (read : Option ℤ) → year < 10_000 → month < 100 → day < 100 → DateDigits text year month day → IsSome read ↔ IsDayDate (pos year) month day → IfNone read ((number : ℤ) → SpellsDate text number → ⊥)
date_none text year month day (Some x) y m d h found = tt
date_none text year month day None y m d h found = λ number s. absurd (true≢false (sym (found.1 (same_date text year month day number y m d h s))))

pub date_high : (year : ℕ) (read : Option ℤ) → year < 10_000 → IfSome read (λ d. pos year ≤ℤ pos 9999 → d ≤ℤ pos 2_932_896) → IfSome read (λ d. d ≤ℤ pos 2_932_896)
date_high year (Some d) y h = h (omega (arith, ints, y))
date_high year None y h = tt

-- T between a date and a time
pub record ClockParts (limit : ℕ) (text : List ℕ) (seconds : ℤ) : Type 0 where
  pub long : length text ≡ 15
  pub letter : get_or text 8 0 ≡ 84
  pub number : ℤ
  pub second : ℕ
  pub on : SpellsDate (take 8 text) number
  pub at_second : SpellsTime limit (after_letter text) second
  pub counted : seconds ≡ (number *ℤ pos 86_400) +ℤ pos second

pub clock_parts : (limit : ℕ) (text : List ℕ) (seconds : ℤ) → SpellsClock limit text seconds → ClockParts limit text seconds
clock_parts limit text seconds s =
    let whole : text ≡ (four_digits s.on.year ++ two_digits s.on.month ++ two_digits s.on.day) ++ codes "T" ++ (two_digits s.at_second.hour ++ two_digits s.at_second.minute ++ two_digits s.at_second.second) =
    s.spelled ∙ rw (s.on.spelled, s.at_second.spelled) refl in
    let front : take 8 text ≡ s.date = ap (take 8) whole ∙ sym s.on.spelled in
    let back : after_letter text ≡ s.time = ap after_letter whole ∙ sym s.at_second.spelled in
    record {
      long = ap length whole;
      letter = ap (λ t. get_or t 8 0) whole;
      number = s.number;
      second = s.second;
      on = rw front s.on;
      at_second = rw back s.at_second;
      counted = s.counted;
    }

split_at_8 : (text : List ℕ) → length text ≡ 15 → get_or text 8 0 ≡ 84 → text ≡ take 8 text ++ codes "T" ++ after_letter text
split_at_8 text long letter =
    let e = list_of_15 text long in
    let at_letter : ℕ → List ℕ = λ x. get_or text 0 0 ∷ get_or text 1 0 ∷ get_or text 2 0 ∷ get_or text 3 0 ∷ get_or text 4 0 ∷ get_or text 5 0 ∷ get_or text 6 0 ∷ get_or text 7 0 ∷ x ∷ get_or text 9 0 ∷ get_or text 10 0 ∷ get_or text 11 0 ∷ get_or text 12 0 ∷ get_or text 13 0 ∷ get_or text 14 0 ∷ [] in
    e ∙ ap at_letter letter ∙ sym (ap (λ t. take 8 t ++ codes "T" ++ after_letter t) e)

pub clock_found : (limit : ℕ) (text : List ℕ) (number seconds : ℤ) (second : ℕ) → length text ≡ 15 → get_or text 8 0 ≡ 84 → SpellsDate (take 8 text) number → SpellsTime limit (after_letter text) second → seconds ≡ (number *ℤ pos 86_400) +ℤ pos second → SpellsClock limit text seconds
clock_found limit text number seconds second long letter on at_second e = record {
  date = take 8 text;
  time = after_letter text;
  number = number;
  second = second;
  on = on;
  at_second = at_second;
  spelled = split_at_8 text long letter;
  counted = e;
}

-- casts of small numbers
pub small_32 : (n : ℕ) → n < 10_000 → to_z w32 n ≡ pos n
small_32 n h = omega (arith, ints)

-- a second of a day that a text spells, in 64 bits and by the day's number
pub clock_sum : (text : List ℕ) (day : ℤ) (second : ℕ) → SpellsDate text day → day ≤ℤ pos 2_932_896 → second < 86_400 → to_z w64 (of_z w64 (local_time (day_index day) second)) ≡ (day *ℤ pos 86_400) +ℤ pos second
clock_sum text day second s high h = omega (arith, ints, s.counted, number_low (pos s.year) s.month s.day (omega (arith, ints, s.first)))

-- a clock as it is appended in pieces
pub clock_pieces : (limit : ℕ) (date time zone : List ℕ) (number seconds : ℤ) (second : ℕ) → SpellsDate date number → SpellsTime limit time second → seconds ≡ (number *ℤ pos 86_400) +ℤ pos second → (clock : List ℕ) × SpellsClock limit clock seconds × (date ++ 84 ∷ (time ++ (zone ++ [])) ≡ clock ++ zone)
clock_pieces limit date time zone number seconds second on at_second e = (
  date ++ codes "T" ++ time,
  record { date = date; time = time; number = number; second = second; on = on; at_second = at_second; spelled = refl; counted = e },
  simp (append-nil, append_assoc) refl,
)

pub time_length : (limit : ℕ) (text : List ℕ) (total : ℕ) → SpellsTime limit text total → length text ≡ 6
time_length limit text total s = ap length s.spelled

-- the digits of a time as it is in the text
pub record TimeDigits (text : List ℕ) (hour minute second : ℕ) : Type 0 where
  pub hours : two_digits hour ≡ get_or text 0 0 ∷ get_or text 1 0 ∷ []
  pub minutes : two_digits minute ≡ get_or text 2 0 ∷ get_or text 3 0 ∷ []
  pub seconds : two_digits second ≡ get_or text 4 0 ∷ get_or text 5 0 ∷ []

time_digits : (limit : ℕ) (text : List ℕ) (total : ℕ) (s : SpellsTime limit text total) → TimeDigits text s.hour s.minute s.second
time_digits limit text total s = record { hours = rw s.spelled refl; minutes = rw s.spelled refl; seconds = rw s.spelled refl }

-- six octets that are these digits
pub time_spelled : (text : List ℕ) (hour minute second : ℕ) → length text ≡ 6 → TimeDigits text hour minute second → text ≡ two_digits hour ++ two_digits minute ++ two_digits second
time_spelled text hour minute second six d =
    list_of_6 text six ∙ sym (ap (λ s. s ++ two_digits minute ++ two_digits second) d.hours ∙ ap (λ s. (get_or text 0 0 ∷ get_or text 1 0 ∷ []) ++ s ++ two_digits second) d.minutes
    ∙ ap (λ s. get_or text 0 0 ∷ get_or text 1 0 ∷ get_or text 2 0 ∷ get_or text 3 0 ∷ s) d.seconds)

pub no_hour : (limit : ℕ) (text : List ℕ) → ((n : ℕ) → n < 100 → two_digits n ≡ get_or text 0 0 ∷ get_or text 1 0 ∷ [] → ⊥) → (total : ℕ) → SpellsTime limit text total → ⊥
no_hour limit text h total s = h s.hour (omega (arith, s.hours)) (time_digits limit text total s).hours

pub no_minute : (limit : ℕ) (text : List ℕ) → ((n : ℕ) → n < 100 → two_digits n ≡ get_or text 2 0 ∷ get_or text 3 0 ∷ [] → ⊥) → (total : ℕ) → SpellsTime limit text total → ⊥
no_minute limit text h total s = h s.minute (omega (arith, s.minutes)) (time_digits limit text total s).minutes

pub no_second : (limit : ℕ) (text : List ℕ) → limit ≤ 60 → ((n : ℕ) → n < 100 → two_digits n ≡ get_or text 4 0 ∷ get_or text 5 0 ∷ [] → ⊥) → (total : ℕ) → SpellsTime limit text total → ⊥
no_second limit text l h total s = h s.second (omega (arith, s.seconds)) (time_digits limit text total s).seconds

pub same_time : (limit : ℕ) (text : List ℕ) (hour minute second total : ℕ) → limit ≤ 60 → hour < 100 → minute < 100 → second < 100 → TimeDigits text hour minute second → (s : SpellsTime limit text total) → (s.hour ≡ hour) × (s.minute ≡ minute) × (s.second ≡ second)
same_time limit text hour minute second total l h m n d s =
    let g = time_digits limit text total s in (
      two_same s.hour hour _ (omega (arith, s.hours)) h g.hours d.hours,
      two_same s.minute minute _ (omega (arith, s.minutes)) m g.minutes d.minutes,
      two_same s.second second _ (omega (arith, s.seconds)) n g.seconds d.seconds,
    )
