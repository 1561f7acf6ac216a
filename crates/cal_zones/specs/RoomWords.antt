-- The words that the zone of a room is written in.
use Rattle.std.specs.Prelude.{◌≡◌, ◌≢◌, ℕ, ◌/◌, ◌%◌, ◌==◌, Bool, true, false, not, ◌&&◌, if◌then◌else◌, List, [], ◌++◌, codes, decimal, Option, Some, None, ℤ, pos, unsigned_abs}
use Rattle.std.specs.Ordering.{int_eq}
use Rattle.std.specs.Int.{is_negative}
use Rattle.profile.specs.text.Values.{two_digits, WritesOffset}
use Rattle.profile.specs.series.RuleTexts.{weekday_word}
use Rattle.profile.specs.series.Zones.{Zone, Constant, Single, Pair}
use Rattle.profile.specs.series.Zones as abstract
use Rattle.profile.specs.series.ZoneTexts.{MonthDays, OnDay, FromStart, FromEnd, InWeek, YearRule, is_each_year, year_pattern, AreMatched, AreSpaced}
use Rattle.profile.specs.series.RoomZones.{WritesMonthDay, WritesHourMinute}
use Rattle.cal_zones.specs.Shapes.{days_of}
use Rattle.cal_zones.specs.Onsets.{observance_of}
use Rattle.cal_zones.specs.Kinds.{pair_of}
use Rattle.cal_zones.specs.declared.yearly.Yearly.{Yearly}
use Rattle.cal_zones.specs.declared.observance.Observance.{Observance}
use Rattle.cal_zones.specs.declared.zone.Form.{Form}
use Rattle.cal_zones.specs.declared.zone.Form.TheVariants as the

-- ---- words

-- the digits of an offset's size: seconds only where they aren't 0
abbrev pub size_octets : ℕ → List ℕ
size_octets n = two_digits (n / 3600) ++ two_digits (n / 60 % 60) ++ (if n % 60 == 0 then [] else two_digits (n % 60))

abbrev pub offset_octets : ℤ → List ℕ
offset_octets offset = (if is_negative offset then codes "-" else codes "+") ++ size_octets (unsigned_abs offset)

abbrev pub day_words : MonthDays → List ℕ
day_words (OnDay day) = []
day_words (FromStart number weekday) = decimal number ++ weekday_word weekday
day_words (FromEnd number weekday) = codes "-" ++ decimal number ++ weekday_word weekday
day_words (InWeek first weekday) = []

abbrev pub year_words : Option Yearly → List ℕ
year_words None = []
year_words (Some r) = decimal r.month ++ codes " " ++ day_words (days_of r.days)

abbrev pub time_words : ℕ → List ℕ
time_words second = two_digits (second / 3600) ++ two_digits (second / 60 % 60)

-- when in the year it begins
abbrev pub onset_words : Observance → List ℕ
onset_words o = year_words o.rule ++ codes " " ++ time_words o.second

abbrev pub pair_octets : Observance → Observance → List ℕ
pair_octets a b =
    offset_octets a.offset_to ++ codes " " ++ offset_octets b.offset_to ++ codes " " ++ onset_words a ++ codes " " ++ onset_words b

abbrev pub form_words : Form → List ℕ
form_words (the.Constant k) = offset_octets k.offset
form_words (the.Single a) = []
form_words (the.Pair p) = pair_octets p.standard p.daylight

-- ---- what has words

abbrev pub is_word_day : MonthDays → Bool
is_word_day (OnDay day) = false
is_word_day (FromStart number weekday) = true
is_word_day (FromEnd number weekday) = true
is_word_day (InWeek first weekday) = false

abbrev pub is_word_rule : Option Yearly → Bool
is_word_rule None = false
is_word_rule (Some r) = is_word_day (days_of r.days)

-- it begins on a whole minute, from 1970-01-01 on
abbrev pub is_word_onset : Observance → Bool
is_word_onset o = (o.day == 719_528) && (o.second % 60 == 0) && is_word_rule o.rule

abbrev pub are_worded : Observance → Observance → Bool
are_worded a b = is_word_onset a && is_word_onset b && not (int_eq a.offset_to b.offset_to)

abbrev pub has_words : Form → Bool
has_words (the.Constant k) = true
has_words (the.Single a) = false
has_words (the.Pair p) = are_worded p.standard p.daylight

-- ---- what words say, when they are read

-- a month and a day of it
abbrev pub WritesYear : List ℕ → List ℕ → YearRule → Type 0
WritesYear month day each = (month ≡ decimal each.month) × WritesMonthDay day each.days × (is_each_year each.month each.days ≡ true)

-- a month, a day and a time, as those of a `BeginsSo`
pub record BeginsBy (month day time : List ℕ) (from to : ℤ) (o : abstract.Observance) : Type 0 where
  pub each : YearRule
  pub writes : WritesYear month day each
  pub writes_time : WritesHourMinute time o.second
  pub first : o.day ≡ 719_528
  pub rule : o.rule ≡ Some (year_pattern each o.day)
  pub offset_from : o.offset_from ≡ from
  pub offset_to : o.offset_to ≡ to

-- it is this one, in these words
pub record IsReadAs (r : Observance) (o : abstract.Observance) (words : List ℕ) : Type 0 where
  pub is : observance_of r ≡ o
  pub said : onset_words r ≡ words
  pub worded : is_word_onset r ≡ true

-- three words in a row
abbrev pub three_words : List ℕ → List ℕ → List ℕ → List ℕ
three_words month day time = month ++ codes " " ++ day ++ codes " " ++ time

abbrev pub eight_words : (s d m1 d1 t1 m2 d2 t2 : List ℕ) → List ℕ
eight_words s d m1 d1 t1 m2 d2 t2 = s ++ codes " " ++ d ++ codes " " ++ three_words m1 d1 t1 ++ codes " " ++ three_words m2 d2 t2

-- the eight words of a zone with daylight saving time
pub record AreWords (s d m1 d1 t1 m2 d2 t2 : List ℕ) (zone : Zone) : Type 0 where
  pub standard : ℤ
  pub daylight : ℤ
  pub differ : standard ≢ daylight
  pub writes_standard : WritesOffset s standard
  pub writes_daylight : WritesOffset d daylight
  pub a : abstract.Observance
  pub b : abstract.Observance
  pub begins_standard : BeginsBy m1 d1 t1 daylight standard a
  pub begins_daylight : BeginsBy m2 d2 t2 standard daylight b
  pub zone_is : zone ≡ Pair a b
  pub matched : AreMatched zone
  pub spaced : AreSpaced zone

-- two observances that make a zone of a room
pub record GoTogether (a b : Observance) : Type 0 where
  pub matched : AreMatched (pair_of a b)
  pub spaced : AreSpaced (pair_of a b)
  pub worded : are_worded a b ≡ true
  pub first : a.rule ≡ None → ⊥
  pub second : b.rule ≡ None → ⊥

-- ---- the zone

-- the zone, where it isn't UTC
abbrev pub own_zone : Zone → Option Zone
own_zone (Constant k) = if int_eq k (pos 0) then None else Some (Constant k)
own_zone (Single a) = Some (Single a)
own_zone (Pair a b) = Some (Pair a b)
