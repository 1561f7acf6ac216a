-- The zone of a room, in words: one offset, `-0500`; or the offsets of STANDARD and of DAYLIGHT and, of each, when in the year it begins,
-- `-0500 -0400 11 1SU 0200 3 2SU 0200` (month, weekday by its number from the month's start or end, local time). This profile's own form.
use Rattle.std.specs.Prelude.{◌≡◌, ◌≢◌, ℕ, ◌+◌, ◌*◌, ◌≤◌, ◌⊎◌, true, false, List, ◌++◌, codes, decimal, Option, Some, None, unwrap_or, ℤ, pos}
use Rattle.profile.specs.text.Lines.{line_value}
use Rattle.profile.specs.text.Values.{two_digits, WritesOffset}
use Rattle.profile.specs.series.RuleTexts.{weekday_word}
use Rattle.profile.specs.series.Zones.{Observance, Zone, Constant, Pair}
use Rattle.profile.specs.series.ZoneTexts.{MonthDays, OnDay, FromStart, FromEnd, InWeek, YearRule, is_each_year, year_pattern, AreMatched, AreSpaced}
use Rattle.profile.specs.events.Properties.{Says, SomeLine, OccursMoreThanOnce}

-- the day of a month, `1SU` or `-1SU`: only these two shapes are written
abbrev pub WritesMonthDay : List ℕ → MonthDays → Type 0
WritesMonthDay text (OnDay day) = ⊥
WritesMonthDay text (FromStart number weekday) = text ≡ decimal number ++ weekday_word weekday
WritesMonthDay text (FromEnd number weekday) = text ≡ codes "-" ++ decimal number ++ weekday_word weekday
WritesMonthDay text (InWeek first weekday) = ⊥

-- `hhmm` is this second of the day
pub record WritesHourMinute (text : List ℕ) (second : ℕ) : Type 0 where
  pub hour : ℕ
  pub minute : ℕ
  pub hours : hour ≤ 23
  pub minutes : minute ≤ 59
  pub is : text ≡ two_digits hour ++ two_digits minute
  pub counted : second ≡ 3600 * hour + 60 * minute

-- month, day and time say when in the year an observance begins, and this is it, from 1970-01-01 on
pub record BeginsSo (text : List ℕ) (from to : ℤ) (o : Observance) : Type 0 where
  pub day : List ℕ
  pub time : List ℕ
  pub each : YearRule
  pub on : is_each_year each.month each.days ≡ true
  pub writes_day : WritesMonthDay day each.days
  pub writes_time : WritesHourMinute time o.second
  pub is : text ≡ decimal each.month ++ codes " " ++ day ++ codes " " ++ time
  pub first : o.day ≡ 719_528
  pub rule : o.rule ≡ Some (year_pattern each o.day)
  pub offset_from : o.offset_from ≡ from
  pub offset_to : o.offset_to ≡ to

-- the words of a zone with daylight saving time, whose offsets and onsets are as far apart as those of a VTIMEZONE
pub record IsTwoOffsets (words : List ℕ) (zone : Zone) : Type 0 where
  pub standard : ℤ
  pub daylight : ℤ
  pub differ : standard ≢ daylight
  pub standard_text : List ℕ
  pub daylight_text : List ℕ
  pub writes_standard : WritesOffset standard_text standard
  pub writes_daylight : WritesOffset daylight_text daylight
  pub a : Observance
  pub b : Observance
  pub standard_onset : List ℕ
  pub daylight_onset : List ℕ
  pub begins_standard : BeginsSo standard_onset daylight standard a
  pub begins_daylight : BeginsSo daylight_onset standard daylight b
  pub is : words ≡ standard_text ++ codes " " ++ daylight_text ++ codes " " ++ standard_onset ++ codes " " ++ daylight_onset
  pub zone_is : zone ≡ Pair a b
  pub matched : AreMatched zone
  pub spaced : AreSpaced zone

-- the words mean this zone, `+0000` UTC itself, which is no zone
abbrev pub IsRoomZone : List ℕ → Option Zone → Type 0
IsRoomZone words None = words ≡ codes "+0000"
IsRoomZone words (Some zone) =
    ((offset : ℤ) × (offset ≢ pos 0) × WritesOffset words offset × (zone ≡ Constant offset)) ⊎ IsTwoOffsets words zone

-- they mean none
abbrev pub IsNoRoomZone : List ℕ → Type 0
IsNoRoomZone words = (zone : Option Zone) → IsRoomZone words zone → ⊥

-- ---- in a calendar

-- the zone that a line names: its value is the words as they are
abbrev pub IsRoomZoneLine : List ℕ → Option Zone → Type 0
IsRoomZoneLine line zone = IsRoomZone (line_value line) zone

-- the own lines of a VCALENDAR name this zone of its room by X-ROOM-ZONE, or UTC where it is missing
abbrev pub NamesRoomZone : List (List ℕ) → Option Zone → Type 0
NamesRoomZone own zone =
    (given : Option (Option Zone)) × Says (codes "X-ROOM-ZONE") false IsRoomZoneLine own given × (zone ≡ unwrap_or given None)

-- it occurs twice, or its words mean no zone: 44
abbrev pub RoomZoneFault : List (List ℕ) → Type 0
RoomZoneFault own =
    OccursMoreThanOnce (codes "X-ROOM-ZONE") own ⊎ SomeLine (codes "X-ROOM-ZONE") (λ line. IsNoRoomZone (line_value line)) own
