-- From which instant on, and after how many days, series do the same again, so that what they do in one period settles them (RFC 5545
-- 3.3.10, 3.6.5, 3.8.5). A series is a meeting of a master by its rule alone: its exceptions are what EXDATE names and what overrides replace.
use Rattle.std.specs.Prelude.{◌≡◌, ◌⊎◌, ℕ, ◌*◌, ◌≤◌, ◌<◌, Bool, true, false, ◌||◌, List, [], ◌++◌, Contains, Option, Some, is_some, IfSome, ℤ, pos, ◌+ℤ◌, ◌≤ℤ◌, ◌<ℤ◌}
use Rattle.profile.specs.checker.Instances.{Instance, horizon, AreClear, HasClash}
use Rattle.profile.specs.text.Trees.{Tree}
use Rattle.profile.specs.series.Rules.{Rule}
use Rattle.profile.specs.series.Zones.{Zone, Constant, Single, Pair, AreFirstOnsets}
use Rattle.profile.specs.series.RoomZones.{IsRoomZone}
use Rattle.profile.specs.series.Periods.{IsMultiple, IsShift, most_period}
use Rattle.profile.specs.events.Properties.{first_second}
use Rattle.profile.specs.events.ZonedTimes.{clock_of}
use Rattle.profile.specs.events.EventComponents.{Method, EventComponent}
use Rattle.profile.specs.events.Placed.{SaysPlaced}
use Rattle.profile.specs.events.Events.{Event}
use Rattle.profile.specs.events.Starts.{IsInstance, IsRuleStart, IsWidth}

-- ---- after how many days

-- COUNT or UNTIL ends the rule
abbrev pub has_end : Rule → Bool
has_end rule = is_some rule.count || is_some rule.until

-- so many days later the rule does the same. One that ends does nothing any more once it has ended
abbrev pub IsRulePeriod : Rule → ℕ → Type 0
IsRulePeriod rule days = has_end rule ≡ false → IsShift rule.pattern days

-- so many days later the clocks of the zone do the same, once each observance has begun: two observances follow each other in cycles of 400
-- years, which are 146,097 days; else nothing changes any more
abbrev pub IsZonePeriod : Zone → ℕ → Type 0
IsZonePeriod (Constant _) days = Unit {0}
IsZonePeriod (Single _) days = Unit {0}
IsZonePeriod (Pair _ _) days = IsMultiple days 146_097

-- so many days later a series does the same: its rule does, and the clocks of its zone do
pub record IsPeriodOf (series : Event) (days : ℕ) : Type 0 where
  pub master : EventComponent
  pub is : series.master ≡ Some master
  pub rule : (rule : Rule) → master.rule ≡ Some rule → IsRulePeriod rule days
  pub zone : IsZonePeriod (clock_of master.times.zone) days

-- the least such number
pub record IsLeastPeriodOf (series : Event) (days : ℕ) : Type 0 where
  pub some : 0 < days
  pub most : days ≤ most_period
  pub is : IsPeriodOf series days
  pub least : (n : ℕ) → 0 < n → IsPeriodOf series n → days ≤ n

-- every such number is past the most
abbrev pub HasNoPeriodOf : Event → Type 0
HasNoPeriodOf series = (n : ℕ) → 0 < n → IsPeriodOf series n → most_period < n

-- ---- from which instant on

-- an onset is more than half a day before an instant
abbrev pub IsHalfDayPast : ℤ → ℤ → Type 0
IsHalfDayPast instant onset = (onset +ℤ pos 43_200) <ℤ instant

-- each observance of the zone began more than half a day before: a fold or a gap at an only onset isn't there a period later
abbrev pub IsPastOnsets : Zone → ℤ → Type 0
IsPastOnsets zone instant =
    (x : Option ℤ) × (y : Option ℤ) × AreFirstOnsets zone x y × IfSome x (IsHalfDayPast instant) × IfSome y (IsHalfDayPast instant)

-- the instant is after all at which a series does what it doesn't do again: after DTSTART, the first onsets, the exceptions in the dates that
-- an event may name, and, of a rule that ends, the last start before year 10000
pub record IsPastAll (series : Event) (instant : ℤ) : Type 0 where
  pub master : EventComponent
  pub is : series.master ≡ Some master
  pub start : master.times.start <ℤ instant
  pub onsets : IsPastOnsets (clock_of master.times.zone) instant
  pub exceptions : (e : ℤ) → Contains master.exceptions e → first_second ≤ℤ e → e <ℤ horizon → e <ℤ instant
  pub last : (rule : Rule) → master.rule ≡ Some rule → has_end rule ≡ true → (t : ℤ) → IsRuleStart master.times rule t → t <ℤ horizon → t <ℤ instant

-- the least such instant
abbrev pub IsLeastPast : Event → ℤ → Type 0
IsLeastPast series instant = IsPastAll series instant × ((other : ℤ) → IsPastAll series other → instant ≤ℤ other)

-- ---- what settles series with others, or with themselves

-- no instance of a series lasts longer
abbrev pub IsWidthOf : Event → ℤ → Type 0
IsWidthOf series width = (master : EventComponent) × (series.master ≡ Some master) × IsWidth master.times width

-- from this instant on each of these series does the same after so many days
pub record IsSpan (all : List Event) (from : ℤ) (days : ℕ) : Type 0 where
  pub some : 0 < days
  pub most : days ≤ most_period
  pub past : (series : Event) → Contains all series → IsPastAll series from
  pub period : (series : Event) → Contains all series → IsPeriodOf series days

-- the width of one of these series that no other one's is greater than
pub record IsGreatestWidth (all : List Event) (width : ℤ) : Type 0 where
  pub one : (series : Event) × Contains all series × IsWidthOf series width
  pub none_greater : (series : Event) (other : ℤ) → Contains all series → IsWidthOf series other → other ≤ℤ width

-- where they are settled: at the end of one period and the greatest width after it. An instance that starts just before the end of the period
-- may last into the next one
abbrev pub span_end : ℤ → ℕ → ℤ → ℤ
span_end from days width = (from +ℤ pos (86_400 * days)) +ℤ width

-- the instances of a series that start before a bound
abbrev pub StartsBelow : Event → ℤ → Instance → Type 0
StartsBelow series bound instance = IsInstance series instance × (instance.start <ℤ bound)

-- the bound of a span of these series
abbrev pub IsBoundOf : List Event → ℤ → ℕ → ℤ → Type 0
IsBoundOf all from days bound = (width : ℤ) × IsGreatestWidth all width × (bound ≡ span_end from days width)

-- the span settles each of these series with each of those: no two of their instances clash that start before its bound
pub record SpanHolds (these those : List Event) (from : ℤ) (days : ℕ) : Type 0 where
  pub span : IsSpan (these ++ those) from days
  pub bound : ℤ
  pub is : IsBoundOf (these ++ those) from days bound
  pub clear : (a b : Event) → Contains these a → Contains those b → AreClear (StartsBelow a bound) (StartsBelow b bound)

-- an instance of one of these series and one of one of those clash that start before a bound
pub record HaveClash (these those : List Event) (bound : ℤ) : Type 0 where
  pub a : Event
  pub b : Event
  pub first : Contains these a
  pub second : Contains those b
  pub clash : HasClash (StartsBelow a bound) (StartsBelow b bound)

-- it doesn't: it is no span of them, or two instances clash that start before its bound
abbrev pub SpanFails : (these those : List Event) → ℤ → ℕ → Type 0
SpanFails these those from days =
    (IsSpan (these ++ those) from days → ⊥) ⊎ ((bound : ℤ) × IsBoundOf (these ++ those) from days bound × HaveClash these those bound)

-- ---- which series there are

-- some VEVENT with RRULE says the times and the rule of the series' master, in a room of a zone that words mean, and nothing is added to it
pub record IsSaidSeries (series : Event) : Type 0 where
  pub words : List ℕ
  pub room : Option Zone
  pub named : IsRoomZone words room
  pub object : Tree
  pub method : Option Method
  pub lines : List (List ℕ)
  pub event : EventComponent
  pub says : SaysPlaced room object method lines event
  pub master : EventComponent
  pub is : series ≡ record { master = Some master; overrides = [] }
  pub times : master.times ≡ event.times
  pub rule : master.rule ≡ event.rule
  pub recurs : is_some event.rule ≡ true
  pub none_added : master.additions ≡ []

-- each of these series is one (∥ ∥₁ says that it is so, and not by which VEVENT that was seen)
abbrev pub AreSaidSeries : List Event → Type 0
AreSaidSeries all = (series : Event) → Contains all series → ∥ IsSaidSeries series ∥₁
