-- When a meeting takes place: its instances, from the master's rule, its RDATEs and EXDATEs, and the overrides (RFC 5545 3.8.5.3, 3.8.5.2,
-- 3.8.5.1, 3.8.4.4). Instants are seconds from 1970-01-01T00:00:00Z. An instance is known by its start and its slot.
use Rattle.std.specs.Prelude.{◌≡◌, ◌⊎◌, true, ℕ, ◌*◌, ◌<◌, ◌≤◌, Contains, AllPairs, All, List, [], length, MatchOption, Option, Some, None, unwrap_or, ℤ, pos, ◌+ℤ◌, ◌-ℤ◌, ◌≤ℤ◌, ◌<ℤ◌}
use Rattle.profile.specs.checker.Instances.{Key, Instance, IsWithin, horizon}
use Rattle.profile.specs.series.Rules.{Rule, is_rule_day}
use Rattle.profile.specs.series.Zones.{Zone, IsBounds, Shows, Means, local_time}
use Rattle.profile.specs.events.Properties.{Form, Fixed, Floating, WholeDay, first_second, length_seconds}
use Rattle.profile.specs.events.ZonedTimes.{EventTimes, clock_of}
use Rattle.profile.specs.events.EventRules.{IsOnDay}
use Rattle.profile.specs.events.EventComponents.{EventComponent}
use Rattle.profile.specs.events.Events.{Event}

-- ---- when an instance ends

-- the midnight of a local time
abbrev pub IsMidnightOf : ℤ → ℤ → Type 0
IsMidnightOf midnight local = (day : ℕ) × (second : ℕ) × IsOnDay local day second × (midnight ≡ local_time day 0)

-- the local time from which the days of an event are counted that starts at an instant: the one that the clocks show; of a whole day whose midnight
-- they skip that midnight, as the day is over at the next one
abbrev pub IsCountedFrom : Form → Zone → ℤ → ℤ → Type 0
IsCountedFrom Fixed zone instant local = Shows zone instant local
IsCountedFrom Floating zone instant local = Shows zone instant local
IsCountedFrom WholeDay zone instant local =
    (shown : ℤ) × (midnight : ℤ) × Shows zone instant shown × IsMidnightOf midnight shown
    × ((Means zone midnight instant × (local ≡ midnight)) ⊎ ((Means zone midnight instant → ⊥) × (local ≡ shown)))

-- this many days later by the clocks of a zone: the days are added to that local time. Without days it is the instant itself, also where the
-- clocks show its local time twice
abbrev pub IsDaysLater : Form → Zone → ℕ → ℤ → ℤ → Type 0
IsDaysLater form zone days instant later =
    ((days ≡ 0) × (later ≡ instant))
    ⊎ ((0 < days) × ((local : ℤ) × IsCountedFrom form zone instant local × Means zone (local +ℤ pos (86_400 * days)) later))

-- an instance that starts then, of an event with these times, ends then: the days of its length are nominal and come first, in the zone of
-- DTSTART, then its seconds exactly (RFC 5545 3.3.6). DTEND gives only seconds, but for dates, so all instances last equally long
abbrev pub EndsAt : EventTimes → ℤ → ℤ → Type 0
EndsAt times start end =
    (later : ℤ) × IsDaysLater times.form (clock_of times.zone) times.length.days start later × (end ≡ later +ℤ pos times.length.seconds)

-- no instance of an event with these times lasts longer, in exact seconds: its days are 86,400 seconds each, and where there
-- are days, the difference between the bounds of the offsets of DTSTART's zone is added
abbrev pub IsWidth : EventTimes → ℤ → Type 0
IsWidth times width =
    ((times.length.days ≡ 0) × (width ≡ pos (length_seconds times.length)))
    ⊎ ((0 < times.length.days)
    × ((least : ℤ) × (greatest : ℤ) × IsBounds (clock_of times.zone) least greatest × (width ≡ pos (length_seconds times.length) +ℤ (greatest -ℤ least))))

-- ---- at which instants a master starts

-- on a day of its rule, at DTSTART's second of the day on the clocks of DTSTART's zone. A local time that they skip is read with the offset
-- before the gap, as DTSTART itself is
pub record IsRuleStart (times : EventTimes) (rule : Rule) (instant : ℤ) : Type 0 where
  pub first : ℕ
  pub second : ℕ
  pub on : IsOnDay times.local first second
  pub day : ℕ
  pub listed : is_rule_day rule day ≡ true
  pub means : Means (clock_of times.zone) (local_time day second) instant

-- by its rule; without one only at DTSTART
abbrev pub IsGiven : EventTimes → Option Rule → ℤ → Type 0
IsGiven times None instant = instant ≡ times.start
IsGiven times (Some rule) instant = IsRuleStart times rule instant

-- one of these overrides replaces this instant, whatever state it is in
pub record IsReplaced (overrides : EventComponent → Type 0) (instant : ℤ) : Type 0 where
  pub override : EventComponent
  pub among : overrides override
  pub is : override.recurrence ≡ Some instant

-- its starts: by its rule or by RDATE, in the dates that an event may name, so before year 10000, except those that EXDATE names, and those
-- that an override replaces
pub record IsStart (master : EventComponent) (overrides : List EventComponent) (instant : ℤ) : Type 0 where
  pub given : IsGiven master.times master.rule instant ⊎ Contains master.additions instant
  pub in_dates : (first_second ≤ℤ instant) × (instant <ℤ horizon)
  pub not_excepted : Contains master.exceptions instant → ⊥
  pub not_replaced : IsReplaced (Contains overrides) instant → ⊥

-- ---- instances

-- which instance of the event's meeting
abbrev pub key_at : EventComponent → ℤ → Key
key_at event slot = record { organiser = unwrap_or event.organiser []; uid = event.uid; slot = slot }

-- the instance at a start of the master: its slot is that start
pub record IsOfMaster (meeting : Event) (instance : Instance) : Type 0 where
  pub master : EventComponent
  pub is : meeting.master ≡ Some master
  pub starts : IsStart master meeting.overrides instance.start
  pub key : instance.key ≡ key_at master instance.start
  pub ends : EndsAt master.times instance.start instance.end

-- the instance that an override is, at its own time: its slot is RECURRENCE-ID, which EXDATE may name, and which no start of the master
-- need be
pub record IsOfOverride (meeting : Event) (instance : Instance) : Type 0 where
  pub override : EventComponent
  pub is : Contains meeting.overrides override
  pub recurrence : override.recurrence ≡ Some instance.key.slot
  pub key : instance.key ≡ key_at override instance.key.slot
  pub starts : instance.start ≡ override.times.start
  pub ends : EndsAt override.times instance.start instance.end

abbrev pub IsInstance : Event → Instance → Type 0
IsInstance meeting instance = IsOfMaster meeting instance ⊎ IsOfOverride meeting instance

-- ---- in order

-- by start and then by slot
abbrev pub ComesBefore : Instance → Instance → Type 0
ComesBefore a b = (a.start <ℤ b.start) ⊎ ((a.start ≡ b.start) × (a.key.slot <ℤ b.key.slot))

-- all that start at an instant or later, in order, each once
pub record AreInstancesFrom (meeting : Event) (from : ℤ) (instances : List Instance) : Type 0 where
  pub each : All (λ instance. IsInstance meeting instance × (from ≤ℤ instance.start)) instances
  pub ordered : AllPairs ComesBefore instances
  pub all : (instance : Instance) → IsInstance meeting instance → from ≤ℤ instance.start → Contains instances instance

-- the first of all, this many of them, or all where there are fewer
pub record AreFirst (meeting : Event) (limit : ℕ) (instances : List Instance) : Type 0 where
  pub each : All (IsInstance meeting) instances
  pub ordered : AllPairs ComesBefore instances
  pub short : length instances ≤ limit
  pub others : (instance : Instance) → IsInstance meeting instance
      → Contains instances instance ⊎ ((length instances ≡ limit) × All (λ first. ComesBefore first instance) instances)

-- ---- which share an instant with a span

-- what lasts from `start` to `end` overlaps what lasts from `from` to `to`: they share an instant
pub record Overlaps (start end from to : ℤ) : Type 0 where
  pub instant : ℤ
  pub in_first : IsWithin start end instant
  pub in_second : IsWithin from to instant

-- they share an instant before the horizon, as two instances that clash do
pub record SharesInstant (start end from to : ℤ) : Type 0 where
  pub instant : ℤ
  pub before : instant <ℤ horizon
  pub in_first : IsWithin start end instant
  pub in_second : IsWithin from to instant

-- the first of the instances for which this holds, by start and then by slot, if there is one
abbrev pub IsFirstThat : Event → (Instance → Type 0) → Option Instance → Type 0
IsFirstThat meeting holds found =
    MatchOption found ((b : Instance) → IsInstance meeting b → holds b → ⊥)
    (λ i. IsInstance meeting i × (holds i × ((b : Instance) → IsInstance meeting b → holds b → ComesBefore b i → ⊥)))

-- the first that overlaps a span
abbrev pub IsFirstOverlap : Event → ℤ → ℤ → Option Instance → Type 0
IsFirstOverlap meeting from to = IsFirstThat meeting (λ b. Overlaps b.start b.end from to)

-- the first that shares an instant before the horizon with it
abbrev pub IsFirstSharer : Event → ℤ → ℤ → Option Instance → Type 0
IsFirstSharer meeting from to = IsFirstThat meeting (λ b. SharesInstant b.start b.end from to)
