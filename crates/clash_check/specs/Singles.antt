-- What is said of singles: whether one of them clashes, and how many instances that took.
use Rattle.std.specs.Prelude.{ℕ, ◌+◌, ◌*◌, ◌≤◌, ℤ, ◌-ℤ◌, ◌≤ℤ◌, ◌<ℤ◌, List, length, Contains}
use Rattle.profile.specs.checker.Instances.{Instance, AreClear}
use Rattle.profile.specs.events.Properties.{first_second}
use Rattle.profile.specs.events.Events.{Event}
use Rattle.profile.specs.events.Starts.{IsInstance, SharesInstant}
use Rattle.profile.specs.events.Confirmed.{Confirmed, IsInSeries}
use Rattle.cal_events.specs.declared.sweep.Span.{Span}
use Rattle.clash_check.specs.Entries.{IsMore}

-- the seconds of a week
abbrev pub week : ℕ
week = 604_800

-- when an instance starts and ends
abbrev pub span_in : Instance → Span
span_in b = record { start = b.start; end = b.end }

-- an instance of the series shares an instant before the horizon with a span
abbrev pub HasSharer : Event → ℤ → ℤ → Type 0
HasSharer series start end = (b : Instance) × IsInstance series b × SharesInstant b.start b.end start end

-- none does
abbrev pub IsSharedByNone : Event → ℤ → ℤ → Type 0
IsSharedByNone series start end = (b : Instance) → IsInstance series b → SharesInstant b.start b.end start end → ⊥

-- one of the spans has one of the series
abbrev pub HasSharers : Event → List Span → Type 0
HasSharers series spans = (span : Span) × Contains spans span × HasSharer series span.start span.end

-- none has
abbrev pub HasNoSharers : Event → List Span → Type 0
HasNoSharers series spans = (span : Span) → Contains spans span → IsSharedByNone series span.start span.end

-- an instance of one of the series does
abbrev pub HaveSharer : Confirmed → ℤ → ℤ → Type 0
HaveSharer all start end = (b : Instance) × IsInSeries all.series b × SharesInstant b.start b.end start end

-- none does
abbrev pub HaveNoSharer : Confirmed → ℤ → ℤ → Type 0
HaveNoSharer all start end = (b : Instance) → IsInSeries all.series b → SharesInstant b.start b.end start end → ⊥

-- one of the spans has one
abbrev pub HaveSharers : Confirmed → List Span → Type 0
HaveSharers all spans = (span : Span) × Contains spans span × HaveSharer all span.start span.end

abbrev pub HaveNoSharers : Confirmed → List Span → Type 0
HaveNoSharers all spans = (span : Span) → Contains spans span → HaveNoSharer all span.start span.end

-- no two instances of a series clash
abbrev pub IsEachClear : Confirmed → Type 0
IsEachClear all = (series : Event) → Contains all.series series → AreClear (IsInstance series) (IsInstance series)

-- at most so many more were drawn
abbrev pub IsFewMore : ℕ → ℕ → ℕ → Type 0
IsFewMore old new most = (n : ℕ) × (n ≤ most) × IsMore old new n

-- for each single itself, and at most three more for each series: those that start less than its width before it and are over by then, two
-- at most, and one that shares an instant
abbrev pub singles_count : Confirmed → ℕ
singles_count all = (length all.series * 3 + 1) * length all.singles

-- so many were drawn for the singles, each of them at least
abbrev pub AreSinglesDrawn : Confirmed → ℕ → ℕ → Type 0
AreSinglesDrawn all old new = (n : ℕ) × (length all.singles ≤ n) × (n ≤ singles_count all) × IsMore old new n

-- from there on what starts earlier is over by an instant, where nothing lasts longer than a width
pub record IsEntryInstant (instant width entry : ℤ) : Type 0 where
  pub before : entry ≤ℤ instant
  pub late : (instant -ℤ width) <ℤ entry
  pub early : (start : ℤ) → first_second ≤ℤ start → start <ℤ entry → start ≤ℤ (instant -ℤ width)
