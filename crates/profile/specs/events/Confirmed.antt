-- Which instances the VEVENTs of a calendar confirm in a room (RFC 5545 3.2.12, 3.8.1.11, 3.8.4.4), in series and singles.
-- A meeting is one ORGANIZER and one UID; by RFC 5545 3.8.4.7 the UID alone is global, so this is this profile's choice.
use Rattle.std.specs.Prelude.{◌≡◌, ◌≢◌, ◌⊎◌, ◌↔◌, ◌<ℤ◌, Contains, AllPairs, All, Bool, true, false, not, if◌then◌else◌, ◌&&◌, List, [], ◌∷◌, filter, Option, Some, None, is_some, ℤ, ℕ}
use Rattle.std.specs.List.{AllZip, flat_map}
use Rattle.profile.specs.checker.Instances.{Instance}
use Rattle.profile.specs.series.Rules.{Rule}
use Rattle.profile.specs.events.EventComponents.{EventComponent, has_accepted, meeting_said}
use Rattle.profile.specs.events.Events.{Event, is_master, is_override}
use Rattle.profile.specs.events.Starts.{IsInstance, IsReplaced, IsRuleStart, ComesBefore}

-- ---- the instances of the events of a calendar

-- an event by itself, as a meeting
abbrev pub alone : EventComponent → Event
alone event = if is_override event then record { master = None; overrides = event ∷ [] } else record { master = Some event; overrides = [] }

-- an override of its meeting replaces this instant
abbrev pub IsReplacedAmong : List EventComponent → EventComponent → ℤ → Type 0
IsReplacedAmong events event = IsReplaced (λ other. Contains events other × (meeting_said other ≡ meeting_said event))

-- an instance of one of the events: of a master none that an override replaces
pub record IsInstanceAmong (events : List EventComponent) (event : EventComponent) (instance : Instance) : Type 0 where
  pub is : IsInstance (alone event) instance
  pub shown : is_master event ≡ true → IsReplacedAmong events event instance.start → ⊥

-- ---- which of them are confirmed

-- the room has accepted the event, and it isn't cancelled
abbrev pub is_kept : List ℕ → EventComponent → Bool
is_kept room event = has_accepted room event && not event.cancelled

-- the instance is one of a kept event: a cancelled master has none, and leaves its overrides as they are
pub record IsConfirmed (room : List ℕ) (events : List EventComponent) (instance : Instance) : Type 0 where
  pub event : EventComponent
  pub among : Contains events event
  pub kept : is_kept room event ≡ true
  pub is : IsInstanceAmong events event instance

-- ---- in series and singles

-- a master's rule gives the start of the instance: it is one of a series, also where RDATE names that start
pub record IsOfSeries (event : EventComponent) (instance : Instance) : Type 0 where
  pub master : is_master event ≡ true
  pub rule : Rule
  pub has : event.rule ≡ Some rule
  pub starts : IsRuleStart event.times rule instance.start

-- all others are singles
pub record IsSingle (room : List ℕ) (events : List EventComponent) (event : EventComponent) (instance : Instance) : Type 0 where
  pub kept : is_kept room event ≡ true
  pub is : IsInstanceAmong events event instance
  pub apart : IsOfSeries event instance → ⊥

-- all singles of an event, by start, each once
pub record AreSingles (room : List ℕ) (events : List EventComponent) (event : EventComponent) (singles : List Instance) : Type 0 where
  pub each : All (IsSingle room events event) singles
  pub ordered : AllPairs ComesBefore singles
  pub all : (instance : Instance) → IsSingle room events event instance → Contains singles instance

-- a kept master with RRULE
abbrev pub is_series : List ℕ → EventComponent → Bool
is_series room event = is_kept room event && is_master event && is_some event.rule

-- these are all instants for which it holds, ascending, each once
pub record AreAll (holds : ℤ → Type 0) (instants : List ℤ) : Type 0 where
  pub each : All holds instants
  pub ascending : AllPairs ◌<ℤ◌ instants
  pub all : (instant : ℤ) → holds instant → Contains instants instant

-- a master by its rule alone: whose it is, when it starts, how long it lasts and how it recurs, except at these instants. RDATE adds nothing to
-- it, and what else the master says isn't part of it
abbrev pub by_its_rule : EventComponent → List ℤ → EventComponent
by_its_rule master exceptions = record {
  uid = master.uid;
  organiser = master.organiser;
  stamp = None;
  sequence = 0;
  cancelled = false;
  recurrence = None;
  times = master.times;
  rule = master.rule;
  additions = [];
  exceptions = exceptions;
  written = record { recurrence = None; additions = []; exceptions = [] };
  summary = [];
  attendees = [];
}

-- a meeting of that alone, except at the instants for which this holds
pub record IsByItsRule (master : EventComponent) (excepted : ℤ → Type 0) (series : Event) : Type 0 where
  pub exceptions : List ℤ
  pub are : AreAll excepted exceptions
  pub is : series ≡ record { master = Some (by_its_rule master exceptions); overrides = [] }

-- EXDATE names the instant, or an override of the event's meeting replaces it
abbrev pub IsExcepted : List EventComponent → EventComponent → ℤ → Type 0
IsExcepted events event instant = Contains event.exceptions instant ⊎ IsReplacedAmong events event instant

-- the series of a master among the events
abbrev pub IsSeries : List EventComponent → EventComponent → Event → Type 0
IsSeries events master = IsByItsRule master (IsExcepted events master)

-- ---- of one event by itself

-- all instances of an event that aren't of its series, by start, each once
pub record AreApart (event : EventComponent) (singles : List Instance) : Type 0 where
  pub each : All (λ instance. IsInstance (alone event) instance × (IsOfSeries event instance → ⊥)) singles
  pub ordered : AllPairs ComesBefore singles
  pub all : (instance : Instance) → IsInstance (alone event) instance → (IsOfSeries event instance → ⊥) → Contains singles instance

-- a master with RRULE
abbrev pub has_series : EventComponent → Bool
has_series event = is_master event && is_some event.rule

-- the instances of this meeting are those of an event that its RRULE gives, where it has one
abbrev pub AreOfRule : EventComponent → Option Event → Type 0
AreOfRule event None = has_series event ≡ false
AreOfRule event (Some series) =
    (has_series event ≡ true) × ((instance : Instance) → IsInstance series instance ↔ (IsInstance (alone event) instance × IsOfSeries event instance))

-- ---- what is confirmed in a room

-- what is confirmed in a room: series and singles
pub record Confirmed : Type 0 where
  pub series : List Event
  pub singles : List Instance

-- the instance is one of one of these series
abbrev pub IsInSeries : List Event → Instance → Type 0
IsInSeries all instance = (series : Event) × Contains all series × IsInstance series instance

-- the instance is a single, or one of a series
abbrev pub IsOneOf : Confirmed → Instance → Type 0
IsOneOf confirmed instance = Contains confirmed.singles instance ⊎ IsInSeries confirmed.series instance

-- these are confirmed, of these events: both in the order of the events
pub record AreConfirmed (room : List ℕ) (events : List EventComponent) (confirmed : Confirmed) : Type 0 where
  pub series : AllZip (IsSeries events) (filter (is_series room) events) confirmed.series
  pub lists : List (List Instance)
  pub each : AllZip (AreSingles room events) events lists
  pub singles : confirmed.singles ≡ flat_map (λ own. own) lists

-- ---- of one meeting there is one master, and one override for an instance

-- no two of the events are masters of one meeting
abbrev pub MastersDiffer : List EventComponent → Type 0
MastersDiffer events = AllPairs (λ a b. a.recurrence ≡ None → b.recurrence ≡ None → meeting_said a ≢ meeting_said b) events

-- no two of them are for the same instance of one meeting
abbrev pub OverridesDiffer : List EventComponent → Type 0
OverridesDiffer events =
    AllPairs (λ a b. (slot : ℤ) → a.recurrence ≡ Some slot → b.recurrence ≡ Some slot → meeting_said a ≢ meeting_said b) events
