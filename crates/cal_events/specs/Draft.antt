-- A calendar while its VEVENTs are read.
use Rattle.std.specs.Prelude.{ℕ, suc, List, [], ◌∷◌, ◌++◌, ◌≡◌, ◌⊎◌, ◌||◌, map, filter, length, All, AllPairs, Contains, Bool, true, false, not, Option, None, Some, is_some, ℤ, pos}
use Rattle.std.specs.Ordering.{is_eq}
use Rattle.std.specs.List.{list_any, filter_map}
use Rattle.std.specs.List.Sorted.{IsPermutation, IsSortedByKey}
use Rattle.profile.specs.checker.Instances.{Key, Instance, key_cmp}
use Rattle.profile.specs.events.EventComponents.{EventComponent, meeting_said}
use Rattle.profile.specs.events.Placed.{SaysPlaced}
use Rattle.profile.specs.series.Zones.{Zone}
use Rattle.profile.specs.series.RoomZones.{IsRoomZone}
use Rattle.profile.specs.text.Lines.{reads_as_lines}
use Rattle.profile.specs.text.Trees.{Tree}
use Rattle.profile.specs.checker.Calendars.{SayEvents, IsCalendarText}
use Rattle.profile.specs.events.Starts.{IsInstance, EndsAt, ComesBefore}
use Rattle.profile.specs.events.Confirmed.{alone, is_kept, is_series, IsOfSeries, MastersDiffer, OverridesDiffer}
use Rattle.cal_events.specs.Component.{component_of}
use Rattle.cal_events.specs.Entries.{Name}
use Rattle.cal_events.specs.Names.{name_said, meeting_at, recurrence_at}
use Rattle.cal_events.specs.Naming.{IsNaming}
use Rattle.cal_events.specs.Calendar.{key_of, key_in, instance_as}
use Rattle.cal_events.specs.declared.calendar.PlacedSingle.{PlacedSingle as Single}
use Rattle.cal_events.specs.declared.draft.Draft.{Draft}
use Rattle.cal_events.specs.declared.instance.InstanceKey.{InstanceKey}

-- some VEVENT says the event, in a room of a zone that words mean
pub record IsSaid (event : EventComponent) : Type 0 where
  pub words : List ℕ
  pub room : Option Zone
  pub named : IsRoomZone words room
  pub object : Tree
  pub lines : List (List ℕ)
  pub says : SaysPlaced room object None lines event

-- ---- singles, without a look at what overrides hide

-- an instance of an event by itself that belongs to no series, where the room keeps it
pub record IsOwnInstance (room : List ℕ) (event : EventComponent) (instance : Instance) : Type 0 where
  pub kept : is_kept room event ≡ true
  pub is : IsInstance (alone event) instance
  pub apart : IsOfSeries event instance → ⊥

-- all of them, by start, each once
pub record AreOwn (room : List ℕ) (event : EventComponent) (own : List Instance) : Type 0 where
  pub each : All (IsOwnInstance room event) own
  pub ordered : AllPairs ComesBefore own
  pub all : (instance : Instance) → IsOwnInstance room event instance → Contains own instance

-- these are they, of the VEVENT at that place
pub record AreOwnAt (room : List ℕ) (place : ℕ) (event : EventComponent) (own : List Single) : Type 0 where
  pub at : All (λ s. s.entry ≡ place) own
  pub are : AreOwn room event (map (instance_as (meeting_said event)) own)

-- a single of the VEVENT at that place, at a start of that
pub record IsMadeAt (place : ℕ) (event : EventComponent) (start : ℤ) (s : Single) : Type 0 where
  pub at : s.entry ≡ place
  pub slot : s.slot ≡ start
  pub starts : s.start ≡ start
  pub ends : EndsAt event.times start s.end

-- these are those of VEVENTs from a place on, one after another
abbrev pub AreDrawn : List ℕ → ℕ → List EventComponent → List Single → Type 0
AreDrawn room place [] singles = singles ≡ []
AreDrawn room place (event ∷ events) singles =
    (own : List Single) × (rest : List Single) × (singles ≡ own ++ rest) × AreOwnAt room place event own × AreDrawn room (suc place) events rest

-- the draft of these VEVENTs
pub record IsDraft (room : List ℕ) (events : List EventComponent) (draft : Draft) : Type 0 where
  pub said : All IsSaid events
  pub entries : draft.entries ≡ map name_said events
  pub begins : length draft.begins.items ≡ length events
  pub series : map component_of draft.series.items ≡ filter (is_series room) events
  pub singles : AreDrawn room 0 events draft.singles.items
  pub naming : IsNaming room events draft.naming

-- the draft of an object's VEVENTs
pub record IsDraftOf (room : List ℕ) (object : Tree) (draft : Draft) : Type 0 where
  pub events : List EventComponent
  pub says : SayEvents object events
  pub is : IsDraft room events draft

-- the draft of the VCALENDAR that the octets are
pub record IsDraftIn (room octets : List ℕ) (draft : Draft) : Type 0 where
  pub lines : reads_as_lines false octets ≡ true
  pub tree : Tree
  pub object : IsCalendarText tree octets
  pub of : IsDraftOf room tree draft

-- ---- one master of a meeting, and one override for an instance

-- the key of a master, with slot 0
abbrev pub master_key : Name → Option Key
master_key (m, None) = Some (key_in m (pos 0))
master_key (m, Some slot) = None

-- the key of the instance that an override replaces
abbrev pub override_key : Name → Option Key
override_key (m, None) = None
override_key (m, Some slot) = Some (key_in m slot)

-- those of all that are one
abbrev pub master_keys : List Name → List Key
master_keys entries = filter_map master_key entries

abbrev pub override_keys : List Name → List Key
override_keys entries = filter_map override_key entries

-- in order
abbrev pub AreInOrder : List InstanceKey → Type 0
AreInOrder keys = IsSortedByKey key_of key_cmp keys

-- the keys that borrow their texts are these, in order
abbrev pub AreSorted : List Key → List InstanceKey → Type 0
AreSorted keys sorted = IsPermutation keys (map key_of sorted) × AreInOrder sorted

-- the single is an override's, or none of these keys is its own
abbrev pub is_shown_in : List Name → List Key → Single → Bool
is_shown_in entries keys s = is_some (recurrence_at entries s.entry) || not (list_any (λ key. is_eq (key_cmp key (key_in (meeting_at entries s.entry) s.slot))) keys)

-- those are left that are shown, where overrides replace these instances, in some order
pub record AreSinglesShown (entries : List Name) (singles left : List Single) : Type 0 where
  pub keys : List Key
  pub same : IsPermutation (override_keys entries) keys
  pub is : left ≡ filter (is_shown_in entries keys) singles

-- two masters of one meeting, or two overrides for one instance
abbrev pub IsTwoOf : List EventComponent → ℕ → Type 0
IsTwoOf events n = ((n ≡ 53) × (MastersDiffer events → ⊥)) ⊎ ((n ≡ 54) × (OverridesDiffer events → ⊥))
