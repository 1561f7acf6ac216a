-- Which instances events are for, and whether they are of one meeting.
use Rattle.std.specs.Prelude.{◌≡◌, ◌⊎◌, ℕ, ◌<◌, ◌≤◌, Contains, List, [], length, map, filter, Option, is_some, ℤ, ◌≤ℤ◌, ◌<ℤ◌}
use Rattle.std.specs.Option.{option_to_list}
use Rattle.std.specs.List.{AllZip, flat_map}
use Rattle.profile.specs.checker.Instances.{horizon}
use Rattle.profile.specs.text.Trees.{Tree}
use Rattle.profile.specs.events.Properties.{first_second}
use Rattle.profile.specs.series.Zones.{Zone}
use Rattle.profile.specs.events.Occurrences.{Time}
use Rattle.profile.specs.events.EventComponents as profile
use Rattle.profile.specs.events.Placed.{SaysPlaced}
use Rattle.profile.specs.events.Events.{AreOfOne, OverridesApart, is_master, is_override, taken_by}

-- which instances events are for
abbrev pub instants_said : List profile.EventComponent → List (Option ℤ)
instants_said events = map (λ event. event.recurrence) events

-- events aren't those of one meeting: there is none, or two are of two
abbrev pub IsNotOne : List profile.EventComponent → ℕ → Type 0
IsNotOne events n = ((n ≡ 66) × (events ≡ [])) ⊎ ((n ≡ 62) × (AreOfOne events → ⊥))

-- two of these events, as a METHOD takes them, are of one slot of their meeting: both of the whole, or of one instance
abbrev pub SharesSlot : Option profile.Method → List profile.EventComponent → ℕ → Type 0
SharesSlot method events n =
    ((n ≡ 53) × (1 < length (filter is_master events))) ⊎ ((n ≡ 54) × (OverridesApart method (filter is_override events) → ⊥))

-- each is for one instance exactly where it names one
abbrev pub NameInstances : List profile.EventComponent → Type 0
NameInstances events = (event : profile.EventComponent) → Contains events event → is_some event.written.recurrence ≡ is_override event

-- the times that they name by RECURRENCE-ID
abbrev pub times_named : List profile.EventComponent → List Time
times_named events = flat_map (λ event. option_to_list event.written.recurrence) events

-- the instant is in the dates that an event may name
abbrev pub IsInEventDates : ℤ → Type 0
IsInEventDates instant = (first_second ≤ℤ instant) × (instant <ℤ horizon)

-- these are the events of an object's VEVENTs in a room of this zone, as METHOD takes them: of one meeting, at most one for the whole of it, and no two
-- for the same instance
pub record AreOfObjectIn (room : Option Zone) (object : Tree) (method : Option profile.Method) (vevents : List (List (List ℕ))) (events : List profile.EventComponent) : Type 0 where
  pub said : List profile.EventComponent
  pub says : AllZip (SaysPlaced room object method) vevents said
  pub taken : events ≡ taken_by method said
  pub some : 0 < length events
  pub one : AreOfOne events
  pub masters : length (filter is_master events) ≤ 1
  pub differ : OverridesApart method (filter is_override events)

-- the same of the events as they are written
pub record AreOfObject (object : Tree) (method : Option profile.Method) (vevents : List (List (List ℕ))) (events : List profile.EventComponent) : Type 0 where
  pub said : List profile.EventComponent
  pub says : AllZip (profile.SaysEventComponent object method) vevents said
  pub taken : events ≡ taken_by method said
  pub some : 0 < length events
  pub one : AreOfOne events
  pub masters : length (filter is_master events) ≤ 1
  pub differ : OverridesApart method (filter is_override events)
