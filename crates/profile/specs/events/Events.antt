-- A meeting: what the VEVENTs of an object say of it, its master and its overrides (RFC 5545 3.8.4.4, RFC 5546 3.2), as METHOD takes them.
use Rattle.std.specs.Prelude.{◌≡◌, ◌≢◌, ℕ, ◌<◌, Contains, AllPairs, Bool, true, false, not, ◌&&◌, ◌||◌, ◌==◌, List, [], ◌++◌, length, map, filter, codes, Option, None, Some, is_some, unwrap_or}
use Rattle.std.specs.Option.{option_to_list}
use Rattle.std.specs.List.{AllZip}
use Rattle.std.specs.Str.{bytes_eq}
use Rattle.profile.specs.faults.Faults.{is_between, is_object_fault, is_meeting_event_fault}
use Rattle.profile.specs.text.Lines.{logical_lines, text_has, reads_as_lines}
use Rattle.profile.specs.text.Objects.{SpellsTree, IsObject, has_version, lines_have, count_inside, most_events}
use Rattle.profile.specs.text.Trees.{Tree, tree_own, vevents}
use Rattle.profile.specs.series.Zones.{Zone}
use Rattle.profile.specs.events.Occurrences.{Time}
use Rattle.profile.specs.events.EventComponents.{Method, Store, Request, Add, Cancel, Reply, Refresh, EventComponent, EventComponentFault, meeting_said}
use Rattle.profile.specs.events.Placed.{SaysPlaced}

-- the event is for one instance of a meeting: it has a RECURRENCE-ID
abbrev pub is_override : EventComponent → Bool
is_override event = is_some event.recurrence

-- it is the master: it has none
abbrev pub is_master : EventComponent → Bool
is_master event = not (is_override event)

-- the event without RECURRENCE-ID, if there is one, and those with one, in the order of the text
pub record Event : Type 0 where
  pub master : Option EventComponent
  pub overrides : List EventComponent

-- both are of one UID and one ORGANIZER
abbrev pub is_same_meeting : EventComponent → EventComponent → Bool
is_same_meeting a b = bytes_eq a.uid b.uid && bytes_eq (unwrap_or a.organiser []) (unwrap_or b.organiser [])

-- its events, the master first
abbrev pub components_of : Event → List EventComponent
components_of meeting = option_to_list meeting.master ++ meeting.overrides

-- the time of DTSTART, as it is written
abbrev pub start_written : EventComponent → Time
start_written event = record { form = event.times.form; instant = event.times.start }

-- the event as an ADD takes it: the instance of its own start, whatever RECURRENCE-ID says (RFC 5546 3.2.4)
abbrev pub as_added : EventComponent → EventComponent
as_added event = record event {
  recurrence = Some event.times.start;
  written = record event.written { recurrence = Some (start_written event) };
}

-- the events of an object as its METHOD takes them; None where METHOD is ignored
abbrev pub taken_by : Option Method → List EventComponent → List EventComponent
taken_by None events = events
taken_by (Some Store) events = events
taken_by (Some Request) events = events
taken_by (Some Add) events = map as_added events
taken_by (Some Cancel) events = events
taken_by (Some Reply) events = events
taken_by (Some Refresh) events = events

-- all are of one UID and one ORGANIZER
abbrev pub AreOfOne : List EventComponent → Type 0
AreOfOne events = (a b : EventComponent) → Contains events a → Contains events b → meeting_said a ≡ meeting_said b

-- no two are for the same instance
abbrev pub InstancesDiffer : List EventComponent → Type 0
InstancesDiffer overrides = AllPairs ◌≢◌ (map (λ event. event.recurrence) overrides)

-- no two name it by the same time as it is written
abbrev pub TimesDiffer : List EventComponent → Type 0
TimesDiffer overrides = AllPairs ◌≢◌ (map (λ event. event.written.recurrence) overrides)

-- no two are for one: a message goes to rooms of several zones, so it is by how its times are written that two of them are
abbrev pub OverridesApart : Option Method → List EventComponent → Type 0
OverridesApart None overrides = InstancesDiffer overrides
OverridesApart (Some method) overrides = TimesDiffer overrides

-- an object says this meeting in a room of this zone: as a message of this method, or, without one, as an event with its instances
pub record SaysEvent (room : Option Zone) (object : Tree) (method : Option Method) (meeting : Event) : Type 0 where
  pub events : List EventComponent
  pub says : AllZip (SaysPlaced room object method) (vevents object) events
  pub some : 0 < length events
  pub one : AreOfOne events
  pub master : filter is_master (taken_by method events) ≡ option_to_list meeting.master
  pub overrides : filter is_override (taken_by method events) ≡ meeting.overrides
  pub differ : OverridesApart method meeting.overrides

-- the octets are one VCALENDAR, within the limits of a message, and say this meeting in a room of this zone
pub record SpellsEvent (room : Option Zone) (octets : List ℕ) (meeting : Event) : Type 0 where
  pub lines : reads_as_lines true octets ≡ true
  pub tree : Tree
  pub object : IsObject true tree (logical_lines octets)
  pub says : SaysEvent room tree None meeting

-- ---- what can be wrong with it, by the number of its refusal

-- a fault of an object, of its VEVENTs or between them, or a missing one
abbrev pub is_meeting_fault : ℕ → Bool
is_meeting_fault n = is_object_fault n || is_meeting_event_fault n || is_between 53 54 n || n == 62 || n == 66

-- the VEVENTs of an object that is taken so, in a room of this zone, have the fault of this number
pub data EventFault (room : Option Zone) (object : Tree) (method : Option Method) : ℕ → Type 0 where
  -- one of them has this fault
  in_event : {n : ℕ} → (lines : List (List ℕ)) → Contains (vevents object) lines → EventComponentFault object method lines n → EventFault room object method n
  two_masters : (events : List EventComponent) → AllZip (SaysPlaced room object method) (vevents object) events → 1 < length (filter is_master (taken_by method events))
      → EventFault room object method 53
  two_overrides : (events : List EventComponent) → AllZip (SaysPlaced room object method) (vevents object) events
      → (OverridesApart method (filter is_override (taken_by method events)) → ⊥) → EventFault room object method 54
  -- two UIDs or two ORGANIZERs
  two_meetings : (events : List EventComponent) → AllZip (SaysPlaced room object method) (vevents object) events → (AreOfOne events → ⊥) → EventFault room object method 62
  no_event : vevents object ≡ [] → EventFault room object method 66

-- the octets have the fault of this number, in a room of this zone
pub data EventTextFault (room : Option Zone) (octets : List ℕ) : ℕ → Type 0 where
  -- 1 to 6: in a line
  in_lines : {n : ℕ} → text_has true n octets ≡ true → EventTextFault room octets n
  -- 20 to 23: in how the lines pair up
  in_tree : {n : ℕ} → lines_have n (logical_lines octets) ≡ true → EventTextFault room octets n
  -- VERSION doesn't occur exactly once, or isn't `2.0`
  no_version : (t : Tree) → SpellsTree 7 t (logical_lines octets) → has_version (tree_own t) ≡ false
      → EventTextFault room octets 24
  -- more VEVENTs than a message may have
  many_events : (t : Tree) → SpellsTree 7 t (logical_lines octets)
      → most_events < count_inside (codes "VEVENT") t → EventTextFault room octets 25
  -- in the VEVENTs of the object that the octets are
  in_vevents : {n : ℕ} → (t : Tree) → IsObject true t (logical_lines octets) → EventFault room t None n
      → EventTextFault room octets n
