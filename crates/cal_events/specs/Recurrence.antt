-- What a meeting's name, and when it takes place, represent.
use Rattle.std.specs.Prelude.{◌≡◌, ◌↔◌, ◌⊎◌, ℕ, ℤ, false, All, Contains, List, [], Option, None, option_map, map, unwrap_or}
use Rattle.ical_values.specs.Octets.{address_octets, text_octets}
use Rattle.profile.specs.events.EventComponents.{EventComponent as Said, meeting_said}
use Rattle.profile.specs.events.Events.{Event as SaidEvent}
use Rattle.cal_events.specs.Entries.{MeetingName}
use Rattle.cal_events.specs.Instants.{AreStartsOf}
use Rattle.cal_events.specs.Times.{times_of, none_written}
use Rattle.cal_events.specs.Component.{component_of}
use Rattle.cal_events.specs.declared.component.EventComponent.{EventComponent}
use Rattle.cal_events.specs.declared.recurrence.EventName.{EventName}
use Rattle.cal_events.specs.declared.recurrence.Recurrence.{Recurrence}

-- ORGANIZER, if there is one
abbrev pub organiser_of : EventName → Option (List ℕ)
organiser_of name = option_map address_octets name.organiser

-- the meeting that it names
abbrev pub name_of : EventName → MeetingName
name_of name = (unwrap_or (organiser_of name) [], text_octets name.uid)

-- a master of that organiser and UID that says when the meeting takes place, and nothing else
abbrev pub master_by : Option (List ℕ) → List ℕ → Recurrence → Said
master_by organiser uid r = record {
  uid = uid;
  organiser = organiser;
  stamp = None;
  sequence = 0;
  cancelled = false;
  recurrence = None;
  times = times_of r.times;
  rule = r.rule;
  additions = r.additions;
  exceptions = r.exceptions;
  written = none_written;
  summary = [];
  attendees = [];
}

-- the same, whosever it is
abbrev pub recurring : Recurrence → Said
recurring r = master_by None [] r

-- the same, of that name
abbrev pub master_of : EventName → Recurrence → Said
master_of name r = master_by (organiser_of name) (text_octets name.uid) r

-- when a master takes place, without these instants, as if EXDATE named them
pub record IsRecurrenceWithout (master : Said) (instants : List ℤ) (r : Recurrence) : Type 0 where
  pub times : times_of r.times ≡ master.times
  pub rule : r.rule ≡ master.rule
  pub exceptions : (t : ℤ) → Contains r.exceptions t ↔ (Contains master.exceptions t ⊎ Contains instants t)
  pub additions : AreStartsOf master.additions r.exceptions r.additions

-- these are of the meeting of that name
abbrev pub AreNamed : EventName → List EventComponent → Type 0
AreNamed name events = All (λ event. meeting_said (component_of event) ≡ name_of name) events

-- a master of that name that says when the meeting takes place, if anything does, and the overrides
abbrev pub recurring_with : EventName → Option Recurrence → List EventComponent → SaidEvent
recurring_with name recurrence overrides = record { master = option_map (master_of name) recurrence; overrides = map component_of overrides }
