-- What the types of a VEVENT that was read represent.
use Rattle.std.specs.Prelude.{ℕ, Bool, List, length, map, filter, option_map, Option, codes, Contains, ◌≡◌, ◌≢◌, ◌+◌, ◌*◌, ◌<◌, ℤ, pos, ◌≤ℤ◌, ◌<ℤ◌}
use Rattle.ical_values.specs.Octets.{address_octets, text_octets}
use Rattle.ical_values.specs.declared.duration.Duration.{Duration}
use Rattle.profile.specs.events.EventComponents as profile
use Rattle.profile.specs.events.Events as meetings
use Rattle.profile.specs.events.Properties.{Form, Fixed, Floating, WholeDay, Length, length_seconds}
use Rattle.profile.specs.events.ZonedTimes.{SuitsForm, length_alone}
use Rattle.profile.specs.text.Trees.{Tree}
use Rattle.profile.specs.text.Lines.{is_same_name}
use Rattle.ical_tree.specs.Tree.{component_name, component_lines, component_children}
use Rattle.ical_tree.specs.declared.component.Component.{Component}
use Rattle.cal_events.specs.declared.event_times.Extent.{Extent}
use Rattle.cal_events.specs.declared.event_times.Extent.TheVariants.{To, For, Open}
use Rattle.cal_events.specs.declared.event_times.SaidEnd.{SaidEnd}
pub use Rattle.cal_events.specs.Times.{length_of, form_of, form_said, zone_said, local_said, times_of, time_of, written_of}
use Rattle.cal_events.specs.declared.component.Attendee.{Attendee}
use Rattle.cal_events.specs.declared.component.EventComponent.{EventComponent}
use Rattle.cal_events.specs.declared.component.PartStat.{PartStat}
use Rattle.cal_events.specs.declared.component.PartStat.TheVariants.{NeedsAction, Tentative, Accepted, Delegated, Declined}
use Rattle.cal_events.specs.declared.method.Method.{Method}
use Rattle.cal_events.specs.declared.method.Method.TheVariants.{Store, Request, Add, Cancel, Reply, Refresh}

-- what an object asks for
abbrev pub method_said : Method → profile.Method
method_said Store = profile.Store
method_said Request = profile.Request
method_said Add = profile.Add
method_said Cancel = profile.Cancel
method_said Reply = profile.Reply
method_said Refresh = profile.Refresh

-- None is an object whose METHOD is ignored
abbrev pub method_read : Option Method → Option profile.Method
method_read method = option_map method_said method

abbrev pub participation_of : PartStat → profile.Participation
participation_of NeedsAction = profile.NeedsAction
participation_of Tentative = profile.Tentative
participation_of Accepted = profile.Accepted
participation_of Delegated = profile.Delegated
participation_of Declined = profile.Declined

abbrev pub attendee_of : Attendee → profile.Attendee
attendee_of a = record { address = address_octets a.address; participation = participation_of a.status; scheduled = a.scheduled }

-- the event that a VEVENT says
abbrev pub component_of : EventComponent → profile.EventComponent
component_of e = record {
  uid = text_octets e.uid;
  organiser = option_map address_octets e.organiser;
  stamp = e.stamp;
  sequence = e.sequence;
  cancelled = e.cancelled;
  recurrence = e.recurrence;
  times = times_of e.times;
  rule = e.rule;
  additions = e.additions.items;
  exceptions = e.exceptions.items;
  written = written_of e.written;
  summary = text_octets e.summary;
  attendees = map attendee_of e.attendees.items;
}

-- the meeting that a master, if there is one, and overrides say
abbrev pub meeting_with : Option EventComponent → List EventComponent → meetings.Event
meeting_with master overrides = record { master = option_map component_of master; overrides = map component_of overrides }

-- the length to an end of this form, so many seconds later: up to a date the whole days
abbrev pub IsLengthTo : Form → ℤ → Length → Type 0
IsLengthTo Fixed seconds length = (length.days ≡ 0) × (seconds ≡ pos length.seconds)
IsLengthTo Floating seconds length = (length.days ≡ 0) × (seconds ≡ pos length.seconds)
IsLengthTo WholeDay seconds length =
    (length.seconds ≡ 0) × (pos (86_400 * length.days) ≤ℤ seconds) × (seconds <ℤ pos (86_400 * length.days + 86_400))

-- the length that an extent gives beside a start of this form
abbrev pub GivesLength : Form → Extent → Length → Type 0
GivesLength form (To end) length = (form_of end.form ≡ form) × IsLengthTo form end.seconds length
GivesLength form (For duration) length = (length ≡ length_of duration) × SuitsForm form length
GivesLength form Open length = length ≡ length_alone form

-- the length that an extent gives without a start
abbrev pub GivesAlone : Extent → Length → Type 0
GivesAlone (To end) length = length ≡ length_alone Fixed
GivesAlone (For duration) length = length ≡ length_of duration
GivesAlone Open length = length ≡ length_alone Fixed

-- what is wrong with an extent beside such a start: another form, it ends before the start, or lasts longer than 366 days
pub data ExtentFault (form : Form) : Extent → ℕ → Type 0 where
  other_form : (end : SaidEnd) → form_of end.form ≢ form → ExtentFault form (To end) 57
  part_of_day : (duration : Duration) → form ≡ WholeDay → 0 < duration.seconds → ExtentFault form (For duration) 57
  ends_early : (end : SaidEnd) → form_of end.form ≡ form → end.seconds <ℤ pos 0 → ExtentFault form (To end) 50
  ends_late : (end : SaidEnd) → form_of end.form ≡ form → pos 31_622_400 <ℤ end.seconds → ExtentFault form (To end) 51
  lasts_long : (duration : Duration) → 31_622_400 < length_seconds (length_of duration) → ExtentFault form (For duration) 51

-- and without a start
abbrev pub AloneFault : Extent → ℕ → Type 0
AloneFault (To end) number = ⊥
AloneFault (For duration) number = ExtentFault Fixed (For duration) number
AloneFault Open number = ⊥

-- the VEVENTs of an object, each as its lines
abbrev pub is_vevent : Component → Bool
is_vevent c = is_same_name (component_name c) (codes "VEVENT")

abbrev pub vevents_of : Component → List (List (List ℕ))
vevents_of object = map component_lines (filter is_vevent (component_children object))

-- one of these VEVENTs has this fault
abbrev pub IsFaultAmong : Tree → Option profile.Method → List (List (List ℕ)) → ℕ → Type 0
IsFaultAmong object method vevents n = (lines : List (List ℕ)) × Contains vevents lines × profile.EventComponentFault object method lines n
