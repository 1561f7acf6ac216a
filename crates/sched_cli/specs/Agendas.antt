-- What `agenda` prints of a room's calendar in a span, and of when the room is free.
use Rattle.std.specs.Prelude.{◌≡◌, ◌⊎◌, ◌↔◌, ◌≤◌, ℕ, zero, suc, ℤ, Bool, true, IsTrue, if◌then◌else◌, ◌==◌, List, ◌++◌, codes, decimal, Option}
use Rattle.std.specs.Io.KnownBytes.{Appends, Keeps}
use Rattle.ical_lines.specs.Fault.{RefusesBy}
use Rattle.profile.specs.checker.Instances.{Instance}
use Rattle.profile.specs.checker.Agendas.{AreInSpan, AreFreeSpans}
use Rattle.profile.specs.checker.Calendars.{SpellsCalendar, CalendarTextFault}
use Rattle.profile.specs.checker.Naming.{IsOfRoom, IsOfOthers, are_of_room, not_accepted}
use Rattle.profile.specs.checker.Publishing.{IsPublished, plain_address}
use Rattle.profile.specs.events.Confirmed.{Confirmed, IsOneOf}
use Rattle.profile.specs.series.Zones.{Zone}
use Rattle.cal_agenda.specs.Gaps.{IsFreeThroughout}
use Rattle.cal_agenda.specs.Pages.{IsPage}
use Rattle.cal_agenda.specs.Printing.{LinesOf, IsAgendaLine, IsFreeLine}
use Rattle.sched_cli.specs.Blaming.{SaysRefused}
use Rattle.sched_cli.specs.Commands.{SaysLine, device_text, memory_text}
use Rattle.sched_cli.specs.Logging.{cut_shown}
use Rattle.sched_cli.specs.declared.agenda.AgendaFault.{AgendaFault}
use Rattle.sched_cli.specs.declared.agenda.AgendaFault.TheVariants.{Unread, OfOthers}

-- the lines of what a calendar's octets confirm in a span, by start and then by key, with local times where a zone is given
pub record IsAgendaText (zone : Option Zone) (room octets : List ℕ) (from until : ℤ) (text : List ℕ) : Type 0 where
  pub calendar : Confirmed
  pub spelled : SpellsCalendar room octets calendar
  pub instances : List Instance
  pub are : AreInSpan (IsOneOf calendar) from until instances
  pub lines : LinesOf (IsAgendaLine zone) instances text

-- they were written, whole
abbrev pub PrintsAgenda : Option Zone → List ℕ → List ℕ → ℤ → ℤ → Option (List ℕ) → Option (List ℕ) → Type 0
PrintsAgenda zone room octets from until old new = (text : List ℕ) × IsAgendaText zone room octets from until text × Appends old new text

-- the lines of the spans in which it confirms nothing, and whether these are all of the span
pub record IsFreeText (zone : Option Zone) (room octets : List ℕ) (from until : ℤ) (is_free : Bool) (text : List ℕ) : Type 0 where
  pub calendar : Confirmed
  pub spelled : SpellsCalendar room octets calendar
  pub spans : List (ℤ × ℤ)
  pub are : AreFreeSpans (IsOneOf calendar) from until spans
  pub lines : LinesOf (IsFreeLine zone) spans text
  pub whole : IsTrue is_free ↔ IsFreeThroughout (IsOneOf calendar) from until

-- 0 where the room is free all the time of the span, 1 where it isn't
abbrev pub free_status : Bool → ℕ
free_status is_free = if is_free then 0 else 1

-- they were written, whole, and this is the status for them
abbrev pub PrintsFree : Option Zone → ℕ → List ℕ → List ℕ → ℤ → ℤ → Option (List ℕ) → Option (List ℕ) → Type 0
PrintsFree zone status room octets from until old new =
    (text : List ℕ) × (is_free : Bool) × IsFreeText zone room octets from until is_free text × (status ≡ free_status is_free) × Appends old new text

-- the object that is published of what a calendar's octets confirm in a span, with the room's name, made when the span begins
pub record IsPublishedText (room octets : List ℕ) (from until : ℤ) (text : List ℕ) : Type 0 where
  pub calendar : Confirmed
  pub spelled : SpellsCalendar room octets calendar
  pub instances : List Instance
  pub are : AreInSpan (IsOneOf calendar) from until instances
  pub published : IsPublished (plain_address room) from instances text

-- it was written, whole
abbrev pub PrintsPublished : List ℕ → List ℕ → ℤ → ℤ → Option (List ℕ) → Option (List ℕ) → Type 0
PrintsPublished room octets from until old new = (text : List ℕ) × IsPublishedText room octets from until text × Appends old new text

-- the page of what a calendar's octets confirm on the days that a span touches, with the room's name
pub record IsPageText (zone : Option Zone) (room octets : List ℕ) (from until : ℤ) (text : List ℕ) : Type 0 where
  pub calendar : Confirmed
  pub spelled : SpellsCalendar room octets calendar
  pub page : IsPage (plain_address room) zone (IsOneOf calendar) from until text

-- it was written, whole
abbrev pub PrintsPage : Option Zone → List ℕ → List ℕ → ℤ → ℤ → Option (List ℕ) → Option (List ℕ) → Type 0
PrintsPage zone room octets from until old new = (text : List ℕ) × IsPageText zone room octets from until text × Appends old new text

-- ---- whether the calendar is one of the room

-- what is confirmed by a calendar of the room, and how many of its events name the room, aren't accepted and aren't cancelled
pub record IsReadFor (room octets : List ℕ) (confirmed : Confirmed) (count : ℕ) : Type 0 where
  pub spelled : SpellsCalendar room octets confirmed
  pub of_room : are_of_room room spelled.says.events ≡ true
  pub counted : count ≡ not_accepted room spelled.says.events

-- why nothing is said of the room
abbrev pub IsAgendaFault : (room octets : List ℕ) → AgendaFault → Type 0
IsAgendaFault room octets (Unread fault) = RefusesBy (CalendarTextFault octets) fault
IsAgendaFault room octets OfOthers = IsOfOthers room octets

abbrev pub none_names_text : List ℕ → List ℕ
none_names_text room = codes "roombox: no event names " ++ (cut_shown room ++ codes "\n")

-- that the calendar is refused, or that it is one of other rooms
abbrev pub RefusesAgenda : (room octets : List ℕ) → Option (List ℕ) → Option (List ℕ) → Bool → Type 0
RefusesAgenda room octets old new lost =
    ((n : ℕ) × CalendarTextFault octets n × SaysRefused octets n old new lost) ⊎ (IsOfOthers room octets × SaysLine (none_names_text room) old new lost)

-- ---- how many of its events aren't accepted

abbrev pub named_words : ℕ → List ℕ
named_words count = if count == 1 then codes " event names " else codes " events name "

abbrev pub counted_words : ℕ → List ℕ
counted_words count = if count == 1 then codes " and isn't accepted\n" else codes " and aren't accepted\n"

abbrev pub count_text : List ℕ → ℕ → List ℕ
count_text room count = codes "roombox: " ++ (decimal count ++ (named_words count ++ (cut_shown room ++ counted_words count)))

-- nothing is said where there are none
abbrev pub SaysCount : List ℕ → ℕ → Option (List ℕ) → Option (List ℕ) → Bool → Type 0
SaysCount room zero old new lost = Keeps old new
SaysCount room (suc n) old new lost = SaysLine (count_text room (suc n)) old new lost

-- what is said with the statuses 0, 1, 4 and 5: with 0 and 1 the calendar is one of the room, and how many of its events aren't accepted
pub record IsAgendaSaid (status : ℕ) (room octets : List ℕ) (old new : Option (List ℕ)) (lost : Bool) : Type 0 where
  pub done : status ≤ 1 → (count : ℕ) × IsOfRoom room octets count × SaysCount room count old new lost
  pub device : status ≡ 4 → SaysLine device_text old new lost
  pub memory : status ≡ 5 → SaysLine memory_text old new lost
