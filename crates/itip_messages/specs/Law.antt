-- What octets of a reply or a refresh read back as, and which texts can be in them.
use Rattle.std.specs.Prelude.{◌≡◌, ℕ, ◌<◌, ◌^◌, not, ◌||◌, ◌==◌, true, false, List, [], ◌∷◌, ◌++◌, codes, Contains, Option, None, Some, option_map, ℤ, pos}
use Rattle.std.specs.List.{flat_map, list_all, AllZip}
use Rattle.std.specs.Str.{IsUtf8}
use Rattle.profile.specs.text.Lines.{is_control, logical_lines, reads_as_lines}
use Rattle.profile.specs.text.Objects.{IsObject}
use Rattle.profile.specs.text.Trees.{Tree, tree_own, vevents}
use Rattle.profile.specs.text.Values.{IsAddress, lower_case}
use Rattle.profile.specs.events.EventComponents.{EventComponent, IsAttendee, Participation, NeedsAction, Accepted, Declined, Reply, Refresh}
use Rattle.profile.specs.events.Occurrences.{WrittenTimes}
use Rattle.profile.specs.events.Properties.{Fixed, Says, IsUidLine, IsAddressLine, IsSequenceLine, IsStampLine, lines_named}
use Rattle.profile.specs.events.ZonedTimes.{EventTimes}
use Rattle.profile.specs.events.Messages.{SpellsMessage}
use Rattle.profile.specs.organisers.Organisers.{Heard, heard_in}
use Rattle.profile.specs.checker.Instances.{Key}
use Rattle.profile.specs.rooms.Revisions.{Part, Slot, Whole, At}
use Rattle.profile.specs.rooms.Messages.{Outcome, Accept, Busy, SeriesLimit, SinglesLimit, IsReplyEvent, object_lines}
use Rattle.profile.specs.rooms.Rooms.{PartAnswer, Book, Claim, answers_part}

-- ---- texts

-- a text that a TEXT value can represent: UTF-8, with no control octet but TAB and LF (RFC 5545 3.3.11)
pub record IsTextValue (text : List ℕ) : Type 0 where
  pub calm : list_all (λ c. (c == 10) || not (is_control c)) text ≡ true
  pub utf8 : IsUtf8 text

-- an address, in UTF-8 (RFC 5545 3.3.3)
pub record IsTextAddress (text : List ℕ) : Type 0 where
  pub address : IsAddress text
  pub utf8 : IsUtf8 text

-- the names of an instance's meeting are UTF-8; a status writes them as words
pub record IsTextKey (key : Key) : Type 0 where
  pub organiser : IsUtf8 key.organiser
  pub uid : IsUtf8 key.uid

-- the instances that an outcome names have such keys
abbrev pub IsTextOutcome : Outcome → Type 0
IsTextOutcome Accept = Unit {0}
IsTextOutcome (Busy a b t) = IsTextKey a × IsTextKey b
IsTextOutcome SeriesLimit = Unit {0}
IsTextOutcome SinglesLimit = Unit {0}

-- ---- what is written

-- the texts of an answer to this part can be in lines
pub record IsWritable (part : Part) (outcome : Outcome) : Type 0 where
  pub organiser : IsTextAddress part.organiser
  pub uid : IsTextValue part.uid
  pub sequence : part.revision.sequence < 2 ^ 31
  pub keys : IsTextOutcome outcome

-- the lines are the VEVENT of such an answer
pub record IsAnswer (room : List ℕ) (lines : List (List ℕ)) : Type 0 where
  pub part : Part
  pub moment : ℤ
  pub outcome : Outcome
  pub shows : IsReplyEvent room part moment outcome lines
  pub writable : IsWritable part outcome

-- ---- what it reads back as

-- the lines of a VEVENT with these lines of its own, and no component in it
abbrev pub IsVevent : List (List ℕ) → List (List ℕ) → Type 0
IsVevent own lines = lines ≡ codes "BEGIN:VEVENT" ∷ (own ++ codes "END:VEVENT" ∷ [])

-- the octets read as the lines of one VCALENDAR whose METHOD is this word, around these VEVENTs, each with its own lines
-- (RFC 5545 3.4, RFC 5546 3.2.3, 3.2.6)
pub record ReadsAs (word octets : List ℕ) (events : List (List (List ℕ))) : Type 0 where
  pub reads : reads_as_lines false octets ≡ true
  pub lines : logical_lines octets ≡ object_lines (Some word) (flat_map (λ lines. lines) events)
  pub tree : Tree
  pub object : IsObject false tree (logical_lines octets)
  pub method : lines_named (codes "METHOD") (tree_own tree) ≡ (codes "METHOD:" ++ word) ∷ []
  pub each : AllZip IsVevent (vevents tree) events

-- ---- what each VEVENT says

-- an address as it is read, in lower case
pub record IsReadAddress (text : List ℕ) : Type 0 where
  pub address : IsAddress text
  pub lower : lower_case text ≡ text

-- what an outcome answers (RFC 5545 3.2.12)
abbrev pub participation_answered : Outcome → Participation
participation_answered Accept = Accepted
participation_answered (Busy a b t) = Declined
participation_answered SeriesLimit = Declined
participation_answered SinglesLimit = Declined

-- the start that RECURRENCE-ID names, where one instance is answered
abbrev pub instant_of_slot : Slot → Option ℤ
instant_of_slot Whole = None
instant_of_slot (At t) = Some t

-- the own lines of a VEVENT say a room's answer to a part: each property once, and the room as the one attendee (RFC 5546 3.2.3)
pub record SaysAnswer (room : List ℕ) (part : Part) (moment : ℤ) (outcome : Outcome) (own : List (List ℕ)) : Type 0 where
  pub uid : Says (codes "UID") true IsUidLine own (Some part.uid)
  pub organiser : Says (codes "ORGANIZER") true IsAddressLine own (Some part.organiser)
  pub sequence : Says (codes "SEQUENCE") true IsSequenceLine own (Some part.revision.sequence)
  pub stamp : Says (codes "DTSTAMP") true IsStampLine own (Some moment)
  pub instance : Says (codes "RECURRENCE-ID") false IsStampLine own (instant_of_slot part.slot)
  pub attendees : AllZip IsAttendee (lines_named (codes "ATTENDEE") own) (record { address = room; participation = participation_answered outcome; scheduled = true } ∷ [])

-- the own lines of a VEVENT ask for a meeting: each property once, and the room as the one attendee (RFC 5546 3.2.6)
pub record SaysRefresh (room organiser uid : List ℕ) (moment : ℤ) (own : List (List ℕ)) : Type 0 where
  pub uid_line : Says (codes "UID") true IsUidLine own (Some uid)
  pub organiser_line : Says (codes "ORGANIZER") true IsAddressLine own (Some organiser)
  pub stamp : Says (codes "DTSTAMP") true IsStampLine own (Some moment)
  pub attendees : AllZip IsAttendee (lines_named (codes "ATTENDEE") own) (record { address = room; participation = NeedsAction; scheduled = true } ∷ [])

-- ---- what an organiser hears of it

-- the times of what says none
abbrev pub no_times : EventTimes
no_times = record { form = Fixed; zone = None; local = pos 0; start = pos 0; length = record { days = 0; seconds = 0 } }

-- nothing is written but this instant, which RECURRENCE-ID names
abbrev pub none_written : Option ℤ → WrittenTimes
none_written recurrence = record { recurrence = option_map (λ t. record { form = Fixed; instant = t }) recurrence; additions = []; exceptions = [] }

-- the event of a REPLY: a room's answer to a part, decided at a moment
abbrev pub answer_event : List ℕ → Part → ℤ → Outcome → EventComponent
answer_event room part moment outcome = record {
  uid = part.uid;
  organiser = Some part.organiser;
  stamp = Some moment;
  sequence = part.revision.sequence;
  cancelled = false;
  recurrence = instant_of_slot part.slot;
  times = no_times;
  rule = None;
  additions = [];
  exceptions = [];
  written = none_written (instant_of_slot part.slot);
  summary = [];
  attendees = record { address = room; participation = participation_answered outcome; scheduled = true } ∷ [];
}

-- and what is heard of it: the slot and the SEQUENCE that are answered, when, and whether the room has accepted
abbrev pub answer_heard : List ℕ → Part → ℤ → Outcome → Heard
answer_heard room part moment outcome = record {
  uid = part.uid;
  attendee = room;
  slot = part.slot;
  revision = record { sequence = part.revision.sequence; stamp = moment };
  answer = participation_answered outcome;
}

-- the event of a REFRESH: a room asks for a meeting, at a moment
abbrev pub refresh_event : (room organiser uid : List ℕ) → ℤ → EventComponent
refresh_event room organiser uid moment = record {
  uid = uid;
  organiser = Some organiser;
  stamp = Some moment;
  sequence = 0;
  cancelled = false;
  recurrence = None;
  times = no_times;
  rule = None;
  additions = [];
  exceptions = [];
  written = none_written None;
  summary = [];
  attendees = record { address = room; participation = NeedsAction; scheduled = true } ∷ [];
}

-- the instances that the answers of a book name have texts as keys
abbrev pub AreTextAnswers : Book → Type 0
AreTextAnswers book = (answer : PartAnswer) → Contains book.answers answer → IsTextOutcome answer.outcome

-- the book has an answer to the claim's part, and the event says it
abbrev pub SaysAnswerTo : List ℕ → Book → Claim → EventComponent → Type 0
SaysAnswerTo room book claim event =
    (answer : PartAnswer) × Contains book.answers answer × (answers_part claim.part answer ≡ true)
    × (event ≡ answer_event room claim.part answer.moment answer.outcome)

-- and this is heard of it
abbrev pub IsAnswerTo : List ℕ → Book → Claim → Heard → Type 0
IsAnswerTo room book claim heard =
    (answer : PartAnswer) × Contains book.answers answer × (answers_part claim.part answer ≡ true)
    × (heard ≡ answer_heard room claim.part answer.moment answer.outcome)

-- the octets spell a REPLY of one meeting, in which an organiser hears the book's answers to these claims, and nothing else
pub record SpellsReply (room : List ℕ) (book : Book) (claims : List Claim) (octets : List ℕ) : Type 0 where
  pub organiser : List ℕ
  pub uid : List ℕ
  pub events : List EventComponent
  pub spells : SpellsMessage octets (record { method = Reply; organiser = organiser; uid = uid; events = events })
  pub says : AllZip (SaysAnswerTo room book) claims events
  pub heard : AllZip (IsAnswerTo room book) claims (heard_in events)

-- the octets spell a REFRESH, by which the room asks at that moment for the meeting of one of these claims
pub record SpellsRefresh (room : List ℕ) (claims : List Claim) (moment : ℤ) (octets : List ℕ) : Type 0 where
  pub claim : Claim
  pub of_them : Contains claims claim
  pub spells : SpellsMessage octets (record {
    method = Refresh;
    organiser = claim.part.organiser;
    uid = claim.part.uid;
    events = refresh_event room claim.part.organiser claim.part.uid moment ∷ [];
  })
