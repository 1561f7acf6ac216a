-- What the types of a room represent, and what is decided of an instance.
use Rattle.std.specs.Prelude.{◌≡◌, ◌≢◌, ℕ, ℤ, Bool, true, false, not, ◌&&◌, ◌||◌, ◌==◌, List, [], ◌++◌, ◌≤◌, length, map, filter, Contains, AllPairs, Option, Some, None, option_map, slice_get}
use Rattle.std.specs.Option.{option_to_list}
use Rattle.std.specs.List.{flat_map, list_any}
use Rattle.std.specs.Str.{bytes_eq}
use Rattle.ical_values.specs.Octets.{address_octets, text_octets}
use Rattle.cal_events.specs.Calendar.{owned_key_of}
use Rattle.cal_events.specs.Series.{series_said}
use Rattle.cal_events.specs.declared.series.Series.{Series}
use Rattle.profile.specs.checker.Instances.{Instance, IsClear}
use Rattle.profile.specs.events.EventComponents.{EventComponent}
use Rattle.profile.specs.events.Events.{Event as Whole}
use Rattle.profile.specs.events.Starts.{IsInstance}
use Rattle.profile.specs.events.Confirmed.{Confirmed, IsOneOf}
use Rattle.profile.specs.rooms.Rooms.{most_series, most_singles}
use Rattle.profile.specs.rooms.Messages as messages
use Rattle.cal_events.specs.declared.sweep.Span.{Span}
use Rattle.room_books.specs.Gone.{HaveInstant, Overlap, AreSeparate}
use Rattle.room_books.specs.declared.answer.LimitKind.TheVariants as limits
use Rattle.room_books.specs.declared.meeting.MeetingKey.{MeetingKey}
use Rattle.cal_events.specs.declared.instance.Single.{Single}
use Rattle.room_books.specs.declared.meeting.PartAnswer.{PartAnswer}
use Rattle.room_books.specs.declared.kept.Meeting.{Meeting}
use Rattle.room_books.specs.declared.meeting.Outcome.{Outcome}
use Rattle.room_books.specs.declared.meeting.Outcome.TheVariants.{Accepted, Declined, Limit}
use Rattle.room_books.specs.declared.decide.SharedInstant.{SharedInstant}

-- the key of a meeting with this organiser and this UID
pub record IsKeyOf (organiser uid : List ℕ) (key : MeetingKey) : Type 0 where
  pub organiser_is : address_octets key.organiser ≡ organiser
  pub uid_is : text_octets key.uid ≡ uid

-- an instance of a meeting
abbrev pub keyed_instance : MeetingKey → Single → Instance
keyed_instance key single = record {
  key = record { organiser = address_octets key.organiser; uid = text_octets key.uid; slot = single.slot };
  start = single.span.start;
  end = single.span.end;
}

abbrev pub instance_list : MeetingKey → List Single → List Instance
instance_list key singles = map (keyed_instance key) singles

-- their original starts
abbrev pub slots_of : List Single → List ℤ
slots_of singles = map (λ s. s.slot) singles

abbrev pub spans_of : List Single → List Span
spans_of singles = map (λ s. s.span) singles

-- what was decided
abbrev pub outcome_of : Outcome → messages.Outcome
outcome_of Accepted = messages.Accept
outcome_of (Declined clash) = messages.Busy (owned_key_of clash.first) (owned_key_of clash.second) clash.instant
outcome_of (Limit limits.Series) = messages.SeriesLimit
outcome_of (Limit limits.Singles) = messages.SinglesLimit

-- what answers confirm
abbrev pub all_singles : List PartAnswer → List Single
all_singles answers = flat_map (λ given. given.singles.items) answers

-- the instances for which a meeting holds the room
abbrev pub meeting_singles : Meeting → List Single
meeting_singles meeting = all_singles meeting.answers.items

-- what a meeting has confirmed
abbrev pub confirmed_of : MeetingKey × Meeting → List Instance
confirmed_of entry = instance_list entry.0 (meeting_singles entry.1)

-- what the meeting that was found has confirmed, nothing where none was
abbrev pub singles_by : Option Meeting → List Single
singles_by None = []
singles_by (Some meeting) = meeting_singles meeting

abbrev pub singles_in : Option (MeetingKey × Meeting) → List Single
singles_in None = []
singles_in (Some entry) = meeting_singles entry.1

-- what the meeting in a place has confirmed, nothing past the end
abbrev pub confirmed_at : List (MeetingKey × Meeting) → ℕ → List Single
confirmed_at entries place = singles_in (slice_get entries place)

-- both keys name one meeting
abbrev pub same_key : MeetingKey → MeetingKey → Bool
same_key a b = bytes_eq (address_octets a.organiser) (address_octets b.organiser) && bytes_eq (text_octets a.uid) (text_octets b.uid)

-- the entry is of another meeting
abbrev pub is_other : MeetingKey → MeetingKey × Meeting → Bool
is_other key entry = not (same_key key entry.0)

-- what the other meetings have confirmed, in the order of their first arrival
abbrev pub others : MeetingKey → List (MeetingKey × Meeting) → List Instance
others key entries = flat_map confirmed_of (filter (is_other key) entries)

-- what all meetings have confirmed, in the order of their first arrival
abbrev pub all_confirmed : List (MeetingKey × Meeting) → List Instance
all_confirmed entries = flat_map confirmed_of entries

-- the span of an instance
abbrev pub instance_span : Instance → Span
instance_span b = record { start = b.start; end = b.end }

-- none of these shares an instant with the span
abbrev pub IsSpanFree : List Instance → Span → Type 0
IsSpanFree all span = (b : Instance) (t : ℤ) → Contains all b → HaveInstant span (instance_span b) t → ⊥

-- an instance of what is asked for and one of these share an instant, or none does
abbrev pub AreBusyIn : List Instance → (Single → Type 0) → Option SharedInstant → Type 0
AreBusyIn all wanted None = (s : Single) → wanted s → IsSpanFree all s.span
AreBusyIn all wanted (Some x) = wanted x.asked × Contains all (keyed_instance x.other.now x.booked) × Overlap x.asked.span x.booked.span

-- two of these share an instant, of different original starts where all have different ones, or none do
abbrev pub HaveOverlap : List Single → Option (Single × Single) → Type 0
HaveOverlap singles None = AreSeparate singles
HaveOverlap singles (Some p) = Contains singles p.0 × Contains singles p.1 × (AllPairs ◌≢◌ (slots_of singles) → p.0.slot ≢ p.1.slot) × Overlap p.0.span p.1.span

-- what a meeting keeps and asks for may be confirmed beside these: within the limit, clear, and itself apart
pub record MayJoin (others : List Instance) (key : MeetingKey) (singles : List Single) : Type 0 where
  pub few : length (others ++ instance_list key singles) ≤ most_singles
  pub clear : IsClear (Contains (others ++ instance_list key singles))
  pub separate : AreSeparate singles

-- no two instances of one meeting share an instant
abbrev pub AreAllApart : List (MeetingKey × Meeting) → Type 0
AreAllApart entries = (entry : MeetingKey × Meeting) → Contains entries entry → AreSeparate (meeting_singles entry.1)

-- ---- series

-- a master as one of the meeting with this key
abbrev pub of_key : MeetingKey → EventComponent → EventComponent
of_key key event = record event { uid = text_octets key.uid; organiser = Some (address_octets key.organiser) }

-- a series as one of the meeting with this key
abbrev pub series_of : MeetingKey → Series → Whole
series_of key series = record { master = option_map (of_key key) (series_said series).master; overrides = [] }

abbrev pub series_list : MeetingKey → List Series → List Whole
series_list key series = map (series_of key) series

-- an instance of a series, by its original start and its span
pub record Recurs (series : Series) (single : Single) : Type 0 where
  pub booked : Instance
  pub is : IsInstance (series_said series) booked
  pub slot : single.slot ≡ booked.key.slot
  pub span : single.span ≡ instance_span booked

-- an instance of one of these series
abbrev pub RecursIn : List Series → Single → Type 0
RecursIn all single = (series : Series) × Contains all series × Recurs series single

-- the series that answers confirm
abbrev pub all_series : List PartAnswer → List Series
all_series answers = flat_map (λ given. option_to_list given.series) answers

-- some of these series are left, without some of their instances
pub record AreFewer (before after : List Series) : Type 0 where
  pub shorter : length after ≤ length before
  pub within : (single : Single) → RecursIn after single → RecursIn before single

-- an instance of these series is of none of those
pub record LosesOne (before after : List Series) : Type 0 where
  pub single : Single
  pub was : RecursIn before single
  pub gone : RecursIn after single → ⊥

-- exactly where it is said, one is
abbrev pub SaysLoss : Bool → List Series → List Series → Type 0
SaysLoss true before after = LosesOne before after
SaysLoss false before after = (single : Single) → RecursIn before single → RecursIn after single

-- and where one was before
pub record AddsLoss (old new : Bool) (before after : List Series) : Type 0 where
  pub loses : Bool
  pub says : SaysLoss loses before after
  pub is : new ≡ (old || loses)

-- the same of the series of one meeting, which has one at most
abbrev pub SaysLossOfOne : Bool → List Series → List Series → Type 0
SaysLossOfOne loses before after = length before ≤ 1 → SaysLoss loses before after

-- those that a meeting has confirmed
abbrev pub series_by : Option Meeting → List Series
series_by None = []
series_by (Some meeting) = all_series meeting.answers.items

abbrev pub series_in : Option (MeetingKey × Meeting) → List Series
series_in None = []
series_in (Some entry) = all_series entry.1.answers.items

abbrev pub series_at : List (MeetingKey × Meeting) → ℕ → List Series
series_at entries place = series_in (slice_get entries place)

abbrev pub recurring_of : MeetingKey × Meeting → List Whole
recurring_of entry = series_list entry.0 (all_series entry.1.answers.items)

abbrev pub recurring_by : Option (MeetingKey × Meeting) → List Whole
recurring_by None = []
recurring_by (Some entry) = recurring_of entry

abbrev pub recurring_at : List (MeetingKey × Meeting) → ℕ → List Whole
recurring_at entries place = recurring_by (slice_get entries place)

-- those of all meetings, and those of all others, in the order of their first arrival
abbrev pub all_recurring : List (MeetingKey × Meeting) → List Whole
all_recurring entries = flat_map recurring_of entries

abbrev pub other_recurring : MeetingKey → List (MeetingKey × Meeting) → List Whole
other_recurring key entries = flat_map recurring_of (filter (is_other key) entries)

-- all that a room has confirmed, and all that its other meetings have
abbrev pub in_room : List (MeetingKey × Meeting) → Confirmed
in_room entries = record { series = all_recurring entries; singles = all_confirmed entries }

abbrev pub beside : MeetingKey → List (MeetingKey × Meeting) → Confirmed
beside key entries = record { series = other_recurring key entries; singles = others key entries }

-- and with these of a meeting
abbrev pub joined : Confirmed → MeetingKey → List Single → List Series → Confirmed
joined others key singles series = record { series = others.series ++ series_list key series; singles = others.singles ++ instance_list key singles }

-- no two of these instances clash
abbrev pub IsClearIn : Confirmed → Type 0
IsClearIn all = IsClear (IsOneOf all)

-- with these a meeting may be confirmed beside the others: their series are within the limit, and all is clear
pub record SeriesMayJoin (others : Confirmed) (key : MeetingKey) (singles : List Single) (series : List Series) : Type 0 where
  pub few : length (others.series ++ series_list key series) ≤ most_series
  pub clear : IsClearIn (joined others key singles series)

-- the place is one of these
abbrev pub has_place : List ℕ → ℕ → Bool
has_place places place = list_any (λ own. own == place) places

-- each place at which there are series is one of these
abbrev pub AreRecurring : (ℕ → List Series) → List ℕ → Type 0
AreRecurring at places = (place : ℕ) (series : Series) → Contains (at place) series → has_place places place ≡ true
