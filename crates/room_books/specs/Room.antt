-- What the meetings of a room represent: the parts that were taken, and the answers to them.
use Rattle.std.specs.Prelude.{◌≡◌, ◌≢◌, ◌↔◌, ℕ, ℤ, Bool, true, false, ◌&&◌, List, [], ◌∷◌, ◌++◌, length, filter, Contains, Option, Some, None, IfSome, slice_get}
use Rattle.std.specs.Option.{option_to_list}
use Rattle.std.specs.Str.{bytes_eq, IsUtf8}
use Rattle.std.specs.List.{AllZip}
use Rattle.std.specs.Map.{lookup, keys_of, values_of}
use Rattle.indexmap.specs.IndexMap.{insert_entry, set_value_at}
use Rattle.ical_values.specs.Octets.{address_octets, text_octets}
use Rattle.itip_order.specs.Registers.{RepresentsHistory, together}
use Rattle.itip_order.specs.declared.part.Slot.{Slot as OwnSlot}
use Rattle.itip_order.specs.Parts.{slot_of}
use Rattle.profile.specs.checker.Instances.{Instance, IsClear}
use Rattle.profile.specs.events.Events.{Event as Series}
use Rattle.profile.specs.events.Starts.{IsInstance}
use Rattle.profile.specs.events.Confirmed.{IsInSeries}
use Rattle.profile.specs.series.Zones.{Zone}
use Rattle.profile.specs.text.Values.{IsClockSeconds}
use Rattle.profile.specs.rooms.Revisions.{Part, Slot, Whole, At, Body, Set, Absent, Cancelled, in_view}
use Rattle.profile.specs.rooms.Messages.{Outcome}
use Rattle.profile.specs.rooms.Rooms.{Claim, PartAnswer as SaidAnswer, Book, Confirms, Kind, Recurring, is_set, parts_of, asked, answered, singles_confirmed, series_confirmed, IsShownInSeries, Frees, IsStep, IsWithinLimits, KeepsConfirmed, is_decision, kind_of}
use Rattle.profile.specs.rooms.Kept.{Replies, Refreshes, first_parts}
use Rattle.profile.specs.streams.Streams.{IsReached}
use Rattle.itip_messages.specs.Message as messages
use Rattle.room_books.specs.declared.meeting.MeetingKey.{MeetingKey}
use Rattle.room_books.specs.declared.kept.Meeting.{Meeting}
use Rattle.room_books.specs.declared.kept.Changes.{Changes}
use Rattle.room_books.specs.Slots.{Reordered, AllTouch}
use Rattle.cal_events.specs.declared.instance.Single.{Single}
use Rattle.room_books.specs.declared.meeting.PartAnswer.{PartAnswer}
use Rattle.room_books.specs.Taking.{answers_by, answers_then, body_content, held_after, IsMadeOf, OutcomeDated}
use Rattle.room_books.specs.Meeting.{same_key, instance_list, series_list, outcome_of}

-- ---- claims

-- the part is of the meeting
abbrev pub is_of_meeting : MeetingKey → Part → Bool
is_of_meeting key part = bytes_eq (address_octets key.organiser) part.organiser && bytes_eq (text_octets key.uid) part.uid

-- each is so related to each later one
abbrev pub Pairwise : {X : Type 0} → (X → X → Type 0) → List X → Type 0
Pairwise R [] = Unit {0}
Pairwise R (x ∷ xs) = ((y : _) → Contains xs y → R x y) × Pairwise R xs

-- a body's octets are text
abbrev pub IsBodyText : Body → Type 0
IsBodyText (Set octets) = IsUtf8 octets
IsBodyText Absent = Unit {0}
IsBodyText Cancelled = Unit {0}

-- an instance of a part: of its meeting, and where the part is one instance, that one
abbrev pub IsOfSlot : Slot → ℤ → Type 0
IsOfSlot Whole slot = Unit {0}
IsOfSlot (At t) slot = slot ≡ t

-- the series of a claim is of its part, a whole: its instances are of its meeting, each at its original start, and none of them is a single
pub record IsFittingSeries (claim : Claim) (series : Series) : Type 0 where
  pub whole : claim.part.slot ≡ Whole
  pub organiser : (b : Instance) → IsInstance series b → b.key.organiser ≡ claim.part.organiser
  pub uid : (b : Instance) → IsInstance series b → b.key.uid ≡ claim.part.uid
  pub slot : (b : Instance) → IsInstance series b → b.key.slot ≡ b.start
  pub starts : (b : Instance) → IsInstance series b → IsClockSeconds b.start
  pub apart : (a b : Instance) → Contains claim.singles a → IsInstance series b → a.key.slot ≢ b.key.slot

-- what a claim asks for is of its part: the content its body's, the instances of its meeting and slot, each once
pub record IsFitting (claim : Claim) : Type 0 where
  pub content : claim.content ≡ body_content claim.part.body
  pub text : IsBodyText claim.part.body
  pub organiser : (b : Instance) → Contains claim.singles b → b.key.organiser ≡ claim.part.organiser
  pub uid : (b : Instance) → Contains claim.singles b → b.key.uid ≡ claim.part.uid
  pub slot : (b : Instance) → Contains claim.singles b → IsOfSlot claim.part.slot b.key.slot
  pub differ : Pairwise (λ a b. a.key.slot ≢ b.key.slot) claim.singles
  pub starts : (b : Instance) → Contains claim.singles b → IsClockSeconds b.start
  pub slots : (b : Instance) → Contains claim.singles b → IsClockSeconds b.key.slot
  pub recurs : IfSome claim.series (IsFittingSeries claim)

-- the slot can be written as a stamp
abbrev pub SlotDated : Slot → Type 0
SlotDated slot = messages.IsDated slot

-- the claims are of one meeting, each of another slot
pub record AreFitting (key : MeetingKey) (claims : List Claim) : Type 0 where
  pub of_it : (claim : Claim) → Contains claims claim → is_of_meeting key claim.part ≡ true
  pub fit : (claim : Claim) → Contains claims claim → IsFitting claim
  pub dated : (claim : Claim) → Contains claims claim → SlotDated claim.part.slot
  pub differ : Pairwise (λ a b. a.part ≢ b.part) claims

-- ---- what a book says of one meeting

abbrev pub of_meeting : MeetingKey → List Part → List Part
of_meeting key parts = filter (is_of_meeting key) parts

abbrev pub answers_of : MeetingKey → List SaidAnswer → List SaidAnswer
answers_of key answers = filter (λ a. is_of_meeting key a.claim.part) answers

abbrev pub book_of : MeetingKey → Book → Book
book_of key book = record { taken = of_meeting key book.taken; answers = answers_of key book.answers }

-- all of it is of that meeting, and the answers are to parts that were taken
pub record IsOwn (key : MeetingKey) (own : Book) : Type 0 where
  pub taken : (part : Part) → Contains own.taken part → is_of_meeting key part ≡ true
  pub known : (answer : SaidAnswer) → Contains own.answers answer → Contains own.taken answer.claim.part
  pub fit : (answer : SaidAnswer) → Contains own.answers answer → IsFitting answer.claim

-- the answers to parts in the view
abbrev pub answers_in_view : List Part → List SaidAnswer → List SaidAnswer
answers_in_view taken answers = filter (λ a. in_view taken a.claim.part) answers

-- there are as many series, and those of the first that other parts leave have the same instances as those of the second
pub record AreSameSeries (taken : List Part) (all : List Recurring) (series : List Series) : Type 0 where
  pub long : length all ≡ length series
  pub same : (b : Instance) → IsShownInSeries taken all b ↔ IsInSeries series b

-- the meeting has this answer, and what it confirms
pub record HasAnswer (key : MeetingKey) (taken : List Part) (answer : SaidAnswer) (given : PartAnswer) : Type 0 where
  pub slot : slot_of given.slot ≡ answer.claim.part.slot
  pub moment : given.moment ≡ answer.moment
  pub outcome : outcome_of given.outcome ≡ answer.outcome
  pub confirms : instance_list key given.singles.items ≡ singles_confirmed taken (answer ∷ [])
  pub recurs : AreSameSeries taken (series_confirmed taken (answer ∷ [])) (series_list key (option_to_list given.series))

-- all instants of an answer can be written as stamps
pub record IsAnswerDated (given : PartAnswer) : Type 0 where
  pub outcome : OutcomeDated (outcome_of given.outcome)
  pub starts : (single : Single) → Contains given.singles.items single → IsClockSeconds single.span.start
  pub slots : (single : Single) → Contains given.singles.items single → IsClockSeconds single.slot

-- these are given to those answers, in some order
pub record AreGiven (key : MeetingKey) (taken : List Part) (answers : List SaidAnswer) (given : List PartAnswer) : Type 0 where
  pub order : List SaidAnswer
  pub same : Reordered answers order
  pub each : AllZip (HasAnswer key taken) order given

-- the meeting holds the parts taken of it, and the answers to those in the view; each that is to take place has one
pub record Meets (own : Book) (key : MeetingKey) (meeting : Meeting) : Type 0 where
  pub held : RepresentsHistory meeting.held own.taken
  pub answers : AreGiven key own.taken (answers_in_view own.taken own.answers) meeting.answers.items
  pub answered : (part : Part) → is_set part ≡ true → in_view own.taken part ≡ true → (a : SaidAnswer) × Contains own.answers a × (a.claim.part ≡ part)
  pub dated : (given : PartAnswer) → Contains meeting.answers.items given → IsAnswerDated given

-- of a meeting that isn't there nothing was taken
abbrev pub MeetsAt : Book → MeetingKey → Option Meeting → Type 0
MeetsAt own key None = own.taken ≡ []
MeetsAt own key (Some meeting) = Meets own key meeting

-- where the meeting was that of its own book, and more of its parts were taken, all of these slots, these are the answers that stay
abbrev pub KeepsEach : Part → List OwnSlot → Option Meeting → List Part → List PartAnswer → Type 0
KeepsEach part slots before held kept =
    (own : Book) (key : MeetingKey) (more : List Part) → is_of_meeting key part ≡ true → IsOwn key own → MeetsAt own key before → RepresentsHistory held (own.taken ++ more) → AllTouch slots more
    → AreGiven key (own.taken ++ more) (answers_in_view (own.taken ++ more) (answers_in_view own.taken own.answers)) kept

-- some of the answers that the meeting had, and what stays of them
abbrev pub KeepsSome : Part → List OwnSlot → List Part → List Part → List PartAnswer → List PartAnswer → Type 0
KeepsSome part slots before after done kept =
    (own : Book) (key : MeetingKey) (more : List Part) → is_of_meeting key part ≡ true → IsOwn key own → RepresentsHistory before own.taken → RepresentsHistory after (own.taken ++ more) → AllTouch slots more
    → (xs : List SaidAnswer) → ((a : SaidAnswer) → Contains xs a → Contains own.answers a × (in_view own.taken a.claim.part ≡ true)) → AllZip (HasAnswer key own.taken) xs done
    → AllZip (HasAnswer key (own.taken ++ more)) (answers_in_view (own.taken ++ more) xs) kept

-- ---- all meetings

-- the meeting of the part is there
pub record Covers (entries : List (MeetingKey × Meeting)) (part : Part) : Type 0 where
  pub key : MeetingKey
  pub meeting : Meeting
  pub found : lookup (same_key key) entries ≡ Some meeting
  pub is : is_of_meeting key part ≡ true

-- the keys are those of these parts' meetings, in order
abbrev pub AreKeysOf : List MeetingKey → List Part → Type 0
AreKeysOf keys parts = AllZip (λ key part. is_of_meeting key part ≡ true) keys parts

-- the meetings, in order of first arrival, represent the book, whose confirmed instances are clear and within the limit
pub record Represents (entries : List (MeetingKey × Meeting)) (book : Book) : Type 0 where
  pub order : AreKeysOf (keys_of entries) (first_parts book.taken)
  pub covered : (part : Part) → Contains book.taken part → Covers entries part
  pub known : (answer : SaidAnswer) → Contains book.answers answer → Contains book.taken answer.claim.part
  pub set : (answer : SaidAnswer) → Contains book.answers answer → is_set answer.claim.part ≡ true
  pub fit : (answer : SaidAnswer) → Contains book.answers answer → IsFitting answer.claim
  pub dated : (part : Part) → Contains book.taken part → SlotDated part.slot
  pub once : Pairwise (λ a b. a.claim.part ≢ b.claim.part) book.answers
  pub clear : IsClear (Confirms book)
  pub few : IsWithinLimits book
  pub meets : (key : MeetingKey) → MeetsAt (book_of key book) key (lookup (same_key key) entries)

-- the meetings of a room of this zone represent a book that some messages lead to
pub record HaveReached (room : List ℕ) (zone : Option Zone) (entries : List (MeetingKey × Meeting)) : Type 0 where
  pub book : Book
  pub reached : IsReached room zone book
  pub represents : Represents entries book

-- the book after these claims, where this was decided
abbrev pub book_after : Book → List Claim → ℤ → Outcome → Book
book_after book claims moment outcome = record {
  taken = book.taken ++ parts_of claims;
  answers = book.answers ++ answered moment outcome (asked book.taken (book.taken ++ parts_of claims) claims);
}

-- a meeting after a message: by a step from the book before it
pub record IsMeetingAfter (book : Book) (key : MeetingKey) (claims : List Claim) (moment : ℤ) (kind : Kind) (meeting : Meeting) : Type 0 where
  pub outcome : Outcome
  pub step : IsStep book claims moment outcome (book_after book claims moment outcome)
  pub meets : Meets (book_of key (book_after book claims moment outcome)) key meeting
  pub kind_is : kind ≡ kind_of book.taken (book.taken ++ parts_of claims) claims outcome

-- the meetings after, where these parts of one were taken too, and its answers changed so
pub record IsPutIn (key : MeetingKey) (more : List Part) (changes : Changes) (old new : List (MeetingKey × Meeting)) : Type 0 where
  pub meeting : Meeting
  pub made : IsMadeOf (held_after (lookup (same_key key) old) more) (answers_then (answers_by (lookup (same_key key) old)) changes) meeting
  pub entries : new ≡ insert_entry same_key old key meeting

-- the same of the meeting in a place
pub record IsRenewed (place : ℕ) (more : List Part) (changes : Changes) (old new : List (MeetingKey × Meeting)) : Type 0 where
  pub before : Meeting
  pub meeting : Meeting
  pub was : slice_get (values_of old) place ≡ Some before
  pub made : IsMadeOf (together before.held more) (answers_then before.answers.items changes) meeting
  pub entries : new ≡ set_value_at old place meeting

-- from the book a step with these claims leads to a book that the meetings represent
pub record StepsTo (entries : List (MeetingKey × Meeting)) (book : Book) (claims : List Claim) (moment : ℤ) (kind : Kind) : Type 0 where
  pub outcome : Outcome
  pub after : Book
  pub step : IsStep book claims moment outcome after
  pub represents : Represents entries after
  pub kind_is : kind ≡ kind_of book.taken after.taken claims outcome

-- it is told exactly where nothing is decided whether an instance that was confirmed isn't any more
pub record TellsFreed (kind : Kind) (frees : Bool) (before after : Book) : Type 0 where
  pub undecided : frees ≡ true → is_decision kind ≡ false
  pub freed : frees ≡ true → Frees before after
  pub kept : frees ≡ false → is_decision kind ≡ false → KeepsConfirmed before after

-- and a reply comes exactly where a part is shown: it shows the answers that the book after it has. A refresh comes exactly where the message
-- adds instances, and the whole is wanted
pub record StepsWith (room : List ℕ) (entries : List (MeetingKey × Meeting)) (book : Book) (claims : List Claim) (moment : ℤ) (kind : Kind) (reply : Option (List ℕ)) (adds : Bool) (refresh : Option (List ℕ)) : Type 0 where
  pub steps : StepsTo entries book claims moment kind
  pub replies : Replies room steps.after claims reply
  pub refreshes : Refreshes room adds book.taken steps.after.taken claims moment refresh
