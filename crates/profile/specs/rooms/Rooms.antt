-- The room machine: what a room keeps, and one step of it. A step is a relation, as a decline may name any clash.
use Rattle.std.specs.Prelude.{◌≡◌, ◌⊎◌, ℕ, ◌<◌, ◌≤◌, Bool, true, false, not, ◌&&◌, IsTrue, if◌then◌else◌, nat_lt, Contains, List, [], ◌∷◌, ◌++◌, length, map, filter, Option, option_map, ℤ}
use Rattle.std.specs.Option.{option_to_list}
use Rattle.std.specs.List.{flat_map, list_any}
use Rattle.std.specs.declared.cmp.Ordering.TheVariants.{Less}
use Rattle.profile.specs.checker.Instances.{Key, Instance, AreClashing, IsClear, instance_cmp}
use Rattle.profile.specs.events.Events.{Event}
use Rattle.profile.specs.events.Starts.{IsInstance}
use Rattle.profile.specs.rooms.Revisions.{Part, Body, At, in_view, is_whole, same_meeting, same_part, same_place}
use Rattle.profile.specs.rooms.Revisions as revisions
use Rattle.profile.specs.rooms.Messages.{Content, Outcome, Accept, Busy, SeriesLimit, SinglesLimit}

-- ---- what a room keeps

-- a part of a message, and what it asks for if it is to take place: what says when it is, its single instances, and a meeting of those that its
-- RRULE gives, if it has one
pub record Claim : Type 0 where
  pub part : Part
  pub content : Content
  pub singles : List Instance
  pub series : Option Event

-- what was decided about a part, and when; it stays for good
pub record PartAnswer : Type 0 where
  pub claim : Claim
  pub moment : ℤ
  pub outcome : Outcome

-- all parts ever taken, in order, and the answers to those that were decided
pub record Book : Type 0 where
  pub taken : List Part
  pub answers : List PartAnswer

-- nothing was taken
abbrev pub empty_book : Book
empty_book = record { taken = []; answers = [] }

abbrev pub is_accept : Outcome → Bool
is_accept Accept = true
is_accept (Busy a b t) = false
is_accept SeriesLimit = false
is_accept SinglesLimit = false

-- the part is in the view of all parts taken, and was accepted
abbrev pub is_confirmed : List Part → PartAnswer → Bool
is_confirmed taken answer = is_accept answer.outcome && in_view taken answer.claim.part

-- the instance is one of a Whole, and a part of that meeting in the view is of its slot: it is as that part says (RFC 5545 3.8.4.4)
abbrev pub is_hidden : List Part → Part → Instance → Bool
is_hidden taken part booked =
    is_whole part && list_any (λ other. in_view taken other && same_place other (record part { slot = At booked.key.slot })) taken

-- the single instances of an answer that no other part hides
abbrev pub left_of : List Part → PartAnswer → List Instance
left_of taken answer = filter (λ booked. not (is_hidden taken answer.claim.part booked)) answer.claim.singles

-- the confirmed singles, where these parts were taken and so answered
abbrev pub singles_confirmed : List Part → List PartAnswer → List Instance
singles_confirmed taken answers = flat_map (left_of taken) (filter (is_confirmed taken) answers)

-- a series of a part
pub record Recurring : Type 0 where
  pub part : Part
  pub meeting : Event

-- that of an answer, where it has one
abbrev pub recurring_in : PartAnswer → List Recurring
recurring_in answer = option_to_list (option_map (λ meeting. record { part = answer.claim.part; meeting = meeting }) answer.claim.series)

-- the confirmed series. A series of which other parts hide every instance is one too
abbrev pub series_confirmed : List Part → List PartAnswer → List Recurring
series_confirmed taken answers = flat_map recurring_in (filter (is_confirmed taken) answers)

-- the instance is one of one of these series, and no other part hides it
pub record IsShownInSeries (taken : List Part) (all : List Recurring) (booked : Instance) : Type 0 where
  pub series : Recurring
  pub among : Contains all series
  pub is : IsInstance series.meeting booked
  pub shown : is_hidden taken series.part booked ≡ false

abbrev pub confirmed_singles : Book → List Instance
confirmed_singles book = singles_confirmed book.taken book.answers

abbrev pub confirmed_series : Book → List Recurring
confirmed_series book = series_confirmed book.taken book.answers

-- the instance is confirmed: a single, or one of a series
abbrev pub Confirms : Book → Instance → Type 0
Confirms book booked = Contains (confirmed_singles book) booked ⊎ IsShownInSeries book.taken (confirmed_series book) booked

-- each instance that was confirmed still is
abbrev pub KeepsConfirmed : Book → Book → Type 0
KeepsConfirmed before after = (booked : Instance) → Confirms before booked → Confirms after booked

-- one isn't any more
pub record Frees (before after : Book) : Type 0 where
  pub booked : Instance
  pub was : Confirms before booked
  pub gone : Confirms after booked → ⊥

-- ---- how new a part is, by the views before its message and after it

abbrev pub is_fresh : List Part → List Part → Part → Bool
is_fresh before after part = in_view after part && not (in_view before part)

abbrev pub is_same : List Part → List Part → Part → Bool
is_same before after part = in_view after part && in_view before part

-- nothing was ever taken of the whole of the part's meeting
abbrev pub lacks_whole : List Part → Part → Bool
lacks_whole taken part = not (list_any (λ other. is_whole other && same_meeting other part) taken)

-- the part is to take place
abbrev pub is_set_body : Body → Bool
is_set_body (revisions.Set octets) = true
is_set_body revisions.Absent = false
is_set_body revisions.Cancelled = false

abbrev pub is_set : Part → Bool
is_set part = is_set_body part.body

abbrev pub parts_of : List Claim → List Part
parts_of claims = map (λ c. c.part) claims

-- the parts that get an answer now: fresh, and to take place
abbrev pub asked : List Part → List Part → List Claim → List Claim
asked before after claims = filter (λ c. is_set c.part && is_fresh before after c.part) claims

-- ---- the decision

-- how many series a room may have confirmed, and how many single instances; this profile's choice
abbrev pub most_series : ℕ
most_series = 64

abbrev pub most_singles : ℕ
most_singles = 10_000

pub record IsWithinLimits (book : Book) : Type 0 where
  pub series : length (confirmed_series book) ≤ most_series
  pub singles : length (confirmed_singles book) ≤ most_singles

-- the two keys are those of two of these instances that clash, at the later start; the lesser by start, organiser, UID and slot comes first
pub record NamesClash (these : Instance → Type 0) (first second : Key) (t : ℤ) : Type 0 where
  pub a : Instance
  pub b : Instance
  pub of_first : these a
  pub of_second : these b
  pub clash : AreClashing a b t
  pub first_is : a.key ≡ first
  pub second_is : b.key ≡ second
  pub ordered : instance_cmp a b ≡ Less
  pub later : t ≡ b.start

-- what is decided where this would be the book: the limit of series is looked at first, then that of singles, then whether any two
-- confirmed instances clash; any clash may be named
abbrev pub Decides : Book → Outcome → Type 0
Decides book SeriesLimit = most_series < length (confirmed_series book)
Decides book SinglesLimit = (length (confirmed_series book) ≤ most_series) × (most_singles < length (confirmed_singles book))
Decides book Accept = IsWithinLimits book × IsClear (Confirms book)
Decides book (Busy first second t) = IsWithinLimits book × NamesClash (Confirms book) first second t

-- ---- a step

-- the same answer to each of these, at one moment
abbrev pub answered : ℤ → Outcome → List Claim → List PartAnswer
answered moment outcome claims = map (λ c. record { claim = c; moment = moment; outcome = outcome }) claims

-- the book as it would be after these parts, if each that is asked were accepted
abbrev pub if_accepted : Book → List Claim → ℤ → List Part → Book
if_accepted before claims moment taken =
    record { taken = taken; answers = before.answers ++ answered moment Accept (asked before.taken taken claims) }

-- A message with these parts is taken at a moment: its parts are taken, the old answers stay, and each part that is asked
-- gets the one outcome, decided by the book as it would be if each were accepted
pub record IsStep (before : Book) (claims : List Claim) (moment : ℤ) (outcome : Outcome) (after : Book) : Type 0 where
  pub taken : after.taken ≡ before.taken ++ parts_of claims
  pub answers : after.answers ≡ before.answers ++ answered moment outcome (asked before.taken after.taken claims)
  pub decided : IsTrue (nat_lt 0 (length (asked before.taken after.taken claims)))
      → Decides (if_accepted before claims moment after.taken) outcome

-- a message, at a moment
pub record Delivery : Type 0 where
  pub claims : List Claim
  pub moment : ℤ

-- these messages lead, one step after another, from the first book to the second
abbrev pub Runs : Book → List Delivery → Book → Type 0
Runs before [] after = after ≡ before
Runs before (d ∷ ds) after = (mid : Book) × (outcome : Outcome) × IsStep before d.claims d.moment outcome mid × Runs mid ds after

-- ---- what became of a message

-- which limit of a room a message would pass
pub data LimitKind : Type 0 where
  Series : LimitKind
  Singles : LimitKind

pub data Kind : Type 0 where
  Accepted : Kind
  Declined : Key → Key → ℤ → Kind
  Limit : LimitKind → Kind
  Cancelled : Kind
  Repeated : Kind
  Stale : Kind
  NotAddressed : Kind

abbrev pub kind_of_outcome : Outcome → Kind
kind_of_outcome Accept = Accepted
kind_of_outcome (Busy a b t) = Declined a b t
kind_of_outcome SeriesLimit = Limit Series
kind_of_outcome SinglesLimit = Limit Singles

-- a room decided something
abbrev pub is_decision : Kind → Bool
is_decision Accepted = true
is_decision (Declined a b t) = true
is_decision (Limit limit) = true
is_decision Cancelled = false
is_decision Repeated = false
is_decision Stale = false
is_decision NotAddressed = false

-- decided where a part was asked; else cancelled where a part is fresh, repeated where one is the same, stale where none is
abbrev pub kind_of : List Part → List Part → List Claim → Outcome → Kind
kind_of before after [] outcome = NotAddressed
kind_of before after (c ∷ cs) outcome =
    if nat_lt 0 (length (asked before after (c ∷ cs))) then kind_of_outcome outcome
    else (if list_any (is_fresh before after) (parts_of (c ∷ cs)) then Cancelled
    else (if list_any (is_same before after) (parts_of (c ∷ cs)) then Repeated else Stale))

-- the parts that a reply shows: in the view after, and to take place
abbrev pub shown : List Part → List Claim → List Claim
shown after claims = filter (λ c. is_set c.part && in_view after c.part) claims

-- a message that adds instances makes the room ask for the whole meeting: something of it is new, and nothing of the whole was ever taken
abbrev pub wants_whole : Bool → List Part → List Part → List Claim → Bool
wants_whole adds before after claims = adds && list_any (λ part. is_fresh before after part && lacks_whole after part) (parts_of claims)

-- an answer to this part
abbrev pub answers_part : Part → PartAnswer → Bool
answers_part part answer = same_part answer.claim.part part
