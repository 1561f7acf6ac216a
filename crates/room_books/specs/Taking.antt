-- What a message does to its meeting.
use Rattle.std.specs.Prelude.{◌≡◌, ◌≢◌, ◌⊎◌, ◌↔◌, ◌<◌, ◌≤◌, ◌++◌, ℕ, ℤ, Bool, true, false, Contains, not, ◌&&◌, ◌||◌, ◌==◌, nat_lt, IsTrue, if◌then◌else◌, List, [], length, map, filter, AllPairs, Option, Some, None, option_map, is_some, Vec}
use Rattle.std.specs.List.{AllZip}
use Rattle.std.specs.Option.{option_to_list}
use denote.Ref.{Bor}
use Rattle.profile.specs.text.Values.{IsClockSeconds}
use Rattle.cal_events.specs.Calendar.{owned_key_of}
use Rattle.itip_order.specs.Registers.{RepresentsHistory, IsInView, HasNone, at_slot, together}
use Rattle.itip_order.specs.declared.part.Slot.{Slot}
use Rattle.itip_order.specs.Parts.{part_of, slot_of}
use Rattle.profile.specs.checker.Instances.{Instance, IsClear}
use Rattle.profile.specs.events.Starts.{IsInstance}
use Rattle.profile.specs.events.Confirmed.{Confirmed, IsOneOf}
use Rattle.cal_events.specs.Series.{series_said}
use Rattle.cal_events.specs.declared.series.Series.{Series}
use Rattle.profile.specs.rooms.Revisions as revisions
use Rattle.profile.specs.rooms.Messages as messages
use Rattle.profile.specs.rooms.Rooms as rooms
use Rattle.room_books.specs.declared.answer.Answer.{Answer}
use Rattle.room_books.specs.declared.answer.Kind.{Kind}
use Rattle.room_books.specs.declared.answer.Kind.TheVariants as kind
use Rattle.room_books.specs.declared.answer.LimitKind.TheVariants as limits
use Rattle.room_books.specs.declared.kept.Meeting.{Meeting}
use Rattle.room_books.specs.declared.kept.Changes.{Changes}
use Rattle.room_books.specs.Slots.{Reordered, left_without, is_touched, IsUntouched}
use Rattle.cal_events.specs.declared.instance.Single.{Single}
use Rattle.room_books.specs.declared.meeting.PartAnswer.{PartAnswer}
use Rattle.room_books.specs.declared.meeting.Outcome.{Outcome}
use Rattle.room_books.specs.declared.claim.Claim.{Claim}
use Rattle.room_books.specs.declared.meeting.MeetingKey.{MeetingKey}
use Rattle.room_books.specs.Meeting.{outcome_of, all_singles, all_series, instance_list, joined, slots_of, IsClearIn, MayJoin, Recurs, RecursIn, SeriesMayJoin}
use Rattle.room_books.specs.Gone.{IsPartOf}
use Rattle.profile.specs.rooms.Messages.{Content, no_content}
use Rattle.itip_messages.specs.BodyText.{content_in}

-- ---- what is reported

-- what a kind says
abbrev pub kind_view : Kind → rooms.Kind
kind_view kind.Accepted = rooms.Accepted
kind_view (kind.Declined clash) = rooms.Declined (owned_key_of clash.first) (owned_key_of clash.second) clash.instant
kind_view (kind.Limit limits.Series) = rooms.Limit rooms.Series
kind_view (kind.Limit limits.Singles) = rooms.Limit rooms.Singles
kind_view kind.Cancelled = rooms.Cancelled
kind_view kind.Repeated = rooms.Repeated
kind_view kind.Stale = rooms.Stale
kind_view kind.NotAddressed = rooms.NotAddressed

-- the octets of a text, where there is one
abbrev pub octets_in : {Z : Type 0} → Option (Vec ℕ Z) → Option (List ℕ)
octets_in octets = option_map (λ octets. octets.items) octets

-- the octets that an answer sends as its reply
abbrev pub reply_octets : Answer → Option (List ℕ)
reply_octets answer = octets_in answer.reply

-- and as its refresh
abbrev pub refresh_octets : Answer → Option (List ℕ)
refresh_octets answer = octets_in answer.refresh

-- ---- what a message asks for

abbrev pub body_content : revisions.Body → Content
body_content (revisions.Set octets) = content_in octets
body_content revisions.Absent = no_content
body_content revisions.Cancelled = no_content

-- an instance of a part's meeting
abbrev pub part_instance : revisions.Part → Single → Instance
part_instance part single = record {
  key = record { organiser = part.organiser; uid = part.uid; slot = single.slot };
  start = single.span.start;
  end = single.span.end;
}

abbrev pub claim_said : Claim → rooms.Claim
claim_said claim = record {
  part = part_of claim.part;
  content = body_content (part_of claim.part).body;
  singles = map (part_instance (part_of claim.part)) claim.singles.items;
  series = option_map series_said claim.series;
}

abbrev pub claims_said : List Claim → List rooms.Claim
claims_said claims = map claim_said claims

abbrev pub parts_said : List Claim → List revisions.Part
parts_said claims = map (λ claim. part_of claim.part) claims

-- ---- what was taken before

-- the parts that a meeting represents; none where nothing of it was ever taken
abbrev pub HasHistory : Option Meeting → List revisions.Part → Type 0
HasHistory None history = history ≡ []
HasHistory (Some meeting) history = RepresentsHistory meeting.held history

-- what is held of it where these registers are taken too
abbrev pub held_after : Option Meeting → List revisions.Part → List revisions.Part
held_after None more = more
held_after (Some meeting) more = together meeting.held more

-- these parts are held of the meeting, and these are its answers
pub record IsMadeOf (held : List revisions.Part) (answers : List PartAnswer) (meeting : Meeting) : Type 0 where
  pub held_is : meeting.held ≡ held
  pub answers_are : Reordered answers meeting.answers.items

abbrev pub answers_by : Option Meeting → List PartAnswer
answers_by None = []
answers_by (Some meeting) = meeting.answers.items

-- the answers after a message
abbrev pub answers_then : List PartAnswer → Changes → List PartAnswer
answers_then answers changes = left_without changes.lost.items answers ++ changes.new.items

-- those that stay, and what is left of those of these slots
abbrev pub kept_then : Option Meeting → List Slot → List PartAnswer → List PartAnswer
kept_then before lost left = left_without lost (answers_by before) ++ left

-- these are the claims that get an answer now
abbrev pub AreAsked : List revisions.Part → List revisions.Part → List Claim → List (Bor Claim) → Type 0
AreAsked before after claims asked = map (λ claim. claim_said claim.now) asked ≡ rooms.asked before after (claims_said claims)

-- ---- what answers confirm

-- those that no part in the view of the history hides
abbrev pub left_in : List revisions.Part → revisions.Part → List Single → List Single
left_in history part singles = filter (λ single. not (rooms.is_hidden history part (part_instance part single))) singles

-- those of them that aren't of one of these slots, or that no part in the view hides
abbrev pub left_beside : List Slot → List revisions.Part → revisions.Part → List Single → List Single
left_beside slots history part singles = filter (λ single. not (is_touched slots (revisions.At single.slot) && rooms.is_hidden history part (part_instance part single))) singles

-- a part of one of these slots in the view of the history hides the instance of a part
abbrev pub is_hidden_by : List Slot → List revisions.Part → revisions.Part → Instance → Bool
is_hidden_by slots history part booked = is_touched slots (revisions.At booked.key.slot) && rooms.is_hidden history part booked

-- one series is the other without the instances that are hidden so; there is one where there was one
abbrev pub IsSeriesLeft : (Instance → Bool) → Option Series → Option Series → Type 0
IsSeriesLeft hides None None = Unit {0}
IsSeriesLeft hides None (Some left) = ⊥
IsSeriesLeft hides (Some series) None = ⊥
IsSeriesLeft hides (Some series) (Some left) = (booked : Instance) → IsInstance (series_said left) booked ↔ (IsInstance (series_said series) booked × (hides booked ≡ false))

-- an instance of one of these series is hidden so
pub record HidesOneOf (hides : Instance → Bool) (all : List Series) : Type 0 where
  pub series : Series
  pub among : Contains all series
  pub booked : Instance
  pub is : IsInstance (series_said series) booked
  pub hidden : hides booked ≡ true

-- the instances of the part that are hidden so are those of these original starts
abbrev pub AreHiddenStarts : List Slot → List revisions.Part → revisions.Part → List ℤ → Type 0
AreHiddenStarts slots history part starts = (booked : Instance) → Contains starts booked.key.slot ↔ (is_hidden_by slots history part booked ≡ true)

-- a part of this slot in the view of the history hides the instance of this original start, or none hides an instance
abbrev pub IsHiddenStart : List revisions.Part → revisions.Part → revisions.Slot → Option ℤ → Type 0
IsHiddenStart history part slot None = (booked : Instance) → slot ≡ revisions.At booked.key.slot → rooms.is_hidden history part booked ≡ false
IsHiddenStart history part slot (Some start) = (slot ≡ revisions.At start) × ((booked : Instance) → booked.key.slot ≡ start → rooms.is_hidden history part booked ≡ true)

-- no part of these slots in the view hides an instance that the answer to a part confirms
pub record LeavesAll (slots : List Slot) (history : List revisions.Part) (part : revisions.Part) (given : PartAnswer) : Type 0 where
  pub singles : given.singles.items ≡ left_beside slots history part given.singles.items
  pub series : IsSeriesLeft (is_hidden_by slots history part) given.series given.series

-- one answer is the other, with the instances that are left where parts of these slots were taken
pub record KeepsWhatIsLeft (slots : List Slot) (held : List revisions.Part) (of : revisions.Part) (given left : PartAnswer) : Type 0 where
  pub slot : left.slot ≡ given.slot
  pub moment : left.moment ≡ given.moment
  pub outcome : outcome_of left.outcome ≡ outcome_of given.outcome
  pub singles : (history : List revisions.Part) → RepresentsHistory held history → left.singles.items ≡ left_beside slots history of given.singles.items
  pub series : (history : List revisions.Part) → RepresentsHistory held history → IsSeriesLeft (is_hidden_by slots history of) given.series left.series

-- what an answer confirms, if it is left
abbrev pub singles_of_left : Option PartAnswer → List Single
singles_of_left None = []
singles_of_left (Some left) = left.singles.items

-- and the series that it confirms
abbrev pub series_still : Option PartAnswer → List Series
series_still None = []
series_still (Some left) = option_to_list left.series

-- the answer to a claim at a moment, if it were accepted
pub record IsAccepted (held : List revisions.Part) (claim : Claim) (moment : ℤ) (given : PartAnswer) : Type 0 where
  pub slot : given.slot ≡ claim.part.slot
  pub moment_is : given.moment ≡ moment
  pub outcome : outcome_of given.outcome ≡ messages.Accept
  pub singles : (history : List revisions.Part) → RepresentsHistory held history → given.singles.items ≡ left_in history (part_of claim.part) claim.singles.items
  pub series : (history : List revisions.Part) → RepresentsHistory held history → IsSeriesLeft (rooms.is_hidden history (part_of claim.part)) claim.series given.series
  pub part : IsPartOf given.singles.items claim.singles.items

-- a candidate with what was decided: it confirms something only where that is to accept it
pub record IsDecided (candidate : PartAnswer) (outcome : Outcome) (given : PartAnswer) : Type 0 where
  pub slot : given.slot ≡ candidate.slot
  pub moment : given.moment ≡ candidate.moment
  pub outcome_is : outcome_of given.outcome ≡ outcome_of outcome
  pub singles : given.singles.items ≡ (if rooms.is_accept (outcome_of outcome) then candidate.singles.items else [])
  pub series : given.series ≡ (if rooms.is_accept (outcome_of outcome) then candidate.series else None)

-- what is decided where these singles would be confirmed: the limit is looked at first, then whether any two clash; any clash may be named
abbrev pub DecidesAmong : List Instance → messages.Outcome → Type 0
DecidesAmong all messages.Accept = (length all ≤ rooms.most_singles) × IsClear (Contains all)
DecidesAmong all (messages.Busy first second t) = (length all ≤ rooms.most_singles) × rooms.NamesClash (Contains all) first second t
DecidesAmong all messages.SinglesLimit = rooms.most_singles < length all
DecidesAmong all messages.SeriesLimit = ⊥

-- what is decided of singles beside what a meeting keeps and all that the others have confirmed: where all its instances have
-- different original starts, as the machine decides; and what is accepted may be confirmed
pub record IsDecision (others : List Instance) (key : MeetingKey) (kept wanted : List Single) (outcome : Outcome) : Type 0 where
  pub decides : AllPairs ◌≢◌ (slots_of (kept ++ wanted)) → DecidesAmong (others ++ instance_list key (kept ++ wanted)) (outcome_of outcome)
  pub joins : outcome_of outcome ≡ messages.Accept → MayJoin others key (kept ++ wanted)

-- ---- what is decided where this would be confirmed, in singles and in series

pub record AreWithinLimits (all : Confirmed) : Type 0 where
  pub series : length all.series ≤ rooms.most_series
  pub singles : length all.singles ≤ rooms.most_singles

-- the limit of series is looked at first, then that of singles, then whether any two clash
abbrev pub DecidesOf : Confirmed → messages.Outcome → Type 0
DecidesOf all messages.SeriesLimit = rooms.most_series < length all.series
DecidesOf all messages.SinglesLimit = (length all.series ≤ rooms.most_series) × (rooms.most_singles < length all.singles)
DecidesOf all messages.Accept = AreWithinLimits all × IsClearIn all
DecidesOf all (messages.Busy first second t) = AreWithinLimits all × rooms.NamesClash (IsOneOf all) first second t

-- instances of one meeting: their original starts differ, and at most its whole recurs
pub record AreOfOneMeeting (singles : List Single) (series : List Series) : Type 0 where
  pub differ : AllPairs ◌≢◌ (slots_of singles)
  pub one : length series ≤ 1
  pub apart : (single other : Single) (of : Series) → Contains singles single → Contains series of → Recurs of other → single.slot ≢ other.slot

-- what is decided of candidates beside what a meeting keeps and all that the others have confirmed, where its instances are of one meeting,
-- as the machine decides; and what is accepted may be confirmed
pub record IsWholeDecision (others : Confirmed) (key : MeetingKey) (kept candidates : List PartAnswer) (outcome : Outcome) : Type 0 where
  pub decides : AreOfOneMeeting (all_singles kept ++ all_singles candidates) (all_series kept ++ all_series candidates)
      → DecidesOf (joined others key (all_singles kept ++ all_singles candidates) (all_series kept ++ all_series candidates)) (outcome_of outcome)
  pub joins : outcome_of outcome ≡ messages.Accept → MayJoin others.singles key (all_singles kept ++ all_singles candidates)
  pub series : outcome_of outcome ≡ messages.Accept → SeriesMayJoin others key (all_singles kept ++ all_singles candidates) (all_series kept ++ all_series candidates)

-- with these answers a meeting may be confirmed beside the others
abbrev pub MayJoinAll : Confirmed → MeetingKey → List PartAnswer → Type 0
MayJoinAll others key answers = SeriesMayJoin others key (all_singles answers) (all_series answers)

-- the answers that stay, and those to the claims that are asked, decided as one
abbrev pub AreAnswersDecided : Confirmed → MeetingKey → List revisions.Part → ℤ → List PartAnswer → List (Bor Claim) → List PartAnswer → Option Outcome → Type 0
AreAnswersDecided others key held moment kept asked answers None = (asked ≡ []) × Reordered kept answers
AreAnswersDecided others key held moment kept asked answers (Some outcome) =
    (asked ≢ []) × ((candidates : List PartAnswer) × (decided : List PartAnswer)
    × AllZip (λ claim given. IsAccepted held claim.now moment given) asked candidates
    × AllZip (λ candidate given. IsDecided candidate outcome given) candidates decided
    × IsWholeDecision others key kept candidates outcome
    × Reordered (kept ++ decided) answers)

-- nothing was decided, and an instance that was confirmed isn't any more: these singles are gone, or an instance of a series is
abbrev pub frees_then : Option Outcome → List Single → Bool → Bool
frees_then None gone sheds = sheds || not (length gone == 0)
frees_then (Some outcome) gone sheds = false

-- an instance is of these singles or series
abbrev pub IsAmongBoth : List Single → List Series → Single → Type 0
IsAmongBoth singles series single = Contains singles single ⊎ RecursIn series single

-- one that was of the first answers is of none of the second
pub record FreesOne (singles left : List Single) (series still : List Series) : Type 0 where
  pub single : Single
  pub was : IsAmongBoth singles series single
  pub gone : IsAmongBoth left still single → ⊥

-- of the instances of one meeting it is told exactly where nothing is decided whether one isn't confirmed any more
pub record SaysFreed (decided frees : Bool) (singles left : List Single) (series still : List Series) : Type 0 where
  pub undecided : frees ≡ true → decided ≡ false
  pub freed : frees ≡ true → AreOfOneMeeting singles series → FreesOne singles left series still
  pub kept : frees ≡ false → decided ≡ false → AreOfOneMeeting singles series → (single : Single) → IsAmongBoth singles series single → IsAmongBoth left still single

-- what was decided of a message; nothing depends on it where nothing was
abbrev pub outcome_said : Option Outcome → messages.Outcome
outcome_said None = messages.Accept
outcome_said (Some outcome) = outcome_of outcome

-- what became of a message of some parts, where it was decided exactly where some are asked
abbrev pub IsKindOf : List revisions.Part → List revisions.Part → List Claim → Option Outcome → Kind → Type 0
IsKindOf before after claims outcome kind =
    IsTrue (nat_lt 0 (length claims)) → nat_lt 0 (length (rooms.asked before after (claims_said claims))) ≡ is_some outcome
    → kind_view kind ≡ rooms.kind_of before after (claims_said claims) (outcome_said outcome)

-- the same of each history that the meeting before represents, and each that is held of it after
abbrev pub IsKindIn : Option Meeting → List revisions.Part → List Claim → Option Outcome → Kind → Type 0
IsKindIn before held claims outcome kind =
    (earlier later : List revisions.Part) → HasHistory before earlier → RepresentsHistory held later → IsKindOf earlier later claims outcome kind

-- the part in the view of these registers that is of that place
pub record IsViewed (held : List revisions.Part) (place part : revisions.Part) : Type 0 where
  pub seen : IsInView held part
  pub same : revisions.same_place part place ≡ true

-- an answer before, and what is left of it: nothing where its part isn't in the view after. The part is one of the meeting
abbrev pub IsAnswerAfter : List Slot → List revisions.Part → List revisions.Part → revisions.Part → PartAnswer → Option PartAnswer → Type 0
IsAnswerAfter slots before after part given None =
    HasNone before (at_slot part (slot_of given.slot))
    ⊎ ((own : revisions.Part) × IsViewed before (at_slot part (slot_of given.slot)) own × ((history : List revisions.Part) → RepresentsHistory after history → revisions.in_view history own ≡ false))
IsAnswerAfter slots before after part given (Some left) =
    (own : revisions.Part) × IsViewed before (at_slot part (slot_of given.slot)) own × IsInView after own × KeepsWhatIsLeft slots after own given left

-- an answer stays as it is: nothing touches it, or what touches it leaves it all
abbrev pub IsLeftAlone : List Slot → List revisions.Part → List revisions.Part → revisions.Part → PartAnswer → Type 0
IsLeftAlone slots before after part given = IsUntouched slots (slot_of given.slot) ⊎ IsAnswerAfter slots before after part given (Some given)

-- the instants that an outcome names can be written as stamps
abbrev pub OutcomeDated : messages.Outcome → Type 0
OutcomeDated messages.Accept = Unit {0}
OutcomeDated (messages.Busy a b t) = IsClockSeconds t × IsClockSeconds a.slot × IsClockSeconds b.slot
OutcomeDated messages.SeriesLimit = Unit {0}
OutcomeDated messages.SinglesLimit = Unit {0}
