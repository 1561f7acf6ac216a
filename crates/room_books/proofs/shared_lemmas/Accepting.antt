-- What became of a message says whether the room would be clear with it, and names a clash where it wouldn't.
-- Cited by accepted_where_clear of laws, Room::take of room.
use Rattle.std.proofs.Common.{◌≡◌, ◌∙◌, ℕ, ℤ, Bool, true, false, List, [], ◌∷◌, ◌++◌, refl, sym, ap, subst, arith, length}
use Rattle.std.specs.Prelude.{◌↔◌, IsTrue, if◌then◌else◌, nat_lt, Option}
use Rattle.std.specs.List.{list_any}
use Rattle.std.proofs.lemmas.Bool.{false≢true, lt-ltb, ltb-true}
use Rattle.profile.specs.Headline.{AcceptedWhereClear, DeclineNamesClash, count_asked, would_be}
use Rattle.profile.specs.checker.Instances.{IsClear}
use Rattle.profile.specs.rooms.Messages.{Outcome, Accept, Busy, SeriesLimit, SinglesLimit}
use Rattle.profile.specs.rooms.Revisions.{Part}
use Rattle.profile.specs.rooms.Rooms.{Book, Claim, Confirms, Decides, IsStep, IsWithinLimits, Kind, NamesClash, asked, if_accepted, is_fresh, is_same, kind_of, kind_of_outcome, parts_of, Accepted, Declined, Limit, Cancelled, Repeated, Stale, NotAddressed}
use Rattle.room_books.specs.Room.{StepsWith}
use Rattle.room_books.specs.declared.kept.Meeting.{Meeting}
use Rattle.room_books.specs.declared.meeting.MeetingKey.{MeetingKey}

-- what became of a message of which no part is asked
abbrev unasked : Bool → Bool → Kind
unasked fresh same = if fresh then Cancelled else (if same then Repeated else Stale)

abbrev kind_by : Bool → Bool → Bool → Outcome → Kind
kind_by some fresh same outcome = if some then kind_of_outcome outcome else unasked fresh same

-- ---- accepted

abbrev IsAccepted : Kind → Type 0
IsAccepted Accepted = Unit {0}
IsAccepted (Declined a b t) = ⊥
IsAccepted (Limit limit) = ⊥
IsAccepted Cancelled = ⊥
IsAccepted Repeated = ⊥
IsAccepted Stale = ⊥
IsAccepted NotAddressed = ⊥

accepted_by : (some fresh same : Bool) (outcome : Outcome) (book : Book) → (some ≡ true → Decides book outcome) → (kind_by some fresh same outcome ≡ Accepted) ↔ ((some ≡ true) × IsWithinLimits book × IsClear (Confirms book))
accepted_by true fresh same Accept book d = (λ e. (refl, (d refl).0, (d refl).1), λ h. refl)
accepted_by true fresh same (Busy a b t) book d = (
  λ e. absurd (subst IsAccepted (sym e) tt),
  λ h. let n = (d refl).1 in absurd (h.2 n.a n.b t n.of_first n.of_second n.clash),
)
accepted_by true fresh same SinglesLimit book d = (λ e. absurd (subst IsAccepted (sym e) tt), λ h. let few = h.1.singles in let many = (d refl).1 in absurd (omega (arith, few, many)))
accepted_by true fresh same SeriesLimit book d = (λ e. absurd (subst IsAccepted (sym e) tt), λ h. let few = h.1.series in let many = d refl in absurd (omega (arith, few, many)))
accepted_by false true same outcome book d = (λ e. absurd (subst IsAccepted (sym e) tt), λ h. absurd (false≢true h.0))
accepted_by false false true outcome book d = (λ e. absurd (subst IsAccepted (sym e) tt), λ h. absurd (false≢true h.0))
accepted_by false false false outcome book d = (λ e. absurd (subst IsAccepted (sym e) tt), λ h. absurd (false≢true h.0))

-- ---- declined

-- what a decline says of the book as it would be
abbrev Named : Book → Kind → Type 0
Named book Accepted = Unit {0}
Named book (Declined a b t) = NamesClash (Confirms book) a b t
Named book (Limit limit) = Unit {0}
Named book Cancelled = Unit {0}
Named book Repeated = Unit {0}
Named book Stale = Unit {0}
Named book NotAddressed = Unit {0}

declined_by : (some fresh same : Bool) (outcome : Outcome) (book : Book) → (some ≡ true → Decides book outcome) → Named book (kind_by some fresh same outcome)
declined_by true fresh same Accept book d = tt
declined_by true fresh same (Busy a b t) book d = (d refl).1
declined_by true fresh same SinglesLimit book d = tt
declined_by true fresh same SeriesLimit book d = tt
declined_by false true same outcome book d = tt
declined_by false false true outcome book d = tt
declined_by false false false outcome book d = tt

-- ---- by the book before

abbrev kind_from : Book → List Claim → Outcome → Kind
kind_from before claims outcome = kind_of before.taken (before.taken ++ parts_of claims) claims outcome

-- what is decided by the book as it would be
abbrev DecidesFrom : Book → List Claim → ℤ → Outcome → Type 0
DecidesFrom before claims moment outcome = IsTrue (nat_lt 0 (count_asked before claims)) → Decides (would_be before claims moment) outcome

accepted_from : (before : Book) (claims : List Claim) (moment : ℤ) (outcome : Outcome) → DecidesFrom before claims moment outcome → AcceptedWhereClear before claims moment (kind_from before claims outcome)
accepted_from before [] moment outcome d = (λ e. absurd (subst IsAccepted (sym e) tt), λ h. let some = h.0 in absurd (omega (arith, some)))
accepted_from before (c ∷ cs) moment outcome d =
    let claims = c ∷ cs in
    let after = before.taken ++ parts_of claims in
    let count = count_asked before claims in
    let r = accepted_by (nat_lt 0 count) (list_any (is_fresh before.taken after) (parts_of claims)) (list_any (is_same before.taken after) (parts_of claims)) outcome (would_be before claims moment) d in
    (λ e. (ltb-true 0 count (r.0 e).0, (r.0 e).1, (r.0 e).2), λ h. r.1 (lt-ltb 0 count h.0, h.1, h.2))

declined_from : (before : Book) (claims : List Claim) (moment : ℤ) (outcome : Outcome) → DecidesFrom before claims moment outcome → Named (would_be before claims moment) (kind_from before claims outcome)
declined_from before [] moment outcome d = tt
declined_from before (c ∷ cs) moment outcome d =
    let claims = c ∷ cs in
    let after = before.taken ++ parts_of claims in
    declined_by (nat_lt 0 (count_asked before claims)) (list_any (is_fresh before.taken after) (parts_of claims)) (list_any (is_same before.taken after) (parts_of claims)) outcome (would_be before claims moment) d

-- ---- by a step

module _ (before : Book) (claims : List Claim) (moment : ℤ) (outcome : Outcome) (after : Book) (kind : Kind) (step : IsStep before claims moment outcome after)
    (is : kind ≡ kind_of before.taken after.taken claims outcome) where
  decides : DecidesFrom before claims moment outcome
  decides =
      subst (λ (taken : List Part). IsTrue (nat_lt 0 (length (asked before.taken taken claims))) → Decides (if_accepted before claims moment taken) outcome) step.taken step.decided

  kind_is : kind ≡ kind_from before claims outcome
  kind_is = is ∙ ap (λ (taken : List Part). kind_of before.taken taken claims outcome) step.taken

  pub accepted_where : AcceptedWhereClear before claims moment kind
  accepted_where = subst (AcceptedWhereClear before claims moment) (sym kind_is) (accepted_from before claims moment outcome decides)

  pub declined_where : DeclineNamesClash before claims moment kind
  declined_where first second t e = subst (Named (would_be before claims moment)) (sym kind_is ∙ e) (declined_from before claims moment outcome decides)

-- ---- by what a room does

module _ (room : List ℕ) (entries : List (MeetingKey × Meeting)) (book : Book) (claims : List Claim) (moment : ℤ) (kind : Kind) (reply : Option (List ℕ)) (adds : Bool) (refresh : Option (List ℕ))
    (s : StepsWith room entries book claims moment kind reply adds refresh) where
  pub steps_accept : AcceptedWhereClear book claims moment kind
  steps_accept = accepted_where book claims moment s.steps.outcome s.steps.after kind s.steps.step s.steps.kind_is

  pub steps_decline : DeclineNamesClash book claims moment kind
  steps_decline = declined_where book claims moment s.steps.outcome s.steps.after kind s.steps.step s.steps.kind_is
