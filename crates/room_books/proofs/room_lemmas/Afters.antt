-- A meeting after a message, where it was the meeting of its own book before.
-- Cited by Room::settled, Room::taken_by.
use Rattle.std.proofs.Common.{◌≡◌, ℤ, true, not, ◌&&◌, List, [], ◌∷◌, ◌++◌, Option, None, Some, inl, inr, refl, sym, subst}
use Rattle.std.specs.List.{AllZip, Contains, filter}
use Rattle.std.proofs.lemmas.Bool.{and_from, both_ways, cases_Bool, not_from_false}
use Rattle.std.proofs.lemmas.List.Elements.{Contains-append_left, Contains-append_right, Contains-append_cases}
use Rattle.itip_order.specs.Registers.{RepresentsHistory}
use Rattle.itip_order.proofs.Joined.{represents_both}
use Rattle.itip_order.proofs.Lasting.{view_taken}
use Rattle.itip_order.proofs.Lists.{in_cons, none_in_nil, filter_at, filter_from}
use Rattle.profile.specs.checker.Instances.{Instance, Key}
use Rattle.profile.specs.text.Values.{IsClockSeconds}
use Rattle.profile.specs.rooms.Messages.{Outcome, Accept, Busy, SeriesLimit, SinglesLimit}
use Rattle.profile.specs.rooms.Revisions.{Part, in_view}
use Rattle.profile.specs.rooms.Rooms.{PartAnswer as SaidAnswer, Book, Claim, Confirms, Decides, IsShownInSeries, is_confirmed, is_hidden, is_fresh, is_set, left_of, recurring_in, singles_confirmed, series_confirmed, parts_of, asked, answered}
use Rattle.profile.specs.events.Events.{Event as Whole}
use Rattle.profile.specs.events.Starts.{IsInstance}
use Rattle.room_books.specs.declared.meeting.MeetingKey.{MeetingKey}
use Rattle.room_books.specs.declared.kept.Meeting.{Meeting}
use Rattle.cal_events.specs.declared.instance.Single.{Single}
use Rattle.room_books.specs.declared.meeting.PartAnswer.{PartAnswer}
use Rattle.room_books.specs.Taking.{OutcomeDated, HasHistory, held_after}
use Rattle.room_books.specs.Meeting.{keyed_instance}
use Rattle.room_books.specs.Room.{IsFitting, AreFitting, IsOwn, AreGiven, HasAnswer, IsAnswerDated, Meets, MeetsAt, answers_in_view, book_after}
use Rattle.room_books.proofs.laws_lemmas.Runs.{new_answer}
use Rattle.room_books.specs.Slots.{Reordered}
use Rattle.room_books.proofs.shared_lemmas.Givens.{given_from, given_reordered, given_to}
use Rattle.room_books.proofs.room_lemmas.OwnSteps.{answer_to, stayed, given_after}
use Rattle.room_books.proofs.shared_lemmas.Pairs.{flat_at, map_at, map_from}
use Rattle.room_books.proofs.shared_lemmas.Places.{booked_from}
use Rattle.room_books.proofs.shared_lemmas.SlotsApart.{has_series}
use Rattle.room_books.proofs.shared_lemmas.Views.{view_back}

-- ---- instants that can be written

-- what is confirmed was asked for
pub confirmed_asked : (t : List Part) (xs : List SaidAnswer) (b : Instance) → Contains (singles_confirmed t xs) b → (a : SaidAnswer) × Contains xs a × Contains a.claim.singles b
confirmed_asked t xs b c =
    let found = flat_at (left_of t) (filter (is_confirmed t) xs) b c in
    (found.0, (filter_at (is_confirmed t) xs found.0 found.1).0, (filter_at (λ z. not (is_hidden t found.0.claim.part z)) found.0.claim.singles b found.2).0)

-- and so was what recurs
pub recurring_asked : (k : MeetingKey) (t : List Part) (xs : List SaidAnswer) (b : Instance) → IsShownInSeries t (series_confirmed t xs) b → (a : SaidAnswer) × (series : Whole) × Contains xs a × (a.claim.series ≡ Some series) × IsInstance series b
recurring_asked k t xs b l =
    let found = flat_at recurring_in (filter (is_confirmed t) xs) l.series l.among in
    (found.0, l.series.meeting, (filter_at (is_confirmed t) xs found.0 found.1).0, has_series k t found.0 l.series found.0.claim.series refl found.2, l.is)

pub outcome_dated : (book : Book) (outcome : Outcome) → ((b : Instance) → Confirms book b → IsClockSeconds b.start × IsClockSeconds b.key.slot) → Decides book outcome → OutcomeDated outcome
outcome_dated book Accept h d = tt
outcome_dated book (Busy a b t) h d =
    let n = d.1 in (
      subst IsClockSeconds (sym n.later) (h n.b n.of_second).0,
      subst (λ (key : Key). IsClockSeconds key.slot) n.first_is (h n.a n.of_first).1,
      subst (λ (key : Key). IsClockSeconds key.slot) n.second_is (h n.b n.of_second).1,
    )
outcome_dated book SeriesLimit h d = tt
outcome_dated book SinglesLimit h d = tt

given_dated : (k : MeetingKey) (t : List Part) (a : SaidAnswer) (given : PartAnswer) → HasAnswer k t a given → IsFitting a.claim → OutcomeDated a.outcome → IsAnswerDated given
given_dated k t a given g fit dated =
    let asked_for : (single : Single) → Contains given.singles.items single → Contains a.claim.singles (keyed_instance k single) = λ single c.
    let found = confirmed_asked t (a ∷ []) (keyed_instance k single) (subst (λ (l : List Instance). Contains l (keyed_instance k single)) g.confirms (booked_from k given.singles.items single c)) in
    elim (in_cons a [] found.0 found.1) [
      | inl here ↦ subst (λ (x : SaidAnswer). Contains x.claim.singles (keyed_instance k single)) (sym here) found.2
      | inr none ↦ absurd (none_in_nil found.0 none)
    ] in
    record {
      outcome = subst OutcomeDated (sym g.outcome) dated;
      starts = λ single c. fit.starts (keyed_instance k single) (asked_for single c);
      slots = λ single c. fit.slots (keyed_instance k single) (asked_for single c);
    }

-- ---- the meeting before

module _ (k : MeetingKey) (own : Book) where
  pub has_history : (before : Option Meeting) → MeetsAt own k before → HasHistory before own.taken
  has_history None m = m
  has_history (Some meeting) m = m.held

  none_seen : own.taken ≡ [] → (part : Part) → in_view own.taken part ≡ true → ⊥
  none_seen e part v = none_in_nil part (subst (λ (l : List Part). Contains l part) e (view_taken own.taken part v))

  old_answered : (before : Option Meeting) → MeetsAt own k before → (part : Part) → is_set part ≡ true → in_view own.taken part ≡ true → (a : SaidAnswer) × Contains own.answers a × (a.claim.part ≡ part)
  old_answered None m part s v = absurd (none_seen m part v)
  old_answered (Some meeting) m part s v = m.answered part s v

  old_dated : (before : Option Meeting) → MeetsAt own k before → (a : SaidAnswer) → Contains own.answers a → in_view own.taken a.claim.part ≡ true → OutcomeDated a.outcome
  old_dated None m a c v = absurd (none_seen m a.claim.part v)
  old_dated (Some meeting) m a c v =
      let found = given_to k own.taken (answers_in_view own.taken own.answers) meeting.answers.items a m.answers (filter_from (λ (x : SaidAnswer). in_view own.taken x.claim.part) own.answers a c v) in
      subst OutcomeDated found.2.outcome (m.dated found.0 found.1).outcome

-- with its parts and more
pub has_history_after : (before : Option Meeting) (more history others : List Part) → HasHistory before history → RepresentsHistory more others → RepresentsHistory (held_after before more) (history ++ others)
has_history_after None more history others e s = subst (λ (l : List Part). RepresentsHistory more (l ++ others)) (sym e) s
has_history_after (Some meeting) more history others h s = represents_both meeting.held more history others h s

-- ---- and after

module _ (k : MeetingKey) (own : Book) (is_own : IsOwn k own) (claims : List Claim) (fit : AreFitting k claims) (moment : ℤ) (outcome : Outcome)
    (before : Option Meeting) (m : MeetsAt own k before) where
  abbrev t : List Part
  t = own.taken ++ parts_of claims

  abbrev asked_now : List Claim
  asked_now = asked own.taken t claims

  abbrev new : List SaidAnswer
  new = answered moment outcome asked_now

  answered_after : (part : Part) → is_set part ≡ true → in_view t part ≡ true → (a : SaidAnswer) × Contains (own.answers ++ new) a × (a.claim.part ≡ part)
  answered_after part s v =
      let Q : Type 0 = (a : SaidAnswer) × Contains (own.answers ++ new) a × (a.claim.part ≡ part) in
      let q : Q = elim (cases_Bool (in_view own.taken part)) [
        | inl seen ↦ let old = old_answered k own before m part s seen in (old.0, Contains-append_left own.answers new old.0 old.1, old.2)
        | inr gone ↦ elim (Contains-append_cases own.taken (parts_of claims) part (view_taken t part v)) [
          | inl taken ↦ absurd (both_ways _ gone (view_back own.taken (parts_of claims) part taken v))
          | inr fresh ↦
              let found = map_at (λ (c : Claim). c.part) claims part fresh in
              let is_asked = subst (λ (p : Part). (is_set p && is_fresh own.taken t p) ≡ true) (sym found.2) (and_from _ _ s (and_from _ _ v (not_from_false _ gone))) in
              let among = filter_from (λ (c : Claim). is_set c.part && is_fresh own.taken t c.part) claims found.0 found.1 is_asked in
              (answer_to found.0 moment outcome, Contains-append_right own.answers new (answer_to found.0 moment outcome) (map_from (λ (c : Claim). answer_to c moment outcome) asked_now found.0 among), found.2)
        ]
      ] in q

  answer_dated : ((claim : Claim) → Contains asked_now claim → OutcomeDated outcome) → (a : SaidAnswer) → Contains (answers_in_view t (own.answers ++ new)) a → IsFitting a.claim × OutcomeDated a.outcome
  answer_dated dated a c =
      let at = filter_at (λ (x : SaidAnswer). in_view t x.claim.part) (own.answers ++ new) a c in
      elim (Contains-append_cases own.answers new a at.0) [
        | inl old ↦ (is_own.fit a old, old_dated k own before m a old (view_back own.taken (parts_of claims) a.claim.part (is_own.known a old) at.1))
        | inr fresh ↦
            let found = map_at (λ (c : Claim). answer_to c moment outcome) asked_now a fresh in (
              fit.fit a.claim (new_answer own.taken t moment outcome claims a fresh).among,
              subst (λ (x : SaidAnswer). OutcomeDated x.outcome) found.2 (dated found.0 found.1),
            )
      ]

  pub meets_after : (meeting : Meeting) (kept given : List PartAnswer) → RepresentsHistory meeting.held t → AreGiven k t (stayed k own is_own claims fit moment) kept → AllZip (HasAnswer k t) new given
      → Reordered (kept ++ given) meeting.answers.items → ((claim : Claim) → Contains asked_now claim → OutcomeDated outcome) → Meets (book_after own claims moment outcome) k meeting
  meets_after meeting kept given s z w e dated =
      let answers = given_reordered k t (answers_in_view t (own.answers ++ new)) (kept ++ given) meeting.answers.items e (given_after k own is_own claims fit moment outcome kept given z w) in
      record {
        held = s;
        answers = answers;
        answered = answered_after;
        dated = λ given c.
            let found = given_from k t (answers_in_view t (own.answers ++ new)) meeting.answers.items given answers c in
            let both = answer_dated dated found.0 found.1 in
            given_dated k t found.0 given found.2 both.0 both.1;
      }
