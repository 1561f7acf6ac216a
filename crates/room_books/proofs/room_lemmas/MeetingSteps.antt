-- What becomes of a meeting is a step of the book that the room represents.
-- Cited by Room::settled.
use Rattle.std.proofs.Common.{◌≡◌, ◌≢◌, ◌∙◌, ℤ, ◌<◌, true, List, [], ◌∷◌, ◌++◌, map, length, Option, None, Some, inl, inr, refl, sym, ap, subst, arith, append-nil}
use denote.Ref.{Bor}
use Rattle.std.specs.Prelude.{nat_lt, IfSome}
use Rattle.std.specs.List.{AllZip, Contains, IsDistinct}
use Rattle.std.specs.Map.{keys_of, lookup}
use Rattle.std.proofs.lemmas.Bool.{true≢false, lt-ltb}
use Rattle.std.proofs.lemmas.List.Elements.{Contains-append_cases}
use Rattle.itip_order.specs.Registers.{RepresentsHistory}
use Rattle.itip_order.proofs.Lists.{none_in_nil}
use Rattle.profile.specs.checker.Instances.{Instance}
use Rattle.profile.specs.text.Values.{IsClockSeconds}
use Rattle.profile.specs.rooms.Messages.{Accept}
use Rattle.profile.specs.rooms.Revisions.{Part}
use Rattle.profile.specs.rooms.Rooms.{PartAnswer as SaidAnswer, Book, Claim, Confirms, Decides, if_accepted, parts_of, asked, answered}
use Rattle.profile.specs.events.Events.{Event as Whole}
use Rattle.room_books.specs.declared.answer.Kind.{Kind}
use Rattle.room_books.specs.declared.meeting.MeetingKey.{MeetingKey}
use Rattle.room_books.specs.declared.kept.Meeting.{Meeting}
use Rattle.room_books.specs.declared.meeting.Outcome.{Outcome}
use Rattle.room_books.specs.declared.meeting.Outcome.TheVariants.{Accepted}
use Rattle.room_books.specs.declared.meeting.PartAnswer.{PartAnswer}
use Rattle.room_books.specs.declared.claim.Claim.{Claim as Asking}
use Rattle.room_books.specs.Taking.{claim_said, claims_said, kind_view, AreAsked, AreAnswersDecided, IsKindOf}
use Rattle.room_books.specs.Meeting.{same_key, all_singles, all_series, beside, joined, outcome_of}
use Rattle.itip_order.specs.declared.part.Slot.{Slot}
use Rattle.room_books.specs.Slots.{AllTouch, Reordered}
use Rattle.room_books.specs.Room.{is_of_meeting, book_of, AreFitting, IsFitting, IsFittingSeries, AreGiven, HasAnswer, IsMeetingAfter, KeepsEach, Meets, Represents}
use Rattle.room_books.proofs.room_lemmas.Afters.{confirmed_asked, recurring_asked, outcome_dated, meets_after}
use Rattle.room_books.proofs.room_lemmas.Beside.{beside_same}
use Rattle.room_books.proofs.laws_lemmas.Runs.{new_answer}
use Rattle.room_books.proofs.room_lemmas.OwnBook.{own_of, asked_own, book_own, kind_own}
use Rattle.room_books.proofs.room_lemmas.OwnSteps.{stayed, decided_itself, given_new, of_one_meeting, would_confirm, would_recur}
use Rattle.room_books.proofs.shared_lemmas.Pairs.{pairs_filter}
use Rattle.room_books.proofs.shared_lemmas.SameSeries.{decides_alike}
use Rattle.room_books.proofs.shared_lemmas.SlotsApart.{OtherPart}

module _ (k : MeetingKey) (entries : List (MeetingKey × Meeting)) (distinct : IsDistinct same_key (keys_of entries)) (book : Book) (st : Represents entries book)
    (asking_all : List Asking) (fit : AreFitting k (claims_said asking_all)) (moment : ℤ) where
  abbrev claims : List Claim
  claims = claims_said asking_all

  abbrev own : Book
  own = book_of k book

  abbrev t : List Part
  t = own.taken ++ parts_of claims

  abbrev all : List Part
  all = book.taken ++ parts_of claims

  abbrev asked_now : List Claim
  asked_now = asked own.taken t claims

  -- each instance that would be confirmed was asked for, and has instants that can be written
  abbrev new : List SaidAnswer
  new = answered moment Accept (asked book.taken all claims)

  fits : (a : SaidAnswer) → Contains (book.answers ++ new) a → IsFitting a.claim
  fits a c = elim (Contains-append_cases book.answers new a c) [
    | inl old ↦ st.fit a old
    | inr fresh ↦ fit.fit a.claim (new_answer book.taken all moment Accept claims a fresh).among
  ]

  all_dated : (b : Instance) → Confirms (if_accepted book claims moment all) b → IsClockSeconds b.start × IsClockSeconds b.key.slot
  all_dated b (inl c) =
      let found = confirmed_asked all (book.answers ++ new) b c in
      let f = fits found.0 found.1 in
      (f.starts b found.2, f.slots b found.2)
  all_dated b (inr l) =
      let found = recurring_asked k all (book.answers ++ new) b l in
      let f : IsFittingSeries found.0.claim found.1 = subst (λ (o : Option Whole). IfSome o (IsFittingSeries found.0.claim)) found.3 (fits found.0 found.2).recurs in
      (f.starts b found.4, subst IsClockSeconds (sym (f.slot b found.4)) (f.starts b found.4))

  module _ (part : Part) (own_part : is_of_meeting k part ≡ true) (some : 0 < length asking_all) (meeting : Meeting) (s : RepresentsHistory meeting.held t) (kept : List PartAnswer)
      (slots : List Slot) (touches : AllTouch slots (parts_of claims)) (keeps : KeepsEach part slots (lookup (same_key k) entries) meeting.held kept) (asking : List (Bor Asking)) (are : AreAsked own.taken t asking_all asking) where
    kept_zip : AreGiven k t (stayed k own (own_of k entries book st) claims fit moment) kept
    kept_zip = keeps own k (parts_of claims) own_part (own_of k entries book st) (st.meets k) s touches

    none_after : (kind : Kind) → asking ≡ [] → Reordered kept meeting.answers.items → IsKindOf own.taken t asking_all None kind → IsMeetingAfter book k claims moment (kind_view kind) meeting
    none_after kind e same said =
        let none : asked_now ≡ [] = sym are ∙ ap (map (λ (claim : Bor Asking). claim_said claim.now)) e in
        let given : AllZip (HasAnswer k t) (answered moment Accept asked_now) [] = subst (λ (l : List Claim). AllZip (HasAnswer k t) (answered moment Accept l) []) (sym none) tt in
        record {
          outcome = Accept;
          step = record { taken = refl; answers = refl; decided = λ h. absurd (true≢false (sym h ∙ ap (λ l. nat_lt 0 (length l)) (sym (asked_own k book claims fit) ∙ none))) };
          meets = subst (λ (b : Book). Meets b k meeting) (sym (book_own k book claims fit moment Accept))
              (meets_after k own (own_of k entries book st) claims fit moment Accept (lookup (same_key k) entries) (st.meets k) meeting kept [] s kept_zip given (subst (λ (l : List PartAnswer). Reordered l meeting.answers.items) (sym (append-nil kept)) same)
              (λ claim c. absurd (none_in_nil claim (subst (λ (l : List Claim). Contains l claim) none c))));
          kind_is = said (lt-ltb 0 (length asking_all) some) (ap (λ l. nat_lt 0 (length l)) none) ∙ kind_own k book claims fit Accept;
        }

    some_asked : (xs : List (Bor Asking)) → xs ≢ [] → nat_lt 0 (length (map (λ (claim : Bor Asking). claim_said claim.now) xs)) ≡ true
    some_asked [] h = absurd (h refl)
    some_asked (x ∷ xs) h = lt-ltb 0 (length (map (λ (claim : Bor Asking). claim_said claim.now) (x ∷ xs))) (omega arith)

    some_after : (kind : Kind) (outcome : Outcome) → AreAnswersDecided (beside k entries) k meeting.held moment kept asking meeting.answers.items (Some outcome) → IsKindOf own.taken t asking_all (Some outcome) kind
        → IsMeetingAfter book k claims moment (kind_view kind) meeting
    some_after kind outcome answered_now said =
        let candidates = answered_now.1.0 in
        let decided = answered_now.1.1 in
        let accepted = answered_now.1.2 in
        let is_decision = answered_now.1.4 in
        let is_own = own_of k entries book st in
        let would = given_new k own is_own claims fit moment asking are meeting.held s Accepted candidates candidates accepted (decided_itself meeting.held moment asking candidates accepted) in
        let given = given_new k own is_own claims fit moment asking are meeting.held s outcome candidates decided accepted answered_now.1.3 in
        let once = pairs_filter OtherPart (λ (a : SaidAnswer). is_of_meeting k a.claim.part) book.answers st.once in
        let singles = all_singles kept ++ all_singles candidates in
        let series = all_series kept ++ all_series candidates in
        let alike = beside_same k entries distinct book st claims fit moment singles series
        (would_confirm k own is_own claims fit moment kept candidates kept_zip would) (would_recur k own is_own claims fit moment kept candidates kept_zip would) in
        let decides : Decides (if_accepted book claims moment all) (outcome_of outcome) =
        decides_alike (if_accepted book claims moment all) (joined (beside k entries) k singles series) alike
        (outcome_of outcome) (is_decision.decides (of_one_meeting k own is_own claims fit moment once kept candidates kept_zip would)) in
        record {
          outcome = outcome_of outcome;
          step = record { taken = refl; answers = refl; decided = λ h. decides };
          meets = subst (λ (b : Book). Meets b k meeting) (sym (book_own k book claims fit moment (outcome_of outcome)))
              (meets_after k own is_own claims fit moment (outcome_of outcome) (lookup (same_key k) entries) (st.meets k) meeting kept decided s kept_zip given answered_now.1.5
              (λ claim c. outcome_dated (if_accepted book claims moment all) (outcome_of outcome) all_dated decides));
          kind_is = said (lt-ltb 0 (length asking_all) some) (ap (λ l. nat_lt 0 (length l)) (sym are) ∙ some_asked asking answered_now.0) ∙ kind_own k book claims fit (outcome_of outcome);
        }

    pub meeting_after : (kind : Kind) (outcome : Option Outcome) → AreAnswersDecided (beside k entries) k meeting.held moment kept asking meeting.answers.items outcome → IsKindOf own.taken t asking_all outcome kind
        → IsMeetingAfter book k claims moment (kind_view kind) meeting
    meeting_after kind None a said = none_after kind a.0 a.1 said
    meeting_after kind (Some outcome) a said = some_after kind outcome a said
