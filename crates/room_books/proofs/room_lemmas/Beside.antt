-- What a room would have confirmed, were all that is asked accepted: what the other meetings have, and what its own would.
-- Behind Room::settled.
use Rattle.std.proofs.Common.{◌≡◌, ◌∙◌, ℤ, Bool, true, false, not, List, [], ◌++◌, inl, inr, sym, ap, subst, append-nil}
use Rattle.std.specs.List.{Contains, IsDistinct, filter}
use Rattle.std.specs.Map.{keys_of}
use Rattle.std.proofs.lemmas.Bool.{both_ways, not-true, not_from_false, false_from_ne_true}
use Rattle.std.proofs.lemmas.List.Elements.{Contains-append_cases, filter-append}
use Rattle.std.proofs.lemmas.Map.Made.{IsDistinct-keys_filter}
use Rattle.itip_order.proofs.Lists.{filter_at, filter_from}
use Rattle.profile.specs.checker.Instances.{Instance}
use Rattle.profile.specs.rooms.Messages.{Accept}
use Rattle.profile.specs.rooms.Revisions.{Part}
use Rattle.profile.specs.events.Events.{Event as Whole}
use Rattle.profile.specs.rooms.Rooms.{PartAnswer, Book, Claim, Recurring, is_confirmed, is_hidden, left_of, recurring_in, singles_confirmed, series_confirmed, if_accepted, parts_of, asked, answered}
use Rattle.cal_events.specs.declared.instance.Single.{Single}
use Rattle.cal_events.specs.declared.series.Series.{Series}
use Rattle.room_books.specs.declared.meeting.MeetingKey.{MeetingKey}
use Rattle.room_books.specs.declared.kept.Meeting.{Meeting}
use Rattle.room_books.specs.Meeting.{same_key, beside, instance_list, is_other, joined, others, other_recurring, confirmed_of, recurring_of, series_list}
use Rattle.room_books.specs.Room.{is_of_meeting, of_meeting, answers_of, book_of, AreFitting, AreSameSeries, Represents}
use Rattle.room_books.proofs.shared_lemmas.Confirms.{zip_confirms, zip_recurs}
use Rattle.room_books.proofs.room_lemmas.Entries.{found_entry, meeting_at}
use Rattle.room_books.proofs.laws_lemmas.Runs.{new_answer}
use Rattle.room_books.proofs.room_lemmas.Meetings.{is_of_same, one_meeting, of_more_other, confirmed_own, filter_none, hidden_of, part_own, series_own}
use Rattle.room_books.proofs.room_lemmas.OwnBook.{parts_own, taken_own, answers_own}
use Rattle.room_books.proofs.shared_lemmas.Partition.{answers_apart, given_split, partition}
use Rattle.room_books.proofs.shared_lemmas.Same.{AreSame, same_itself, same_then, same_append, same_swap}
use Rattle.room_books.proofs.shared_lemmas.SameSeries.{AreAlike, series_none, series_append, series_hidden, series_then, series_turn}

module _ (k : MeetingKey) (entries : List (MeetingKey × Meeting)) (distinct : IsDistinct same_key (keys_of entries)) (book : Book) (st : Represents entries book)
    (claims : List Claim) (fit : AreFitting k claims) (moment : ℤ) where
  abbrev all : List Part
  all = book.taken ++ parts_of claims

  abbrev new : List PartAnswer
  new = answered moment Accept (asked book.taken all claims)

  abbrev now : List PartAnswer
  now = book.answers ++ new

  abbrev not_own : PartAnswer → Bool
  not_own a = not (is_of_meeting k a.claim.part)

  new_own : (a : PartAnswer) → Contains new a → is_of_meeting k a.claim.part ≡ true
  new_own a c = fit.of_it a.claim (new_answer book.taken all moment Accept claims a c).among

  apart_from : (q : MeetingKey) → same_key k q ≡ false → (p : Part) → is_of_meeting k p ≡ true → is_of_meeting q p ≡ false
  apart_from q d p e = false_from_ne_true _ (λ f. both_ways _ d (one_meeting k q p e f))

  -- the answers of another meeting are what they were
  other_answers : (e : MeetingKey × Meeting) → same_key k e.0 ≡ false → answers_of e.0 (filter not_own now) ≡ answers_of e.0 book.answers
  other_answers e d =
      let own = λ (a : PartAnswer). is_of_meeting e.0 a.claim.part in
      let old = answers_of e.0 book.answers in
      answers_apart k e.0 now d ∙ filter-append own book.answers new
      ∙ ap (λ l. old ++ l) (filter_none own new (λ a h. apart_from e.0 d a.claim.part (new_own a h))) ∙ append-nil old

  other_parts : (e : MeetingKey × Meeting) → same_key k e.0 ≡ false → of_meeting e.0 all ≡ of_meeting e.0 book.taken
  other_parts e d = of_more_other e.0 book.taken (parts_of claims) (λ p h. apart_from e.0 d p (parts_own k claims fit p h))

  old_own : (e : MeetingKey × Meeting) (a : PartAnswer) → Contains (answers_of e.0 book.answers) a → is_of_meeting e.0 a.claim.part ≡ true
  old_own e a h = (filter_at (λ (x : PartAnswer). is_of_meeting e.0 x.claim.part) book.answers a h).1

  -- another meeting confirms what it did
  other_confirms : (e : MeetingKey × Meeting) → Contains entries e → same_key k e.0 ≡ false → AreSame (singles_confirmed all (answers_of e.0 (filter not_own now))) (confirmed_of e)
  other_confirms e c d =
      let old = answers_of e.0 book.answers in
      let is : singles_confirmed all (answers_of e.0 (filter not_own now)) ≡ singles_confirmed (of_meeting e.0 book.taken) old =
      ap (singles_confirmed all) (other_answers e d) ∙ sym (confirmed_own e.0 all old (old_own e)) ∙ ap (λ t. singles_confirmed t old) (other_parts e d) in
      subst (λ (l : List Instance). AreSame l (confirmed_of e)) (sym is) (zip_confirms e.0 (of_meeting e.0 book.taken) old e.1.answers.items (meeting_at entries book st distinct e c).answers)

  other_recurs : (e : MeetingKey × Meeting) → Contains entries e → same_key k e.0 ≡ false → AreSameSeries all (series_confirmed all (answers_of e.0 (filter not_own now))) (recurring_of e)
  other_recurs e c d =
      let old = answers_of e.0 book.answers in
      let t = of_meeting e.0 book.taken in
      let is : series_confirmed t old ≡ series_confirmed all (answers_of e.0 (filter not_own now)) =
      sym (ap (series_confirmed all) (other_answers e d) ∙ sym (series_own e.0 all old (old_own e)) ∙ ap (λ u. series_confirmed u old) (other_parts e d)) in
      subst (λ (l : List Recurring). AreSameSeries all l (recurring_of e)) is
      (series_hidden t all (series_confirmed t old) (recurring_of e)
      (λ r among b. ap (λ u. is_hidden u r.part b) (sym (other_parts e d)) ∙ hidden_of e.0 all r.part b (part_own e.0 t old (old_own e) r among))
      (zip_recurs e.0 t old e.1.answers.items (meeting_at entries book st distinct e c).answers))

  -- a confirmed answer of another meeting is one of an entry
  other_covered : (a : PartAnswer) → Contains (filter not_own now) a → is_confirmed all a ≡ true → (e : MeetingKey × Meeting) × Contains (filter (is_other k) entries) e × (is_of_meeting e.0 a.claim.part ≡ true)
  other_covered a c h =
      let from = filter_at not_own now a c in
      let Q : Type 0 = (e : MeetingKey × Meeting) × Contains (filter (is_other k) entries) e × (is_of_meeting e.0 a.claim.part ≡ true) in
      let q : Q = elim (Contains-append_cases book.answers new a from.0) [
        | inl old ↦
            let cover = st.covered a.claim.part (st.known a old) in
            let found = found_entry cover.key entries cover.meeting cover.found in
            let is : is_of_meeting found.0.0 a.claim.part ≡ true = sym (is_of_same cover.key found.0.0 a.claim.part found.2) ∙ cover.is in
            let other : is_other k found.0 ≡ true = not_from_false _ (false_from_ne_true _ (λ same. both_ways _ (not-true _ from.1) (is_of_same k found.0.0 a.claim.part same ∙ is))) in
            (found.0, filter_from (is_other k) entries found.0 found.1 other, is)
        | inr fresh ↦ absurd (both_ways _ (not-true _ from.1) (new_own a fresh))
      ] in q

  others_distinct : IsDistinct same_key (keys_of (filter (is_other k) entries))
  others_distinct = IsDistinct-keys_filter same_key (is_other k) entries distinct

  others_same : AreSame (singles_confirmed all (filter not_own now)) (others k entries)
  others_same = partition AreSame (same_itself []) (λ a b c d p q. same_append a b c d p q) same_then (left_of all) confirmed_of all (filter (is_other k) entries) (filter not_own now) others_distinct other_covered
      (λ e c. let from = filter_at (is_other k) entries e c in other_confirms e from.0 (not-true _ from.1))

  others_recur : AreSameSeries all (series_confirmed all (filter not_own now)) (other_recurring k entries)
  others_recur = partition (AreSameSeries all) (series_none all) (series_append all) (series_turn all) recurring_in recurring_of all (filter (is_other k) entries) (filter not_own now) others_distinct other_covered
      (λ e c. let from = filter_at (is_other k) entries e c in other_recurs e from.0 (not-true _ from.1))

  abbrev own : Book
  own = book_of k book

  abbrev own_taken : List Part
  own_taken = own.taken ++ parts_of claims

  abbrev own_now : List PartAnswer
  own_now = own.answers ++ answered moment Accept (asked own.taken own_taken claims)

  now_own : (a : PartAnswer) → Contains (answers_of k now) a → is_of_meeting k a.claim.part ≡ true
  now_own a c = (filter_at (λ (x : PartAnswer). is_of_meeting k x.claim.part) now a c).1

  own_same : singles_confirmed all (answers_of k now) ≡ singles_confirmed own_taken own_now
  own_same = sym (confirmed_own k all (answers_of k now) now_own) ∙ (λ i. singles_confirmed (taken_own k book claims fit i) (answers_own k book claims fit moment Accept i))

  own_series : series_confirmed all (answers_of k now) ≡ series_confirmed own_taken own_now
  own_series = sym (series_own k all (answers_of k now) now_own) ∙ (λ i. series_confirmed (taken_own k book claims fit i) (answers_own k book claims fit moment Accept i))

  own_recurs : (mine : List Whole) → AreSameSeries own_taken (series_confirmed own_taken own_now) mine → AreSameSeries all (series_confirmed all (answers_of k now)) mine
  own_recurs mine e =
      subst (λ (l : List Recurring). AreSameSeries all l mine) (sym own_series)
      (series_hidden own_taken all (series_confirmed own_taken own_now) mine
      (λ r among b. ap (λ t. is_hidden t r.part b) (sym (taken_own k book claims fit))
      ∙ hidden_of k all r.part b (part_own k all (answers_of k now) now_own r (subst (λ (l : List Recurring). Contains l r) (sym own_series) among)))
      e)

  -- what the book would confirm is what the others do, and its own
  pub beside_same : (singles : List Single) (series : List Series) → AreSame (singles_confirmed own_taken own_now) (instance_list k singles) → AreSameSeries own_taken (series_confirmed own_taken own_now) (series_list k series)
      → AreAlike (if_accepted book claims moment all) (joined (beside k entries) k singles series)
  beside_same singles series e f =
      let mine = instance_list k singles in
      let own_kind = λ (a : PartAnswer). is_of_meeting k a.claim.part in
      let first : AreSame (singles_confirmed all (answers_of k now)) mine = subst (λ (l : List Instance). AreSame l mine) (sym own_same) e in
      record {
        singles = same_then (singles_confirmed all now) (mine ++ others k entries) (others k entries ++ mine)
            (same_then _ _ _ (given_split (left_of all) all own_kind now) (same_append _ _ _ _ first others_same)) (swapped mine (others k entries));
        series = series_then all (series_confirmed all now) (series_list k series ++ other_recurring k entries) (other_recurring k entries ++ series_list k series)
            (series_turn all (series_confirmed all now) (series_confirmed all (answers_of k now) ++ series_confirmed all (filter not_own now)) (series_list k series ++ other_recurring k entries) (given_split recurring_in all own_kind now)
            (series_append all (series_confirmed all (answers_of k now)) (series_list k series) (series_confirmed all (filter not_own now)) (other_recurring k entries) (own_recurs (series_list k series) f) others_recur))
            (swapped (series_list k series) (other_recurring k entries));
      }
    where
      swapped : {X : Type 0} (xs ys : List X) → AreSame (xs ++ ys) (ys ++ xs)
      swapped {X} xs ys = subst (λ (l : List X). AreSame (xs ++ l) (ys ++ xs)) (append-nil ys) (subst (λ (l : List X). AreSame (xs ++ (ys ++ [])) (ys ++ l)) (append-nil xs) (same_swap xs ys []))
