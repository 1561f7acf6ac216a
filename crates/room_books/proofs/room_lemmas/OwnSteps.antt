-- The answers of a meeting after claims of it were taken are those of its own book.
-- Behind Room::put, Room::settled, Room::take_claims, Room::taken_by.
use Rattle.std.proofs.Common.{◌≡◌, ◌≢◌, ◌∙◌, ℤ, Bool, true, false, not, cond, List, [], ◌∷◌, ◌++◌, map, refl, sym, ap, subst, inl, inr, Option, None, arith}
use Rattle.std.specs.Option.{option_to_list}
use denote.Ref.{Bor}
use Rattle.std.specs.Prelude.{if◌then◌else◌}
use Rattle.std.specs.List.{AllZip, Contains, filter, AllPairs}
use Rattle.std.proofs.lemmas.Bool.{both_ways}
use Rattle.std.proofs.lemmas.Grind.{flat_map-append}
use Rattle.std.proofs.lemmas.List.Elements.{filter-append, Contains-append_cases}
use Rattle.itip_order.specs.Parts.{part_of, slot_of}
use Rattle.itip_order.specs.Registers.{RepresentsHistory}
use Rattle.itip_order.proofs.Lists.{in_head, in_tail, filter_at}
use Rattle.profile.specs.checker.Instances.{Instance}
use Rattle.profile.specs.rooms.Messages.{Accept}
use Rattle.profile.specs.rooms.Messages as messages
use Rattle.profile.specs.rooms.Revisions.{Part, in_view}
use Rattle.profile.specs.rooms.Rooms.{PartAnswer as SaidAnswer, Book, Claim, Recurring, is_accept, is_hidden, recurring_in, singles_confirmed, series_confirmed, parts_of, asked, answered}
use Rattle.room_books.specs.declared.meeting.MeetingKey.{MeetingKey}
use Rattle.room_books.specs.declared.meeting.Outcome.{Outcome}
use Rattle.room_books.specs.declared.meeting.Outcome.TheVariants.{Accepted}
use Rattle.cal_events.specs.declared.instance.Single.{Single}
use Rattle.cal_events.specs.declared.series.Series.{Series}
use Rattle.std.proofs.lemmas.List.{length-map}
use Rattle.room_books.specs.declared.meeting.PartAnswer.{PartAnswer}
use Rattle.room_books.specs.declared.claim.Claim.{Claim as Asking}
use Rattle.room_books.specs.Taking.{claim_said, part_instance, AreOfOneMeeting, IsAccepted, IsDecided}
use Rattle.room_books.specs.Meeting.{keyed_instance, instance_list, all_singles, all_series, series_of, series_list, slots_of, outcome_of}
use Rattle.room_books.specs.Room.{is_of_meeting, AreFitting, AreSameSeries, IsFitting, IsOwn, AreGiven, HasAnswer, Pairwise, answers_in_view}
use Rattle.room_books.proofs.shared_lemmas.Confirms.{given_confirms, given_recurs, zip_confirms, zip_recurs}
use Rattle.room_books.proofs.shared_lemmas.Givens.{given_append, given_zip}
use Rattle.room_books.proofs.shared_lemmas.Reordering.{re_back, re_in, re_left, re_pairs}
use Rattle.room_books.proofs.shared_lemmas.Same.{AreSame}
use Rattle.room_books.proofs.laws_lemmas.Runs.{new_answer}
use Rattle.room_books.proofs.shared_lemmas.Loops.{zip_both}
use Rattle.room_books.proofs.change_lemmas.Own.{filter_within, filter_all, booked_all, left_booked, one_confirmed, one_given}
use Rattle.room_books.proofs.shared_lemmas.Pairs.{pairs_append, pairs_filter, map_from}
use Rattle.room_books.proofs.shared_lemmas.SlotsApart.{OtherPart, OtherSlot, IsSeen, confirmed_apart, new_once, series_few, single_apart, slots_apart}
use Rattle.room_books.proofs.shared_lemmas.Places.{booked_from}
use Rattle.room_books.proofs.shared_lemmas.Rekeyed.{to_series}
use Rattle.room_books.proofs.shared_lemmas.SameSeries.{series_none}
use Rattle.room_books.proofs.shared_lemmas.SeriesLeft.{new_series}
use Rattle.room_books.proofs.shared_lemmas.Views.{view_back}

-- ---- one answer

abbrev pub answer_to : Claim → ℤ → messages.Outcome → SaidAnswer
answer_to claim moment outcome = record { claim = claim; moment = moment; outcome = outcome }

decided_booked : (k : MeetingKey) (b : Bool) (singles : List Single) → instance_list k (if b then singles else []) ≡ cond b (instance_list k singles) []
decided_booked k true singles = refl
decided_booked k false singles = refl

module _ (k : MeetingKey) (t held : List Part) (s : RepresentsHistory held t) (moment : ℤ) (outcome : Outcome) where
  decided_series : (b : Bool) (all : List Recurring) (series : Option Series) → AreSameSeries t all (series_list k (option_to_list series)) → AreSameSeries t (cond b all []) (series_list k (option_to_list (if b then series else None)))
  decided_series true all series p = p
  decided_series false all series p = series_none t

  given_one : (claim : Asking) (candidate given : PartAnswer) → is_of_meeting k (part_of claim.part) ≡ true → in_view t (part_of claim.part) ≡ true → IsFitting (claim_said claim) → IsAccepted held claim moment candidate → IsDecided candidate outcome given
      → HasAnswer k t (answer_to (claim_said claim) moment (outcome_of outcome)) given
  given_one claim candidate given own seen fit a d =
      let part = part_of claim.part in
      let f : Instance → Bool = λ b. not (is_hidden t part b) in
      let left : instance_list k candidate.singles.items ≡ filter f (map (part_instance part) claim.singles.items) = ap (instance_list k) (a.singles t s) ∙ left_booked k t part claim.singles.items own ∙ ap (filter f) (sym (booked_all k part claim.singles.items own)) in
      record {
        slot = ap slot_of (d.slot ∙ a.slot);
        moment = d.moment ∙ a.moment_is;
        outcome = d.outcome_is;
        confirms = ap (instance_list k) d.singles ∙ decided_booked k (is_accept (outcome_of outcome)) candidate.singles.items ∙ ap (λ l. cond (is_accept (outcome_of outcome)) l []) left
            ∙ sym (one_confirmed t (answer_to (claim_said claim) moment (outcome_of outcome)) seen);
        recurs =
            let answer = answer_to (claim_said claim) moment (outcome_of outcome) in
            let new = new_series k t (claim_said claim) claim.series candidate.series own refl fit.recurs (a.series t s) in
            subst (λ (o : Option Series). AreSameSeries t (series_confirmed t (answer ∷ [])) (series_list k (option_to_list o))) (sym d.series)
            (subst (λ (l : List Recurring). AreSameSeries t l (series_list k (option_to_list (if is_accept (outcome_of outcome) then candidate.series else None)))) (sym (one_given recurring_in t answer seen))
            (decided_series (is_accept (outcome_of outcome)) (recurring_in answer) candidate.series new));
      }

  given_each : (asking : List (Bor Asking)) (candidates given : List PartAnswer) → ((claim : Bor Asking) → Contains asking claim → (is_of_meeting k (part_of claim.now.part) ≡ true) × (in_view t (part_of claim.now.part) ≡ true) × IsFitting (claim_said claim.now))
      → AllZip (λ claim given. IsAccepted held claim.now moment given) asking candidates → AllZip (λ candidate given. IsDecided candidate outcome given) candidates given
      → AllZip (HasAnswer k t) (answered moment (outcome_of outcome) (map (λ claim. claim_said claim.now) asking)) given
  given_each [] [] [] h z w = tt
  given_each [] [] (g ∷ gs) h z w = absurd w
  given_each [] (c ∷ cs) gs h z w = absurd z
  given_each (a ∷ rest) [] gs h z w = absurd z
  given_each (a ∷ rest) (c ∷ cs) [] h z w = absurd w
  given_each (a ∷ rest) (c ∷ cs) (g ∷ gs) h z w =
      let first = h a (in_head a rest) in
      (given_one a.now c g first.0 first.1 first.2 z.0 w.0, given_each rest cs gs (λ x k. h x (in_tail a rest x k)) z.1 w.1)

-- a candidate is what it would be, if it were accepted
pub decided_itself : (held : List Part) (moment : ℤ) (asking : List (Bor Asking)) (candidates : List PartAnswer) → AllZip (λ claim given. IsAccepted held claim.now moment given) asking candidates
    → AllZip (λ candidate given. IsDecided candidate Accepted given) candidates candidates
decided_itself held moment [] [] z = tt
decided_itself held moment [] (c ∷ cs) z = absurd z
decided_itself held moment (a ∷ rest) [] z = absurd z
decided_itself held moment (a ∷ rest) (c ∷ cs) z = (record { slot = refl; moment = refl; outcome_is = z.0.outcome; singles = refl; series = refl }, decided_itself held moment rest cs z.1)

-- ---- all answers of the meeting

module _ (k : MeetingKey) (own : Book) (is_own : IsOwn k own) (claims : List Claim) (fit : AreFitting k claims) (moment : ℤ) where
  abbrev t : List Part
  t = own.taken ++ parts_of claims

  abbrev asked_now : List Claim
  asked_now = asked own.taken t claims

  abbrev pub stayed : List SaidAnswer
  stayed = answers_in_view t (answers_in_view own.taken own.answers)

  asked_at : (claim : Claim) → Contains asked_now claim → Contains claims claim × (in_view t claim.part ≡ true)
  asked_at claim c =
      let n = new_answer own.taken t moment Accept claims (answer_to claim moment Accept) (map_from (λ (x : Claim). answer_to x moment Accept) asked_now claim c) in
      (n.among, n.seen)

  pub given_new : (asking : List (Bor Asking)) → map (λ claim. claim_said claim.now) asking ≡ asked_now → (held : List Part) → RepresentsHistory held t → (outcome : Outcome) (candidates given : List PartAnswer)
      → AllZip (λ claim given. IsAccepted held claim.now moment given) asking candidates → AllZip (λ candidate given. IsDecided candidate outcome given) candidates given
      → AllZip (HasAnswer k t) (answered moment (outcome_of outcome) asked_now) given
  given_new asking e held s outcome candidates given z w =
      subst (λ (l : List Claim). AllZip (HasAnswer k t) (answered moment (outcome_of outcome) l) given) e
      (given_each k t held s moment outcome asking candidates given
      (λ claim c.
      let at = asked_at (claim_said claim.now) (subst (λ (l : List Claim). Contains l (claim_said claim.now)) e (map_from (λ (x : Bor Asking). claim_said x.now) asking claim c)) in
      (fit.of_it (claim_said claim.now) at.0, at.1, fit.fit (claim_said claim.now) at.0))
      z w)

  -- those that stay, and those to the claims that are asked
  pub view_after : (outcome : messages.Outcome) → answers_in_view t (own.answers ++ answered moment outcome asked_now) ≡ stayed ++ answered moment outcome asked_now
  view_after outcome =
      let seen = λ (a : SaidAnswer). in_view t a.claim.part in
      let new = answered moment outcome asked_now in
      let old : answers_in_view t own.answers ≡ stayed = sym (filter_within seen (λ a. in_view own.taken a.claim.part) own.answers (λ a c v. view_back own.taken (parts_of claims) a.claim.part (is_own.known a c) v)) in
      let all : answers_in_view t new ≡ new = filter_all seen new (λ a c. (new_answer own.taken t moment outcome claims a c).seen) in
      filter-append seen own.answers new ∙ (λ i. old i ++ all i)

  pub given_after : (outcome : messages.Outcome) (kept given : List PartAnswer) → AreGiven k t stayed kept → AllZip (HasAnswer k t) (answered moment outcome asked_now) given
      → AreGiven k t (answers_in_view t (own.answers ++ answered moment outcome asked_now)) (kept ++ given)
  given_after outcome kept given z w =
      subst (λ (l : List SaidAnswer). AreGiven k t l (kept ++ given)) (sym (view_after outcome))
      (given_append k t stayed (answered moment outcome asked_now) kept given z (given_zip k t (answered moment outcome asked_now) given w))

  -- each of them is to a part in the view, and no two to one part
  stayed_at : (a : SaidAnswer) → Contains stayed a → Contains own.answers a × (in_view own.taken a.claim.part ≡ true) × (in_view t a.claim.part ≡ true)
  stayed_at a c =
      let outer = filter_at (λ (x : SaidAnswer). in_view t x.claim.part) (answers_in_view own.taken own.answers) a c in
      let inner = filter_at (λ (x : SaidAnswer). in_view own.taken x.claim.part) own.answers a outer.0 in
      (inner.0, inner.1, outer.1)

  abbrev candidates_said : List SaidAnswer
  candidates_said = answered moment Accept asked_now

  each_seen : (a : SaidAnswer) → Contains (stayed ++ candidates_said) a → IsSeen k t a
  each_seen a c = elim (Contains-append_cases stayed candidates_said a c) [
    | inl old ↦ let at = stayed_at a old in record { own = is_own.taken a.claim.part (is_own.known a at.0); seen = at.2; fit = is_own.fit a at.0 }
    | inr new ↦ let n = new_answer own.taken t moment Accept claims a new in record { own = fit.of_it a.claim n.among; seen = n.seen; fit = fit.fit a.claim n.among }
  ]

  parts_differ : Pairwise OtherPart own.answers → Pairwise OtherPart (stayed ++ candidates_said)
  parts_differ once =
      pairs_append OtherPart stayed candidates_said
      (pairs_filter OtherPart (λ a. in_view t a.claim.part) (answers_in_view own.taken own.answers) (pairs_filter OtherPart (λ a. in_view own.taken a.claim.part) own.answers once))
      (new_once moment Accept own.taken t claims fit.differ)
      (λ a b c d e. both_ways _ (new_answer own.taken t moment Accept claims b d).gone (subst (λ (p : Part). in_view own.taken p ≡ true) e (stayed_at a c).1))

  -- what the meeting would confirm, if they were accepted
  pub would_confirm : (kept candidates : List PartAnswer) → AreGiven k t stayed kept → AllZip (HasAnswer k t) candidates_said candidates
      → AreSame (singles_confirmed t (own.answers ++ candidates_said)) (instance_list k (all_singles kept ++ all_singles candidates))
  would_confirm kept candidates z w =
      subst (λ (l : List Single). AreSame (singles_confirmed t (own.answers ++ candidates_said)) (instance_list k l)) (flat_map-append (λ (g : PartAnswer). g.singles.items) kept candidates)
      (zip_confirms k t (own.answers ++ candidates_said) (kept ++ candidates) (given_after Accept kept candidates z w))

  -- and its series
  pub would_recur : (kept candidates : List PartAnswer) → AreGiven k t stayed kept → AllZip (HasAnswer k t) candidates_said candidates
      → AreSameSeries t (series_confirmed t (own.answers ++ candidates_said)) (series_list k (all_series kept ++ all_series candidates))
  would_recur kept candidates z w =
      subst (λ (l : List Series). AreSameSeries t (series_confirmed t (own.answers ++ candidates_said)) (series_list k l)) (flat_map-append (λ (g : PartAnswer). option_to_list g.series) kept candidates)
      (zip_recurs k t (own.answers ++ candidates_said) (kept ++ candidates) (given_after Accept kept candidates z w))

  slots_differ : Pairwise OtherPart own.answers → (kept candidates : List PartAnswer) → AreGiven k t stayed kept → AllZip (HasAnswer k t) candidates_said candidates
      → AllPairs ◌≢◌ (slots_of (all_singles kept ++ all_singles candidates))
  slots_differ once kept candidates z w =
      let order = z.order ++ candidates_said in
      let same = re_left candidates_said stayed z.order z.same in
      let confirms : singles_confirmed t order ≡ instance_list k (all_singles kept ++ all_singles candidates) =
      given_confirms k t order (kept ++ candidates) (zip_both (HasAnswer k t) z.order kept candidates_said candidates z.each w) ∙ ap (instance_list k) (flat_map-append (λ (g : PartAnswer). g.singles.items) kept candidates) in
      slots_apart k (all_singles kept ++ all_singles candidates)
      (subst (Pairwise OtherSlot) confirms
      (confirmed_apart k t order (λ a c. each_seen a (re_in order (stayed ++ candidates_said) (re_back (stayed ++ candidates_said) order same) a c))
      (re_pairs OtherPart (λ a b d e. d (sym e)) (stayed ++ candidates_said) order same (parts_differ once))))

  -- its instances are of one meeting
  pub of_one_meeting : Pairwise OtherPart own.answers → (kept candidates : List PartAnswer) → AreGiven k t stayed kept → AllZip (HasAnswer k t) candidates_said candidates
      → AreOfOneMeeting (all_singles kept ++ all_singles candidates) (all_series kept ++ all_series candidates)
  of_one_meeting once kept candidates z w =
      let order = z.order ++ candidates_said in
      let same = re_left candidates_said stayed z.order z.same in
      let zipped = zip_both (HasAnswer k t) z.order kept candidates_said candidates z.each w in
      let singles = all_singles kept ++ all_singles candidates in
      let series = all_series kept ++ all_series candidates in
      let seen = λ (a : SaidAnswer) (c : Contains order a). each_seen a (re_in order (stayed ++ candidates_said) (re_back (stayed ++ candidates_said) order same) a c) in
      let apart = re_pairs OtherPart (λ a b d e. d (sym e)) (stayed ++ candidates_said) order same (parts_differ once) in
      let confirms : singles_confirmed t order ≡ instance_list k singles =
      given_confirms k t order (kept ++ candidates) zipped ∙ ap (instance_list k) (flat_map-append (λ (g : PartAnswer). g.singles.items) kept candidates) in
      let recurs : AreSameSeries t (series_confirmed t order) (series_list k series) =
      subst (λ (l : List Series). AreSameSeries t (series_confirmed t order) (series_list k l)) (flat_map-append (λ (g : PartAnswer). option_to_list g.series) kept candidates) (given_recurs k t order (kept ++ candidates) zipped) in
      record {
        differ = slots_differ once kept candidates z w;
        one = (let few = series_few k t order seen apart in let l = recurs.long in let m = length-map series (series_of k) in omega (arith, few, l, m));
        apart = λ single other of c d r.
            single_apart k t order seen apart (keyed_instance k single) (keyed_instance k other) (subst (λ (l : List Instance). Contains l (keyed_instance k single)) (sym confirms) (booked_from k singles single c))
            ((recurs.same (keyed_instance k other)).1 (series_of k of, map_from (series_of k) series of d, to_series k of other r));
      }
