-- The room after the claims of a message represents the book after the step, and its reply shows what that book has.
-- Cited by Room::take_claims.
use Rattle.std.proofs.Common.{◌≡◌, ◌≢◌, ℕ, ℤ, ◌<◌, Bool, true, false, not, ◌&&◌, cond, List, [], ◌∷◌, ◌++◌, inl, inr, Option, None, Some, refl, sym, ap, ◌∙◌, subst, length, append-nil, append_assoc, arith}
use Rattle.std.specs.Prelude.{◌==◌, IsTrue, option_map}
use Rattle.std.specs.List.{AllZip, Contains, filter}
use Rattle.std.specs.Map.{keys_of, lookup}
use Rattle.std.proofs.lemmas.Bool.{both_ways, cases_Bool, false_from_ne_true}
use Rattle.std.proofs.lemmas.List.Elements.{filter-append, Contains-append_cases}
use Rattle.indexmap.specs.IndexMap.{insert_entry}
use Rattle.itip_order.proofs.Lists.{in_head, in_tail, filter_at}
use Rattle.profile.specs.rooms.Revisions.{Part, in_view}
use Rattle.profile.specs.rooms.Rooms.{Claim, PartAnswer, Book, Kind, is_set, parts_of, asked, answered, series_confirmed, shown}
use Rattle.profile.specs.rooms.Kept.{Replies, Refreshes, ShowsAnswer, first_parts}
use Rattle.itip_order.specs.Registers.{RepresentsHistory}
use Rattle.room_books.specs.Taking.{HasHistory}
use Rattle.room_books.proofs.room_lemmas.Afters.{has_history}
use Rattle.room_books.specs.declared.meeting.MeetingKey.{MeetingKey}
use Rattle.room_books.specs.declared.kept.Meeting.{Meeting}
use Rattle.std.specs.Option.{option_to_list}
use Rattle.profile.specs.events.EventComponents.{EventComponent}
use Rattle.cal_events.specs.Series.{series_said}
use Rattle.cal_events.specs.declared.series.Series.{Series}
use Rattle.room_books.specs.Meeting.{same_key, series_of, series_list}
use Rattle.room_books.specs.Room.{SlotDated, is_of_meeting, AreFitting, AreSameSeries, of_meeting, answers_of, book_of, IsOwn, HasAnswer, Meets, MeetsAt, Covers, AreKeysOf, Represents, book_after, IsMeetingAfter, StepsWith}
use Rattle.room_books.proofs.shared_lemmas.Arrivals.{arrives}
use Rattle.room_books.proofs.room_lemmas.Meetings.{key_from, key_parts, is_of_same, one_meeting, of_more_other, filter_none, view_of}
use Rattle.room_books.proofs.shared_lemmas.Pairs.{pairs_append, map_at}
use Rattle.room_books.proofs.room_lemmas.Putting.{booked_list_same}
use Rattle.room_books.proofs.room_lemmas.OwnBook.{own_of, taken_own, wants_own}
use Rattle.room_books.proofs.laws_lemmas.Runs.{IsNew, new_answer, step_sound}
use Rattle.room_books.proofs.shared_lemmas.SlotsApart.{OtherPart, new_once}
use Rattle.room_books.proofs.shared_lemmas.Views.{view_back}

abbrev Entries : Type 0
Entries = List (MeetingKey × Meeting)

-- ---- the order of first arrival

-- a meeting that is put in twice is where it was
insert_twice : (es : Entries) (k : MeetingKey) (m : Meeting) → insert_entry same_key (insert_entry same_key es k m) k m ≡ insert_entry same_key es k m
insert_twice [] k m = ap (λ b. cond b ((k, m) ∷ []) ((k, m) ∷ (k, m) ∷ [])) (key_from k k refl refl)
insert_twice (e ∷ es) k m = at_test (same_key k e.0) refl (insert_twice es k m)
  where
    at_test : (b : Bool) → same_key k e.0 ≡ b → insert_entry same_key (insert_entry same_key es k m) k m ≡ insert_entry same_key es k m
        → insert_entry same_key (cond b ((e.0, m) ∷ es) (e ∷ insert_entry same_key es k m)) k m ≡ cond b ((e.0, m) ∷ es) (e ∷ insert_entry same_key es k m)
    at_test true own h = ap (λ b. cond b ((e.0, m) ∷ es) ((e.0, m) ∷ insert_entry same_key es k m)) own
    at_test false other h = ap (λ b. cond b ((e.0, m) ∷ insert_entry same_key es k m) (e ∷ insert_entry same_key (insert_entry same_key es k m) k m)) other ∙ ap (λ l. e ∷ l) h

-- more parts of a meeting that is there move none
arrive_more : (es : Entries) (ts ps : List Part) (k : MeetingKey) (m : Meeting) → ((p : Part) → Contains ps p → is_of_meeting k p ≡ true) → AreKeysOf (keys_of (insert_entry same_key es k m)) (first_parts ts)
    → AreKeysOf (keys_of (insert_entry same_key es k m)) (first_parts (ts ++ ps))
arrive_more es ts [] k m own z = subst (λ (l : List Part). AreKeysOf (keys_of (insert_entry same_key es k m)) (first_parts l)) (sym (append-nil ts)) z
arrive_more es ts (p ∷ ps) k m own z =
    let one = arrives (insert_entry same_key es k m) ts k m p (own p (in_head p ps)) z in
    let here = subst (λ (l : Entries). AreKeysOf (keys_of l) (first_parts (ts ++ p ∷ []))) (insert_twice es k m) one in
    subst (λ (l : List Part). AreKeysOf (keys_of (insert_entry same_key es k m)) (first_parts l)) (append_assoc ts (p ∷ []) ps) (arrive_more es (ts ++ p ∷ []) ps k m (λ q c. own q (in_tail p ps q c)) here)

-- the meetings stay in order of first arrival, where the parts of some claims of this meeting are taken
pub arrive_all : (es : Entries) (ts : List Part) (k : MeetingKey) (m : Meeting) (claims : List Claim) → 0 < length claims → AreFitting k claims → AreKeysOf (keys_of es) (first_parts ts)
    → AreKeysOf (keys_of (insert_entry same_key es k m)) (first_parts (ts ++ parts_of claims))
arrive_all es ts k m [] some fit z = absurd (omega (arith, some))
arrive_all es ts k m (c ∷ cs) some fit z =
    let first = arrives es ts k m c.part (fit.of_it c (in_head c cs)) z in
    subst (λ (l : List Part). AreKeysOf (keys_of (insert_entry same_key es k m)) (first_parts l)) (append_assoc ts (c.part ∷ []) (parts_of cs))
    (arrive_more es (ts ++ c.part ∷ []) (parts_of cs) k m (λ q d. let f = map_at (λ (x : Claim). x.part) cs q d in subst (λ (x : Part). is_of_meeting k x ≡ true) f.2 (fit.of_it f.0 (in_tail c cs f.0 f.1))) first)

-- ---- the meeting by another spelling of its key

zip_weaker : {X Y : Type 0} (R Q : X → Y → Type 0) (xs : List X) (ys : List Y) → ((x : X) (y : Y) → R x y → Q x y) → AllZip R xs ys → AllZip Q xs ys
zip_weaker R Q [] [] h z = tt
zip_weaker R Q [] (y ∷ ys) h z = absurd z
zip_weaker R Q (x ∷ xs) [] h z = absurd z
zip_weaker R Q (x ∷ xs) (y ∷ ys) h z = (h x y z.0, zip_weaker R Q xs ys h z.1)

book_same : (k q : MeetingKey) (book : Book) → same_key k q ≡ true → book_of k book ≡ book_of q book
book_same k q book e = λ i. record {
  taken = filter (λ p. is_of_same k q p e i) book.taken;
  answers = filter (λ a. is_of_same k q a.claim.part e i) book.answers;
}

-- a series of one meeting is the same however its name is spelled
pub series_same : (k q : MeetingKey) (series : List Series) → same_key k q ≡ true → series_list k series ≡ series_list q series
series_same k q [] e = refl
series_same k q (s ∷ series) e =
    let parts = key_parts k q e in
    let first : series_of k s ≡ series_of q s = λ i. record {
      master = option_map (λ (event : EventComponent). record event { uid = parts.1 i; organiser = Some (parts.0 i) }) (series_said s).master;
      overrides = [];
    } in
    let rest = series_same k q series e in
    λ i. first i ∷ rest i

meets_same : (k q : MeetingKey) (book : Book) (m : Meeting) → same_key k q ≡ true → Meets (book_of k book) k m → Meets (book_of q book) q m
meets_same k q book m e h = subst (λ (own : Book). Meets own q m) (book_same k q book e) record {
  held = h.held;
  answers = record {
    order = h.answers.order;
    same = h.answers.same;
    each = zip_weaker (HasAnswer k (of_meeting k book.taken)) (HasAnswer q (of_meeting k book.taken)) h.answers.order m.answers.items
        (λ a g r. record { slot = r.slot; moment = r.moment; outcome = r.outcome; confirms = sym (booked_list_same k q g.singles.items e) ∙ r.confirms; recurs = subst (AreSameSeries (of_meeting k book.taken) (series_confirmed (of_meeting k book.taken) (a ∷ []))) (series_same k q (option_to_list g.series) e) r.recurs }) h.answers.each;
  };
  answered = h.answered;
  dated = h.dated;
}

-- ---- the room after it

module _ (entries entries' : Entries) (book : Book) (k : MeetingKey) (claims : List Claim) (moment : ℤ) (kind : Kind) (m : Meeting)
    (st : Represents entries book) (fit : AreFitting k claims) (after : IsMeetingAfter book k claims moment kind m)
    (order : AreKeysOf (keys_of entries') (first_parts (book.taken ++ parts_of claims)))
    (updates : (q : MeetingKey) → lookup (same_key q) entries' ≡ cond (same_key k q) (Some m) (lookup (same_key q) entries)) where
  abbrev taken : List Part
  taken = book.taken ++ parts_of claims

  abbrev new : List PartAnswer
  new = answered moment after.outcome (asked book.taken taken claims)

  abbrev later : Book
  later = book_after book claims moment after.outcome

  is_new : (a : PartAnswer) → Contains new a → IsNew book.taken taken claims a
  is_new a c = new_answer book.taken taken moment after.outcome claims a c

  of_k : (p : Part) → Contains (parts_of claims) p → is_of_meeting k p ≡ true
  of_k p c = let f = map_at (λ (x : Claim). x.part) claims p c in subst (λ (x : Part). is_of_meeting k x ≡ true) f.2 (fit.of_it f.0 f.1)

  found_at : (q : MeetingKey) (b : Bool) → same_key k q ≡ b → lookup (same_key q) entries' ≡ cond b (Some m) (lookup (same_key q) entries)
  found_at q b e = updates q ∙ ap (λ t. cond t (Some m) (lookup (same_key q) entries)) e

  covers : (part : Part) → Covers entries part → Covers entries' part
  covers part c = elim (cases_Bool (same_key k c.key)) [
    | inl e ↦ record { key = c.key; meeting = m; found = found_at c.key true e; is = c.is }
    | inr d ↦ record { key = c.key; meeting = c.meeting; found = found_at c.key false d ∙ c.found; is = c.is }
  ]

  covers_new : (part : Part) → Contains (parts_of claims) part → Covers entries' part
  covers_new part c = record { key = k; meeting = m; found = found_at k true (key_from k k refl refl); is = of_k part c }

  -- an old answer and a new one are to different parts
  across : (x y : PartAnswer) → Contains book.answers x → Contains new y → x.claim.part ≢ y.claim.part
  across x y old fresh e =
      let n = is_new y fresh in
      let before : Contains book.taken y.claim.part = subst (λ (p : Part). Contains book.taken p) e (st.known x old) in
      both_ways _ n.gone (view_back book.taken (parts_of claims) y.claim.part before n.seen)

  -- of another meeting nothing has changed
  other_part : (q : MeetingKey) → same_key k q ≡ false → (p : Part) → is_of_meeting k p ≡ true → is_of_meeting q p ≡ false
  other_part q d p own = false_from_ne_true _ (λ e. both_ways _ d (one_meeting k q p own e))

  other_book : (q : MeetingKey) → same_key k q ≡ false → book_of q later ≡ book_of q book
  other_book q d =
      let parts : of_meeting q taken ≡ of_meeting q book.taken = of_more_other q book.taken (parts_of claims) (λ p c. other_part q d p (of_k p c)) in
      let none : answers_of q new ≡ [] = filter_none (λ a. is_of_meeting q a.claim.part) new (λ a c. other_part q d a.claim.part (fit.of_it a.claim (is_new a c).among)) in
      let answers : answers_of q (book.answers ++ new) ≡ answers_of q book.answers =
      filter-append (λ a. is_of_meeting q a.claim.part) book.answers new ∙ ap (λ l. answers_of q book.answers ++ l) none ∙ append-nil (answers_of q book.answers) in
      λ i. record { taken = parts i; answers = answers i }

  meets_now : (q : MeetingKey) → MeetsAt (book_of q later) q (lookup (same_key q) entries')
  meets_now q = elim (cases_Bool (same_key k q)) [
    | inl e ↦ subst (MeetsAt (book_of q later) q) (sym (found_at q true e)) (meets_same k q later m e after.meets)
    | inr d ↦ subst (MeetsAt (book_of q later) q) (sym (found_at q false d)) (subst (λ (own : Book). MeetsAt own q (lookup (same_key q) entries)) (sym (other_book q d)) (st.meets q))
  ]

  represents_now : Represents entries' later
  represents_now =
      let sound = step_sound book claims moment after.outcome later after.step record { known = st.known; good = record { clear = st.clear; few = st.few } } in
      record {
        order = order;
        covered = λ part c. elim (Contains-append_cases book.taken (parts_of claims) part c) [ inl old ↦ covers part (st.covered part old) | inr fresh ↦ covers_new part fresh ];
        known = sound.known;
        set = λ a c. elim (Contains-append_cases book.answers new a c) [ inl old ↦ st.set a old | inr fresh ↦ (is_new a fresh).set ];
        fit = λ a c. elim (Contains-append_cases book.answers new a c) [ inl old ↦ st.fit a old | inr fresh ↦ fit.fit a.claim (is_new a fresh).among ];
        dated = λ part c. elim (Contains-append_cases book.taken (parts_of claims) part c) [
          | inl old ↦ st.dated part old
          | inr fresh ↦ let found = map_at (λ (x : Claim). x.part) claims part fresh in subst (λ (x : Part). SlotDated x.slot) found.2 (fit.dated found.0 found.1)
        ];
        once = pairs_append OtherPart book.answers new st.once (new_once moment after.outcome book.taken taken claims fit.differ) across;
        clear = sound.good.clear;
        few = sound.good.few;
        meets = meets_now;
      }

-- ---- the reply

-- a part is shown in a book where it is in its meeting's
shown_own : (k : MeetingKey) (h : List Part) (claims : List Claim) → ((c : Claim) → Contains claims c → is_of_meeting k c.part ≡ true) → shown (of_meeting k h) claims ≡ shown h claims
shown_own k h [] own = refl
shown_own k h (c ∷ cs) own =
    ap (λ b. cond (is_set c.part && b) (c ∷ shown (of_meeting k h) cs) (shown (of_meeting k h) cs)) (view_of k h c.part (own c (in_head c cs)))
    ∙ ap (λ l. cond (is_set c.part && in_view h c.part) (c ∷ l) l) (shown_own k h cs (λ x d. own x (in_tail c cs x d)))

shows_all : (room : List ℕ) (k : MeetingKey) (book : Book) (claim : Claim) (lines : List (List ℕ)) → ShowsAnswer room (book_of k book) claim lines → ShowsAnswer room book claim lines
shows_all room k book claim lines s = record {
  answer = s.answer;
  kept = (filter_at (λ (x : PartAnswer). is_of_meeting k x.claim.part) book.answers s.answer s.kept).0;
  of_part = s.of_part;
  shows = s.shows;
}

-- what shows the answers of the meeting's own book shows those of the whole book
replies_all : (room : List ℕ) (k : MeetingKey) (book : Book) (claims : List Claim) (reply : Option (List ℕ)) → ((c : Claim) → Contains claims c → is_of_meeting k c.part ≡ true) → Replies room (book_of k book) claims reply
    → Replies room book claims reply
replies_all room k book claims None own r = sym (shown_own k book.taken claims own) ∙ r
replies_all room k book claims (Some octets) own r =
    let same = shown_own k book.taken claims own in (
      subst (λ (l : List Claim). IsTrue (not (length l == 0))) same r.0,
      record {
        events = r.1.events;
        each = subst (λ (l : List Claim). AllZip (ShowsAnswer room book) l r.1.events) same
            (zip_weaker (ShowsAnswer room (book_of k book)) (ShowsAnswer room book) (shown (of_meeting k book.taken) claims) r.1.events (shows_all room k book) r.1.each);
        is = r.1.is;
      },
    )

-- the whole is wanted by the meeting's own parts where it is by all
refreshes_all : (room : List ℕ) (k : MeetingKey) (book : Book) (claims : List Claim) → AreFitting k claims → (adds : Bool) (moment : ℤ) (refresh : Option (List ℕ))
    → Refreshes room adds (of_meeting k book.taken) (of_meeting k book.taken ++ parts_of claims) claims moment refresh → Refreshes room adds book.taken (book.taken ++ parts_of claims) claims moment refresh
refreshes_all room k book claims fit adds moment None r = sym (wants_own k book claims fit adds) ∙ r
refreshes_all room k book claims fit adds moment (Some octets) r = (sym (wants_own k book claims fit adds) ∙ r.0, r.1)

-- the meetings with that after the claims put in its place represent the book after them
pub now_represents : (entries entries' : Entries) (book : Book) (k : MeetingKey) (claims : List Claim) (moment : ℤ) (kind : Kind) (m : Meeting) → 0 < length claims
    → Represents entries book → AreFitting k claims → (after : IsMeetingAfter book k claims moment kind m) → entries' ≡ insert_entry same_key entries k m
    → ((q : MeetingKey) → lookup (same_key q) entries' ≡ cond (same_key k q) (Some m) (lookup (same_key q) entries))
    → Represents entries' (book_after book claims moment after.outcome)
now_represents entries entries' book k claims moment kind m some st fit after put updates =
    let order : AreKeysOf (keys_of entries') (first_parts (book.taken ++ parts_of claims)) =
    subst (λ (l : Entries). AreKeysOf (keys_of l) (first_parts (book.taken ++ parts_of claims))) (sym put) (arrive_all entries book.taken k m claims some fit st.order) in
    represents_now entries entries' book k claims moment kind m st fit after order updates

-- from the meeting after the claims, put in its place, and the reply by its own book
pub claims_step : (room : List ℕ) (entries entries' : Entries) (book : Book) (k : MeetingKey) (claims : List Claim) (moment : ℤ) (kind : Kind) (m : Meeting) (reply : Option (List ℕ)) (adds : Bool) (refresh : Option (List ℕ)) → 0 < length claims
    → Represents entries book → AreFitting k claims → IsMeetingAfter book k claims moment kind m → entries' ≡ insert_entry same_key entries k m
    → ((q : MeetingKey) → lookup (same_key q) entries' ≡ cond (same_key k q) (Some m) (lookup (same_key q) entries))
    → ((own : Book) → IsOwn k own → Meets own k m → Replies room own claims reply)
    → ((before taken : List Part) → HasHistory (lookup (same_key k) entries) before → RepresentsHistory m.held taken → Refreshes room adds before taken claims moment refresh)
    → StepsWith room entries' book claims moment kind reply adds refresh
claims_step room entries entries' book k claims moment kind m reply adds refresh some st fit after put updates shows asks =
    let now : Book = book_after book claims moment after.outcome in
    let represents : Represents entries' now = now_represents entries entries' book k claims moment kind m some st fit after put updates in
    record {
      steps = record { outcome = after.outcome; after = now; step = after.step; represents = represents; kind_is = after.kind_is };
      replies = replies_all room k now claims reply fit.of_it (shows (book_of k now) (own_of k entries' now represents) after.meets);
      refreshes = refreshes_all room k book claims fit adds moment refresh
          (subst (λ (l : List Part). Refreshes room adds (of_meeting k book.taken) l claims moment refresh) (taken_own k book claims fit)
          (asks (of_meeting k book.taken) (of_meeting k now.taken) (has_history k (book_of k book) (lookup (same_key k) entries) (st.meets k)) after.meets.held));
    }
