-- What the meetings keep is what their book does.
-- Cited by calendar_of.
use Rattle.std.proofs.Common.{◌≡◌, ◌≢◌, ℕ, Bool, true, false, not, ◌&&◌, ◌||◌, cond, List, [], ◌∷◌, ◌++◌, map, inl, inr, refl, sym, ap, ◌∙◌, subst}
use Rattle.std.specs.Prelude.{if◌then◌else◌}
use Rattle.std.specs.declared.cmp.Ordering.TheVariants.{Less, Equal}
use Rattle.std.specs.Ordering.{is_lt, is_eq, ordering_then}
use Rattle.std.specs.List.{Contains, flat_map, filter, AllZip, IsDistinct}
use Rattle.std.specs.Map.{keys_of, values_of}
use Rattle.std.specs.Option.{option_to_list}
use Rattle.std.proofs.lemmas.Bool.{and_parts, and_from, true≢false, false_from_ne_true}
use Rattle.std.proofs.lemmas.List.{map-append}
use Rattle.ical_values.proofs.Facts.{is_lt_true}
use Rattle.itip_order.specs.Registers.{is_ascending, shown, IsView}
use Rattle.itip_order.proofs.Lasting.{view_one, view_taken}
use Rattle.itip_order.proofs.Lists.{in_cons, in_head, in_tail, none_in_nil, all_at, filter_at, filter_from}
use Rattle.itip_order.proofs.Order.{is_eq_true}
use Rattle.itip_order.proofs.Registers.{ascending_filter, view_of_registers}
use Rattle.profile.specs.rooms.Kept.{KeptComponent, Shown, Hidden, part_kept, IsKept, IsKeptComponent, AreKeptOf, AreKept, IsKeptEvent, first_parts, zone_kept}
use Rattle.profile.specs.rooms.Messages.{Content}
use Rattle.profile.specs.rooms.Revisions.{Part, Slot, Whole, in_view, is_whole, meeting_cmp, place_cmp, same_meeting, slot_cmp}
use Rattle.profile.specs.rooms.Rooms.{Claim, PartAnswer, Book, is_accept, is_confirmed, is_set}
use Rattle.room_books.specs.declared.meeting.MeetingKey.{MeetingKey}
use Rattle.room_books.specs.declared.kept.Meeting.{Meeting}
use Rattle.room_books.specs.Meeting.{same_key}
use Rattle.room_books.specs.Room.{Pairwise, IsBodyText, SlotDated, is_of_meeting, of_meeting, answers_of, book_of, answers_in_view, Meets, AreKeysOf, Represents}
use Rattle.room_books.specs.Taking.{body_content}
use Rattle.room_books.specs.Texts.{IsEntryEvent, accepted_slots, has_slot, kept_entry_of, has_accepted_part, is_hiding, kept_in, all_kept, zone_of_entry}
use Rattle.room_books.proofs.shared_lemmas.Arrivals.{key_meeting}
use Rattle.room_books.proofs.room_lemmas.Entries.{meeting_at}
use Rattle.room_books.proofs.shared_lemmas.Givens.{given_from, given_to}
use Rattle.room_books.proofs.shared_lemmas.Loops.{zip_both, zip_to, zip_from}
use Rattle.room_books.proofs.room_lemmas.Meetings.{same_place_of, view_of}
use Rattle.room_books.proofs.shared_lemmas.Pairs.{pairs_from, map_at, map_from, flat_at, flat_from}
use Rattle.room_books.proofs.shared_lemmas.AcceptedSlots.{accepted_from, accepted_at, slot_same}

-- ---- answers and their claims

-- no two of these are to one part
pub one_answer : (xs : List PartAnswer) (a b : PartAnswer) → Pairwise (λ a b. a.claim.part ≢ b.claim.part) xs → Contains xs a → Contains xs b → a.claim.part ≡ b.claim.part → a ≡ b
one_answer [] a b p c d e = absurd (none_in_nil a c)
one_answer (x ∷ xs) a b p c d e = elim (in_cons x xs a c) [
  | inl here ↦ elim (in_cons x xs b d) [
    | inl both ↦ sym here ∙ both
    | inr later ↦ absurd (p.0 b later (ap (λ (z : PartAnswer). z.claim.part) here ∙ e))
  ]
  | inr there ↦ elim (in_cons x xs b d) [
    | inl first ↦ absurd (p.0 a there (ap (λ (z : PartAnswer). z.claim.part) first ∙ sym e))
    | inr both ↦ one_answer xs a b p.1 there both e
  ]
]

-- the book has an answer that confirms the part
abbrev HasAnswer : Book → Part → Type 0
HasAnswer book p = (a : PartAnswer) × Contains book.answers a × (is_confirmed book.taken a ≡ true) × (a.claim.part ≡ p)

-- the entry is that of the part, shown by an answer of the book, or hiding
IsOfEntry : Book → KeptComponent → Bool × Part → Type 0
IsOfEntry book entry (true, part) = (h : HasAnswer book part) × (entry ≡ Shown h.0.claim)
IsOfEntry book entry (false, part) = entry ≡ Hidden part

part_there : (book : Book) (entry : KeptComponent) (b : Bool) (part : Part) → IsOfEntry book entry (b, part) → part_kept entry ≡ part
unfolding IsOfEntry
part_there book entry true part (h, is) = ap part_kept is ∙ h.3
part_there book entry false part is = ap part_kept is

entries_for : (book : Book) (ps : List (Bool × Part)) → ((p : Part) → Contains ps (true, p) → HasAnswer book p) → (entries : List KeptComponent) × AllZip (IsOfEntry book) entries ps
unfolding IsOfEntry
entries_for book [] h = ([], tt)
entries_for book ((true, p) ∷ ps) h =
    let a = h p (in_head (true, p) ps) in
    let rest = entries_for book ps (λ q c. h q (in_tail (true, p) ps (true, q) c)) in
    (Shown a.0.claim ∷ rest.0, ((a, refl), rest.1))
entries_for book ((false, p) ∷ ps) h =
    let rest = entries_for book ps (λ q c. h q (in_tail (false, p) ps (true, q) c)) in
    (Hidden p ∷ rest.0, (refl, rest.1))

-- ---- the order of slots

place_less : (key : MeetingKey) (p q : Part) → is_of_meeting key p ≡ true → is_of_meeting key q ≡ true → is_lt (place_cmp p q) ≡ true → slot_cmp p.slot q.slot ≡ Less
place_less key p q e f l =
    let equal : meeting_cmp p q ≡ Equal = is_eq_true _ (sym (key_meeting key p q e) ∙ f) in
    is_lt_true (slot_cmp p.slot q.slot) (sym (ap (λ o. is_lt (ordering_then o (slot_cmp p.slot q.slot))) equal) ∙ l)

abbrev Rises : KeptComponent → KeptComponent → Type 0
Rises a b = slot_cmp (part_kept a).slot (part_kept b).slot ≡ Less

abbrev parts_in : List (Bool × Part) → List Part
parts_in ps = map (λ p. p.1) ps

entries_rise : (book : Book) (key : MeetingKey) (entries : List KeptComponent) (ps : List (Bool × Part)) → AllZip (IsOfEntry book) entries ps → is_ascending (parts_in ps) ≡ true → ((p : Part) → Contains (parts_in ps) p → is_of_meeting key p ≡ true) → Pairwise Rises entries
entries_rise book key [] ps z up own = tt
entries_rise book key (c ∷ cs) [] z up own = absurd z
entries_rise book key (c ∷ cs) ((b, p) ∷ ps) z up own =
    let both = and_parts _ _ up in (
      λ d in_cs.
          let other = zip_to (IsOfEntry book) cs ps d z.1 in_cs in
          let q = other.0.1 in
          let in_ps : Contains (parts_in ps) q = map_from (λ (x : Bool × Part). x.1) ps other.0 other.1 in
          let less = place_less key p q (own p (in_head p (parts_in ps))) (own q (in_tail p (parts_in ps) q in_ps)) (all_at (λ later. is_lt (place_cmp p later)) (parts_in ps) q both.0 in_ps) in
          (λ i. slot_cmp (part_there book c b p z.0 i).slot (part_there book d other.0.0 q other.2 i).slot) ∙ less,
      entries_rise book key cs ps z.1 both.1 (λ q k. own q (in_tail p (parts_in ps) q k)),
    )

-- ---- what is kept of a part

-- where something is, it is that part, shown or hiding
entry_at : (hides shown : Bool) (x : Part) (b : Bool) (p : Part) → Contains (kept_entry_of hides shown x) (b, p) → (x ≡ p) × (shown ≡ b) × (b ≡ false → (hides ≡ true) × (is_whole x ≡ false))
entry_at hides true x b p c = elim (in_cons (true, x) [] (b, p) c) [
  | inl here ↦ (ap (λ (e : Bool × Part). e.1) here, ap (λ (e : Bool × Part). e.0) here, λ f. absurd (true≢false (ap (λ (e : Bool × Part). e.0) here ∙ f)))
  | inr none ↦ absurd (none_in_nil (b, p) none)
]
entry_at false false x b p c = absurd (none_in_nil (b, p) c)
entry_at true false x b p c = by_whole (is_whole x) refl c
  where
    by_whole : (w : Bool) → is_whole x ≡ w → Contains {X = Bool × Part} (if not w then (false, x) ∷ [] else []) (b, p) → (x ≡ p) × (false ≡ b) × (b ≡ false → (true ≡ true) × (is_whole x ≡ false))
    by_whole true e k = absurd (none_in_nil (b, p) k)
    by_whole false e k = elim (in_cons (false, x) [] (b, p) k) [
      | inl here ↦ (ap (λ (y : Bool × Part). y.1) here, ap (λ (y : Bool × Part). y.0) here, λ f. (refl, e))
      | inr none ↦ absurd (none_in_nil (b, p) none)
    ]

-- those of which something is kept
keeps : Bool → (Part → Bool) → Part → Bool
keeps hides f p = f p || (hides && not (is_whole p))

parts_kept : (hides : Bool) (f : Part → Bool) (xs : List Part) → parts_in (flat_map (λ p. kept_entry_of hides (f p) p) xs) ≡ filter (keeps hides f) xs
unfolding keeps
parts_kept hides f [] = refl
parts_kept hides f (x ∷ xs) =
    map-append (λ (e : Bool × Part). e.1) (kept_entry_of hides (f x) x) (flat_map (λ p. kept_entry_of hides (f p) p) xs)
    ∙ ap (λ l. parts_in (kept_entry_of hides (f x) x) ++ l) (parts_kept hides f xs) ∙ one (f x) hides (is_whole x) (filter (keeps hides f) xs)
  where
    one : (s h w : Bool) (rest : List Part) → parts_in (if s then (true, x) ∷ [] else (if h && not w then (false, x) ∷ [] else [])) ++ rest ≡ cond (s || (h && not w)) (x ∷ rest) rest
    one true h w rest = refl
    one false true true rest = refl
    one false true false rest = refl
    one false false w rest = refl

whole_slot : (q : Part) → is_whole q ≡ true → q.slot ≡ Whole
whole_slot q h = slot_same q.slot Whole h

-- ---- one meeting

module _ (entries : List (MeetingKey × Meeting)) (book : Book) (key : MeetingKey) (meeting : Meeting) (st : Represents entries book) (meets : Meets (book_of key book) key meeting) where
  own : List Part
  own = of_meeting key book.taken

  mine : List PartAnswer
  mine = answers_of key book.answers

  view : IsView (shown meeting.held) own
  unfolding own
  view = view_of_registers meeting.held own meets.held

  abbrev entry_in : Part → List (Bool × Part)
  entry_in p = kept_entry_of (is_hiding meeting) (has_accepted_part meeting p) p

  -- a confirmed answer's part is in the view, and accepted
  seen_from : (a : PartAnswer) → Contains book.answers a → is_of_meeting key a.claim.part ≡ true → is_confirmed book.taken a ≡ true → Contains (shown meeting.held) a.claim.part × (has_accepted_part meeting a.claim.part ≡ true)
  unfolding own mine
  seen_from a c o k =
      let both = and_parts _ _ k in
      let seen : in_view own a.claim.part ≡ true = view_of key book.taken a.claim.part o ∙ both.1 in
      let is_viewed = filter_from (λ x. in_view own x.claim.part) mine a (filter_from (λ x. is_of_meeting key x.claim.part) book.answers a c o) seen in
      let g = given_to key own (answers_in_view own mine) meeting.answers.items a meets.answers is_viewed in (
        (view.exact a.claim.part).1 seen,
        accepted_from meeting.answers.items g.0 a.claim.part.slot g.1 g.2.slot (ap is_accept g.2.outcome ∙ both.0),
      )

  shown_own : (p : Part) → Contains (shown meeting.held) p → is_of_meeting key p ≡ true
  unfolding own
  shown_own p c = (filter_at (is_of_meeting key) book.taken p (view_taken own p ((view.exact p).0 c))).1

  -- an accepted slot has a confirmed answer
  slot_answer : (slot : Slot) → has_slot (accepted_slots meeting.answers.items) slot ≡ true → (a : PartAnswer) × Contains book.answers a × (is_confirmed book.taken a ≡ true) × (a.claim.part.slot ≡ slot) × (is_of_meeting key a.claim.part ≡ true) × (in_view own a.claim.part ≡ true)
  unfolding own mine
  slot_answer slot h =
      let g = accepted_at meeting.answers.items slot h in
      let z = given_from key own (answers_in_view own mine) meeting.answers.items g.0 meets.answers g.1 in
      let a = z.0 in
      let is_viewed = filter_at (λ x. in_view own x.claim.part) mine a z.1 in
      let of_it = filter_at (λ x. is_of_meeting key x.claim.part) book.answers a is_viewed.0 in
      (a, of_it.0, and_from _ _ (sym (ap is_accept z.2.outcome) ∙ g.3) (sym (view_of key book.taken a.claim.part of_it.1) ∙ is_viewed.1), sym z.2.slot ∙ g.2, of_it.1, is_viewed.1)

  -- and so has an accepted part
  kept_at : (p : Part) → Contains (shown meeting.held) p → has_accepted_part meeting p ≡ true → HasAnswer book p
  unfolding own
  kept_at p c h =
      let found = slot_answer p.slot h in
      let seen : in_view own p ≡ true = (view.exact p).0 c in
      let same = view_one own found.0.claim.part p found.5 seen (same_place_of key found.0.claim.part p found.4 (shown_own p c) found.3) in
      (found.0, found.1, found.2, same)

  at_entry : (b : Bool) (p : Part) → Contains (kept_in meeting) (b, p) → Contains (shown meeting.held) p × (has_accepted_part meeting p ≡ b) × (b ≡ false → (is_hiding meeting ≡ true) × (is_whole p ≡ false))
  at_entry b p c =
      let found = flat_at entry_in (shown meeting.held) (b, p) c in
      let e = entry_at (is_hiding meeting) (has_accepted_part meeting found.0) found.0 b p found.2 in (
        subst (λ (q : Part). Contains (shown meeting.held) q) e.0 found.1,
        sym (ap (has_accepted_part meeting) e.0) ∙ e.1,
        λ f. let more = e.2 f in (more.0, sym (ap is_whole e.0) ∙ more.1),
      )

  -- a stamp writes its slot
  entry_dated : (b : Bool) (p : Part) → Contains (kept_in meeting) (b, p) → SlotDated p.slot
  unfolding own
  entry_dated b p c =
      let seen = (at_entry b p c).0 in st.dated p (filter_at (is_of_meeting key) book.taken p (view_taken own p ((view.exact p).0 seen))).0

  from_entry : (b : Bool) (p : Part) → Contains (shown meeting.held) p → Contains (entry_in p) (b, p) → Contains (kept_in meeting) (b, p)
  from_entry b p c d = flat_from entry_in (shown meeting.held) p (b, p) c d

  meeting_entries : (es : List KeptComponent) × AllZip (IsOfEntry book) es (kept_in meeting)
  meeting_entries = entries_for book (kept_in meeting) (λ p c. let e = at_entry true p c in kept_at p e.0 e.1)

  -- the whole that is kept, where others hide instances of it
  whole_kept : (first : Part) → is_of_meeting key first ≡ true → is_hiding meeting ≡ true → (claim : Claim) × IsKept book first claim × (is_whole claim.part ≡ true)
  whole_kept first of_first h =
      let found = slot_answer Whole h in (
        found.0.claim,
        record { of_meeting = sym (key_meeting key first found.0.claim.part of_first) ∙ found.4; answer = found.0; given = found.1; to = refl; confirms = found.2 },
        ap (λ s. is_eq (slot_cmp s Whole)) found.3,
      )

  meeting_kept : (first : Part) → is_of_meeting key first ≡ true → (es : List KeptComponent) → AllZip (IsOfEntry book) es (kept_in meeting) → AreKeptOf book first es
  unfolding own IsOfEntry keeps
  meeting_kept first of_first es z = record {
    exact = λ entry. (to entry, from entry);
    order = pairs_from Rises es
        (entries_rise book key es (kept_in meeting) z
        (subst (λ (l : List Part). is_ascending l ≡ true) (sym (parts_kept (is_hiding meeting) (has_accepted_part meeting) (shown meeting.held)))
        (ascending_filter (keeps (is_hiding meeting) (has_accepted_part meeting)) (shown meeting.held) view.ascending))
        (λ p c. let found = map_at (λ (e : Bool × Part). e.1) (kept_in meeting) p c in
        subst (λ (q : Part). is_of_meeting key q ≡ true) found.2 (shown_own found.0.1 (at_entry found.0.0 found.0.1 found.1).0)));
  }
    where
      of_same : {q p : Part} → same_meeting first p ≡ true → q ≡ p → same_meeting first q ≡ true
      of_same h e = subst (λ (x : Part). same_meeting first x ≡ true) (sym e) h

      of_shown : (claim : Claim) → IsKept book first claim → Contains (shown meeting.held) claim.part × (has_accepted_part meeting claim.part ≡ true)
      of_shown claim k =
          let part = ap (λ (c : Claim). c.part) k.to in
          let of_it : is_of_meeting key k.answer.claim.part ≡ true = subst (λ (q : Part). is_of_meeting key q ≡ true) (sym part) (key_meeting key first claim.part of_first ∙ k.of_meeting) in
          subst (λ (q : Part). Contains (shown meeting.held) q × (has_accepted_part meeting q ≡ true)) part (seen_from k.answer k.given of_it k.confirms)

      to_of : (entry : KeptComponent) (b : Bool) (p : Part) → Contains (kept_in meeting) (b, p) → IsOfEntry book entry (b, p) → IsKeptComponent book first entry
      to_of entry true p c (h, is) =
          subst (IsKeptComponent book first) (sym is)
          (record {
            of_meeting = sym (key_meeting key first h.0.claim.part of_first) ∙ subst (λ (q : Part). is_of_meeting key q ≡ true) (sym h.3) (shown_own p (at_entry true p c).0);
            answer = h.0;
            given = h.1;
            to = refl;
            confirms = h.2;
          })
      to_of entry false p c is =
          let e = at_entry false p c in
          let more = e.2 refl in
          let whole = whole_kept first of_first more.0 in
          subst (IsKeptComponent book first) (sym is)
          (record {
            of_meeting = sym (key_meeting key first p of_first) ∙ shown_own p e.0;
            viewed = sym (view_of key book.taken p (shown_own p e.0)) ∙ (view.exact p).0 e.0;
            instance = more.1;
            not_accepted = λ claim k same. true≢false (sym (of_shown claim k).1 ∙ ap (has_accepted_part meeting) same ∙ e.1);
            whole = whole.0;
            kept = whole.1;
            is_whole = whole.2;
          })

      to : (entry : KeptComponent) → Contains es entry → IsKeptComponent book first entry
      to entry c = let p = zip_to (IsOfEntry book) es (kept_in meeting) entry z c in to_of entry p.0.0 p.0.1 p.1 p.2

      from : (entry : KeptComponent) → IsKeptComponent book first entry → Contains es entry
      from (Shown claim) k =
          let there = of_shown claim k in
          let own_entry : Contains (entry_in claim.part) (true, claim.part) = subst (λ (b : Bool). Contains (kept_entry_of (is_hiding meeting) b claim.part) (true, claim.part)) (sym there.1) (in_head (true, claim.part) []) in
          let p = zip_from (IsOfEntry book) es (kept_in meeting) (true, claim.part) z (from_entry true claim.part there.0 own_entry) in
          let same = one_answer book.answers p.2.0.0 k.answer st.once p.2.0.1 k.given (p.2.0.3 ∙ sym (ap (λ (c : Claim). c.part) k.to)) in
          subst (Contains es) (p.2.1 ∙ ap Shown (ap (λ (a : PartAnswer). a.claim) same ∙ k.to)) p.1
      from (Hidden part) k =
          let of_it : is_of_meeting key part ≡ true = key_meeting key first part of_first ∙ k.of_meeting in
          let seen : Contains (shown meeting.held) part = (view.exact part).1 (view_of key book.taken part of_it ∙ k.viewed) in
          let not_it : has_accepted_part meeting part ≡ false = false_from_ne_true _ (λ yes.
          let a = kept_at part seen yes in
          k.not_accepted a.0.claim (record { of_meeting = of_same k.of_meeting a.3; answer = a.0; given = a.1; to = refl; confirms = a.2 }) a.3) in
          let whole = of_shown k.whole k.kept in
          let hides : is_hiding meeting ≡ true = ap (has_slot (accepted_slots meeting.answers.items)) (sym (whole_slot k.whole.part k.is_whole)) ∙ whole.1 in
          let own_entry : Contains (entry_in part) (false, part) =
          subst (λ (b : Bool). Contains (kept_entry_of (is_hiding meeting) b part) (false, part)) (sym not_it)
          (subst (λ (h : Bool). Contains {X = Bool × Part} (if h && not (is_whole part) then (false, part) ∷ [] else []) (false, part)) (sym hides)
          (subst (λ (w : Bool). Contains {X = Bool × Part} (if true && not w then (false, part) ∷ [] else []) (false, part)) (sym k.instance) (in_head (false, part) []))) in
          let p = zip_from (IsOfEntry book) es (kept_in meeting) (false, part) z (from_entry false part seen own_entry) in
          subst (Contains es) p.2 p.1

-- ---- all meetings

abbrev ByMeeting : Book → List (MeetingKey × Meeting) → List Part → Type 0
ByMeeting book es firsts = (by : List (List KeptComponent)) × AllZip (AreKeptOf book) firsts by × AllZip (IsOfEntry book) (flat_map (λ c. c) by) (all_kept (values_of es))

by_meeting : (entries : List (MeetingKey × Meeting)) (book : Book) → Represents entries book → (es : List (MeetingKey × Meeting)) (firsts : List Part) → AreKeysOf (keys_of es) firsts
    → ((e : MeetingKey × Meeting) → Contains es e → Meets (book_of e.0 book) e.0 e.1) → ByMeeting book es firsts
by_meeting entries book st [] [] z m = ([], tt, tt)
by_meeting entries book st [] (p ∷ ps) z m = absurd z
by_meeting entries book st (e ∷ es) [] z m = absurd z
by_meeting entries book st (e ∷ es) (p ∷ ps) z m =
    let meets = m e (in_head e es) in
    let own = meeting_entries entries book e.0 e.1 st meets in
    let rest = by_meeting entries book st es ps z.1 (λ x c. m x (in_tail e es x c)) in (
      own.0 ∷ rest.0,
      (meeting_kept entries book e.0 e.1 st meets p z.0 own.0 own.1, rest.1),
      zip_both (IsOfEntry book) own.0 (kept_in e.1) (flat_map (λ c. c) rest.0) (all_kept (values_of es)) own.1 rest.2,
    )

event_of : (room : List ℕ) (zones : List (List ℕ)) (entries : List (MeetingKey × Meeting)) (book : Book) → Represents entries book → (entry : KeptComponent) (b : Bool) (part : Part) (lines : List (List ℕ)) → SlotDated part.slot → IsOfEntry book entry (b, part)
    → IsEntryEvent room zones (b, part) lines → IsKeptEvent room zones entry lines
unfolding IsOfEntry
event_of room zones entries book st entry true part lines dated (h, is) event =
    let fit = st.fit h.0 h.1 in
    subst (λ (x : KeptComponent). IsKeptEvent room zones x lines) (sym is)
    (event h.0.claim h.3 (fit.content ∙ ap (λ (q : Part). body_content q.body) h.3) (sym (ap is_set h.3) ∙ st.set h.0 h.1) (subst (λ (q : Part). IsBodyText q.body) h.3 fit.text) dated)
event_of room zones entries book st entry false part lines dated is event = subst (λ (x : KeptComponent). IsKeptEvent room zones x lines) (sym is) (event dated)

-- an entry's zone is that of its part
zone_of : (entries : List (MeetingKey × Meeting)) (book : Book) → Represents entries book → (entry : KeptComponent) (b : Bool) (part : Part) → IsOfEntry book entry (b, part) → zone_kept entry ≡ zone_of_entry (b, part)
unfolding IsOfEntry
zone_of entries book st entry true part (h, is) =
    ap zone_kept is ∙ ap (λ (c : Content). option_to_list c.zone) ((st.fit h.0 h.1).content ∙ ap (λ (q : Part). body_content q.body) h.3)
zone_of entries book st entry false part is = ap zone_kept is

zones_of : (entries : List (MeetingKey × Meeting)) (book : Book) → Represents entries book → (kept : List KeptComponent) (ps : List (Bool × Part)) → AllZip (IsOfEntry book) kept ps → flat_map zone_kept kept ≡ flat_map zone_of_entry ps
zones_of entries book st [] [] z = refl
zones_of entries book st [] (p ∷ ps) z = absurd z
zones_of entries book st (k ∷ ks) [] z = absurd z
zones_of entries book st (k ∷ ks) ((b, p) ∷ ps) z = λ i. zone_of entries book st k b p z.0 i ++ zones_of entries book st ks ps z.1 i

-- what is written is what the room keeps
pub all_are_kept : (room : List ℕ) (zones : List (List ℕ)) (entries : List (MeetingKey × Meeting)) (book : Book) → Represents entries book → IsDistinct same_key (keys_of entries) → (events : List (List (List ℕ)))
    → AllZip (IsEntryEvent room zones) (all_kept (values_of entries)) events
    → (kept : List KeptComponent) × AreKept book kept × AllZip (IsKeptEvent room zones) kept events × (flat_map zone_kept kept ≡ flat_map zone_of_entry (all_kept (values_of entries)))
all_are_kept room zones entries book st distinct events z =
    let all = by_meeting entries book st entries (first_parts book.taken) st.order (meeting_at entries book st distinct) in
    let kept = flat_map (λ c. c) all.0 in (
      kept,
      record { by_meeting = all.0; each = all.1; are = refl },
      shown_all kept (all_kept (values_of entries)) events (λ p c. in_book p c) all.2 z,
      zones_of entries book st kept (all_kept (values_of entries)) all.2,
    )
  where
    in_book : (p : Bool × Part) → Contains (all_kept (values_of entries)) p → SlotDated p.1.slot
    in_book p c =
        let found = flat_at kept_in (values_of entries) p c in
        let e = map_at (λ (x : MeetingKey × Meeting). x.1) entries found.0 found.1 in
        entry_dated entries book e.0.0 e.0.1 st (meeting_at entries book st distinct e.0 e.1) p.0 p.1 (subst (λ (m : Meeting). Contains (kept_in m) p) (sym e.2) found.2)

    shown_all : (kept : List KeptComponent) (ps : List (Bool × Part)) (events : List (List (List ℕ))) → ((p : Bool × Part) → Contains ps p → SlotDated p.1.slot) → AllZip (IsOfEntry book) kept ps → AllZip (IsEntryEvent room zones) ps events → AllZip (IsKeptEvent room zones) kept events
    shown_all [] [] events dated y z = z
    shown_all [] (p ∷ ps) events dated y z = absurd y
    shown_all (k ∷ ks) [] events dated y z = absurd y
    shown_all (k ∷ ks) (p ∷ ps) [] dated y z = absurd z
    shown_all (k ∷ ks) ((b, p) ∷ ps) (e ∷ es) dated y z =
        (event_of room zones entries book st k b p e (dated (b, p) (in_head (b, p) ps)) y.0 z.0, shown_all ks ps es (λ q c. dated q (in_tail (b, p) ps q c)) y.1 z.1)
