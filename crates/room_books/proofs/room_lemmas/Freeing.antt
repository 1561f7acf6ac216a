-- Whether an instance that a room had confirmed isn't any more, from what becomes of the answers of one meeting.
-- Cited by Room::settled, Room::answered, Room::take_claims, Room::take.
use Rattle.std.proofs.Common.{◌≡◌, ◌≢◌, ◌∙◌, ℤ, Bool, true, false, not, ◌||◌, cond, List, [], ◌∷◌, ◌++◌, length, inl, inr, Option, None, Some, refl, sym, ap, subst, arith}
use Rattle.std.specs.Prelude.{◌==◌, is_some}
use Rattle.std.specs.Option.{option_to_list}
use Rattle.std.specs.List.{AllPairs, Contains, IsDistinct}
use Rattle.std.specs.Map.{keys_of, lookup}
use Rattle.std.proofs.lemmas.Bool.{both_ways, cases_Bool, ne_eqb, true≢false}
use Rattle.std.proofs.lemmas.List.{length-map}
use Rattle.std.proofs.lemmas.List.Elements.{Contains-append_left}
use Rattle.std.proofs.lemmas.List.Sorted.{Contains-permutation, IsPermutation-sym}
use Rattle.std.proofs.lemmas.Map.Views.{lookup-from_Contains}
use Rattle.indexmap.specs.IndexMap.{insert_entry}
use Rattle.itip_order.proofs.Lists.{filter_at, in_cons, in_head, in_tail, none_in_nil}
use Rattle.cal_events.proofs.shared_lemmas.Distinct.{pairs_permuted}
use Rattle.cal_events.specs.declared.instance.Single.{Single}
use Rattle.cal_events.specs.declared.series.Series.{Series}
use Rattle.profile.specs.checker.Instances.{Instance}
use Rattle.profile.specs.events.Confirmed.{Confirmed, IsOneOf}
use Rattle.profile.specs.events.Events.{Event as Whole}
use Rattle.profile.specs.events.Starts.{IsInstance}
use Rattle.profile.specs.rooms.Revisions.{Part, in_view}
use Rattle.profile.specs.rooms.Rooms.{Book, Kind, PartAnswer as SaidAnswer, is_decision, series_confirmed, singles_confirmed}
use denote.Ref.{Bor}
use Rattle.room_books.specs.declared.claim.Claim.{Claim}
use Rattle.room_books.specs.declared.kept.Meeting.{Meeting}
use Rattle.room_books.specs.declared.meeting.MeetingKey.{MeetingKey}
use Rattle.room_books.specs.declared.meeting.Outcome.{Outcome}
use Rattle.room_books.specs.declared.meeting.PartAnswer.{PartAnswer}
use Rattle.room_books.specs.Gone.{IsPartedInto}
use Rattle.room_books.specs.Slots.{Reordered}
use Rattle.room_books.specs.Taking.{frees_then, AreAnswersDecided, AreOfOneMeeting, FreesOne, IsAmongBoth, SaysFreed}
use Rattle.room_books.specs.Meeting.{all_series, all_singles, confirmed_of, in_room, instance_list, keyed_instance, meeting_singles, recurring_of, same_key, series_by, series_list, series_of, singles_by, slots_of, AreFewer, SaysLossOfOne}
use Rattle.room_books.specs.Room.{is_of_meeting, answers_in_view, book_of, AreGiven, AreSameSeries, MeetsAt, Pairwise, Represents, TellsFreed}
use Rattle.room_books.proofs.room_lemmas.Entries.{key_laws, same_confirmed}
use Rattle.room_books.proofs.room_lemmas.Meetings.{key_from}
use Rattle.room_books.proofs.room_lemmas.OwnBook.{own_of}
use Rattle.room_books.proofs.room_lemmas.Putting.{booked_same, found_single}
use Rattle.room_books.proofs.room_lemmas.AllConfirmed.{found_series}
use Rattle.room_books.proofs.room_lemmas.PutSeries.{entry_put}
use Rattle.room_books.proofs.shared_lemmas.Confirms.{given_confirms, given_recurs}
use Rattle.room_books.proofs.shared_lemmas.Keys.{key_congr}
use Rattle.room_books.proofs.shared_lemmas.Leaving.{kept_within}
use Rattle.room_books.proofs.shared_lemmas.Pairs.{flat_at, flat_from, map_at, map_from, pairs_filter, pairs_from}
use Rattle.room_books.proofs.shared_lemmas.Parts.{pairs_across, pairs_to}
use Rattle.room_books.proofs.shared_lemmas.Places.{booked_differs, booked_from, in_booked, in_flat}
use Rattle.room_books.proofs.shared_lemmas.Rekeyed.{of_series, to_series}
use Rattle.room_books.proofs.shared_lemmas.Reordering.{re_back, re_flat, re_in, re_pairs}
use Rattle.room_books.proofs.shared_lemmas.SameSeries.{alike_from, alike_to}
use Rattle.room_books.proofs.shared_lemmas.SlotsApart.{IsSeen, OtherPart, OtherSlot, confirmed_apart, series_few, single_apart, slots_apart, unmapped}

-- ---- of one meeting

abbrev OtherStart : Single → Single → Type 0
OtherStart a b = a.slot ≢ b.slot

-- none of these is kept where their original starts differ
gone_isn't_kept : (singles gone kept : List Single) → IsPartedInto singles gone kept → AllPairs ◌≢◌ (slots_of singles) → (s : Single) → Contains gone s → Contains kept s → ⊥
gone_isn't_kept singles gone kept parted differ s c d =
    let pairs = pairs_permuted OtherStart (λ a b h e. h (sym e)) singles (gone ++ kept) parted (slots_pairs singles differ) in
    pairs_across OtherStart gone kept (pairs_to OtherStart (gone ++ kept) pairs) s s c d refl
  where
    slots_pairs : (xs : List Single) → AllPairs ◌≢◌ (slots_of xs) → AllPairs OtherStart xs
    slots_pairs xs h = pairs_from OtherStart xs (unmapped ◌≢◌ (λ (x : Single). x.slot) xs (pairs_to ◌≢◌ (slots_of xs) h))

module _ (singles gone kept : List Single) (series still : List Series) (sheds : Bool) (parted : IsPartedInto singles gone kept) (fewer : AreFewer series still) (lost : SaysLossOfOne sheds series still) where
  none_gone : gone ≡ [] → (s : Single) → Contains singles s → Contains kept s
  none_gone e s c = subst (λ (l : List Single). Contains (l ++ kept) s) e (Contains-permutation singles (gone ++ kept) s parted c)

  free_one : (x : Bool) → sheds ≡ x → (l : List Single) → gone ≡ l → (x || not (length l == 0)) ≡ true → AreOfOneMeeting singles series → FreesOne singles kept series still
  free_one true e l g t one =
      let loss = subst (λ (b : Bool). SaysLossOfOne b series still) e lost one.one in
      record {
        single = loss.single;
        was = inr loss.was;
        gone = λ again. elim again [
          | inl c ↦ one.apart loss.single loss.single loss.was.0 (kept_within singles gone kept parted loss.single c) loss.was.1 loss.was.2 refl
          | inr r ↦ loss.gone r
        ];
      }
  free_one false e [] g t one = absurd (true≢false (sym t))
  free_one false e (s ∷ l) g t one =
      let among : Contains gone s = subst (λ (xs : List Single). Contains xs s) (sym g) (in_head s l) in
      let was = Contains-permutation (gone ++ kept) singles s (IsPermutation-sym singles (gone ++ kept) parted) (Contains-append_left gone kept s among) in
      record {
        single = s;
        was = inl was;
        gone = λ again. elim again [
          | inl c ↦ gone_isn't_kept singles gone kept parted one.differ s among c
          | inr r ↦ (let b = fewer.within s r in one.apart s s b.0 was b.1 b.2 refl)
        ];
      }

  keep_all : (x : Bool) → sheds ≡ x → (l : List Single) → gone ≡ l → (x || not (length l == 0)) ≡ false → AreOfOneMeeting singles series → (s : Single) → IsAmongBoth singles series s → IsAmongBoth kept still s
  keep_all true e l g f one s was = absurd (true≢false f)
  keep_all false e (x ∷ l) g f one s was = absurd (both_ways _ f (ap not (ne_eqb (length (x ∷ l)) 0 (λ none. omega (arith, none)))))
  keep_all false e [] g f one s (inl c) = inl (none_gone g s c)
  keep_all false e [] g f one s (inr r) = inr (subst (λ (b : Bool). SaysLossOfOne b series still) e lost one.one s r)

  pub kept_says : (frees : Bool) → frees ≡ (sheds || not (length gone == 0)) → SaysFreed false frees singles kept series still
  kept_says frees e = record {
    undecided = λ t. refl;
    freed = λ t one. free_one sheds refl gone refl (sym e ∙ t) one;
    kept = λ f d one. keep_all sheds refl gone refl (sym e ∙ f) one;
  }

-- where something is decided, it is told of nothing
decided_says : (singles left : List Single) (series still : List Series) → SaysFreed true false singles left series still
decided_says singles left series still = record {
  undecided = λ t. absurd (true≢false (sym t));
  freed = λ t one. absurd (true≢false (sym t));
  kept = λ f d. absurd (true≢false d);
}

-- the same answers in another order
among_back : (a b : List PartAnswer) → Reordered a b → (s : Single) → IsAmongBoth (all_singles b) (all_series b) s → IsAmongBoth (all_singles a) (all_series a) s
among_back a b same s (inl c) = inl (re_in (all_singles b) (all_singles a) (re_flat (λ (g : PartAnswer). g.singles.items) b a (re_back a b same)) s c)
among_back a b same s (inr r) = inr (r.0, re_in (all_series b) (all_series a) (re_flat (λ (g : PartAnswer). option_to_list g.series) b a (re_back a b same)) r.0 r.1, r.2)

pub says_reordered : (decided frees : Bool) (singles : List Single) (series : List Series) (a b : List PartAnswer) → Reordered a b → SaysFreed decided frees singles (all_singles a) series (all_series a)
    → SaysFreed decided frees singles (all_singles b) series (all_series b)
says_reordered decided frees singles series a b same h = record {
  undecided = h.undecided;
  freed = λ t one. (let f = h.freed t one in record { single = f.single; was = f.was; gone = λ again. f.gone (among_back a b same f.single again) });
  kept = λ f d one s was. among_back b a (re_back a b same) s (h.kept f d one s was);
}

-- what is told of a meeting, where what it keeps is known, and what was decided
pub settled_says : (singles gone : List Single) (series : List Series) (kept answers : List PartAnswer) (sheds frees : Bool) (outcome : Option Outcome) → IsPartedInto singles gone (all_singles kept) → AreFewer series (all_series kept)
    → SaysLossOfOne sheds series (all_series kept) → frees ≡ frees_then outcome gone sheds → (outcome ≡ None → Reordered kept answers) → SaysFreed (is_some outcome) frees singles (all_singles answers) series (all_series answers)
settled_says singles gone series kept answers sheds frees None parted fewer lost e same =
    says_reordered false frees singles series kept answers (same refl) (kept_says singles gone (all_singles kept) series (all_series kept) sheds parted fewer lost frees e)
settled_says singles gone series kept answers sheds frees (Some outcome) parted fewer lost e same =
    subst (λ (b : Bool). SaysFreed true b singles (all_singles answers) series (all_series answers)) (sym e) (decided_says singles (all_singles answers) series (all_series answers))

-- where nothing was decided, the answers are those that stay
pub none_reordered : (others : Confirmed) (key : MeetingKey) (held : List Part) (moment : ℤ) (kept : List PartAnswer) (asked : List (Bor Claim)) (answers : List PartAnswer) (outcome : Option Outcome)
    → AreAnswersDecided others key held moment kept asked answers outcome → outcome ≡ None → Reordered kept answers
none_reordered others key held moment kept asked answers None decided e = decided.1
none_reordered others key held moment kept asked answers (Some outcome) decided e = absurd (cc)

-- ---- a meeting of a book is one

module _ (k : MeetingKey) (entries : List (MeetingKey × Meeting)) (book : Book) (st : Represents entries book) where
  abbrev own : Book
  own = book_of k book

  given_one : (given : List PartAnswer) → AreGiven k own.taken (answers_in_view own.taken own.answers) given → AreOfOneMeeting (all_singles given) (all_series given)
  given_one given z =
      let t = own.taken in
      let mine = own_of k entries book st in
      let shown = answers_in_view t own.answers in
      let seen : (a : SaidAnswer) → Contains z.order a → IsSeen k t a = λ a c.
      let at = filter_at (λ (x : SaidAnswer). in_view t x.claim.part) own.answers a (re_in z.order shown (re_back shown z.order z.same) a c) in
      record { own = mine.taken a.claim.part (mine.known a at.0); seen = at.1; fit = mine.fit a at.0 } in
      let once = pairs_filter OtherPart (λ (a : SaidAnswer). in_view t a.claim.part) own.answers (pairs_filter OtherPart (λ (a : SaidAnswer). is_of_meeting k a.claim.part) book.answers st.once) in
      let apart = re_pairs OtherPart (λ a b d e. d (sym e)) shown z.order z.same once in
      let singles = all_singles given in
      let series = all_series given in
      let confirms : singles_confirmed t z.order ≡ instance_list k singles = given_confirms k t z.order given z.each in
      let recurs : AreSameSeries t (series_confirmed t z.order) (series_list k series) = given_recurs k t z.order given z.each in
      record {
        differ = slots_apart k singles (subst (Pairwise OtherSlot) confirms (confirmed_apart k t z.order seen apart));
        one = (let few = series_few k t z.order seen apart in let l = recurs.long in let m = length-map series (series_of k) in omega (arith, few, l, m));
        apart = λ single other of c d r.
            single_apart k t z.order seen apart (keyed_instance k single) (keyed_instance k other) (subst (λ (l : List Instance). Contains l (keyed_instance k single)) (sym confirms) (booked_from k singles single c))
            ((recurs.same (keyed_instance k other)).1 (series_of k of, map_from (series_of k) series of d, to_series k of other r));
      }

  at_one : (o : Option Meeting) → MeetsAt own k o → AreOfOneMeeting (singles_by o) (series_by o)
  at_one None m = record { differ = λ i j d l w. absurd (omega (arith, w)); one = omega arith; apart = λ single other of c. absurd (none_in_nil single c) }
  at_one (Some meeting) m = given_one meeting.answers.items m.answers

  pub is_one : AreOfOneMeeting (singles_by (lookup (same_key k) entries)) (series_by (lookup (same_key k) entries))
  is_one = at_one (lookup (same_key k) entries) (st.meets k)

-- ---- all meetings

-- the instance is one that an entry confirms
pub record IsGivenBy (es : List (MeetingKey × Meeting)) (booked : Instance) : Type 0 where
  pub entry : MeetingKey × Meeting
  pub among : Contains es entry
  pub single : Single
  pub given : IsAmongBoth (meeting_singles entry.1) (all_series entry.1.answers.items) single
  pub is : booked ≡ keyed_instance entry.0 single

given_in : (es : List (MeetingKey × Meeting)) (b : Instance) → IsOneOf (in_room es) b → IsGivenBy es b
given_in es b (inl c) =
    let f = in_flat es b c in
    let s = in_booked f.0.0 (meeting_singles f.0.1) b f.2 in
    record { entry = f.0; among = f.1; single = s.0; given = inl s.1; is = sym s.2 }
given_in es b (inr (one, c, is)) =
    let f = flat_at recurring_of es one c in
    let s = map_at (series_of f.0.0) (all_series f.0.1.answers.items) one f.2 in
    let x = of_series f.0.0 s.0 b (subst (λ (w : Whole). IsInstance w b) (sym s.2) is) in
    record { entry = f.0; among = f.1; single = x.0; given = inr (s.0, s.1, x.1); is = x.2 }

given_to : (es : List (MeetingKey × Meeting)) (b : Instance) → IsGivenBy es b → IsOneOf (in_room es) b
given_to es b g = subst (IsOneOf (in_room es)) (sym g.is) (by g.given)
  where
    by : IsAmongBoth (meeting_singles g.entry.1) (all_series g.entry.1.answers.items) g.single → IsOneOf (in_room es) (keyed_instance g.entry.0 g.single)
    by (inl c) = inl (flat_from confirmed_of es g.entry (keyed_instance g.entry.0 g.single) g.among (booked_from g.entry.0 (meeting_singles g.entry.1) g.single c))
    by (inr (s, c, r)) = inr (
      series_of g.entry.0 s,
      flat_from recurring_of es g.entry (series_of g.entry.0 s) g.among (map_from (series_of g.entry.0) (all_series g.entry.1.answers.items) s c),
      to_series g.entry.0 s g.single r,
    )

module _ (k : MeetingKey) (m : Meeting) where
  -- the others stay
  other_there : (es : List (MeetingKey × Meeting)) (e : MeetingKey × Meeting) → Contains es e → same_key k e.0 ≡ false → Contains (insert_entry same_key es k m) e
  other_there [] e c other = absurd (none_in_nil e c)
  other_there (x ∷ es) e c other = at_test (same_key k x.0) refl (λ there. other_there es e there other)
    where
      at_test : (b : Bool) → same_key k x.0 ≡ b → (Contains es e → Contains (insert_entry same_key es k m) e) → Contains (cond b ((x.0, m) ∷ es) (x ∷ insert_entry same_key es k m)) e
      at_test true own later = elim (in_cons x es e c) [
        | inl here ↦ absurd (both_ways _ other (sym (ap (λ (z : MeetingKey × Meeting). same_key k z.0) here) ∙ own))
        | inr there ↦ in_tail (x.0, m) es e there
      ]
      at_test false differs later = elim (in_cons x es e c) [
        | inl here ↦ subst (Contains (x ∷ insert_entry same_key es k m)) here (in_head x (insert_entry same_key es k m))
        | inr there ↦ in_tail x (insert_entry same_key es k m) e (later there)
      ]

  -- and it is there itself
  own_there : (es : List (MeetingKey × Meeting)) → (q : MeetingKey) × Contains (insert_entry same_key es k m) (q, m) × (same_key k q ≡ true)
  own_there [] = (k, in_head (k, m) [], key_from k k refl refl)
  own_there (x ∷ es) = at_test (same_key k x.0) refl (own_there es)
    where
      at_test : (b : Bool) → same_key k x.0 ≡ b → (q : MeetingKey) × Contains (insert_entry same_key es k m) (q, m) × (same_key k q ≡ true)
          → (q : MeetingKey) × Contains (cond b ((x.0, m) ∷ es) (x ∷ insert_entry same_key es k m)) (q, m) × (same_key k q ≡ true)
      at_test true own rest = (x.0, in_head (x.0, m) es, own)
      at_test false differs rest = (rest.0, in_tail x (insert_entry same_key es k m) (rest.0, m) rest.1, rest.2)

module _ (k : MeetingKey) (m : Meeting) (es : List (MeetingKey × Meeting)) (distinct : IsDistinct same_key (keys_of es)) where
  abbrev now : List (MeetingKey × Meeting)
  now = insert_entry same_key es k m

  abbrev was : Option Meeting
  was = lookup (same_key k) es

  -- what is found of the meeting is an entry
  found : (s : Single) → IsAmongBoth (singles_by was) (series_by was) s → (e : MeetingKey × Meeting) × Contains es e × (same_key k e.0 ≡ true) × IsAmongBoth (meeting_singles e.1) (all_series e.1.answers.items) s
  found s (inl c) = let x = found_single k es s c in (x.0, x.1, x.2, inl x.3)
  found s (inr (series, c, r)) = let x = found_series k es series c in (x.0, x.1, x.2, inr (series, x.3, r))

  found_at : (e : MeetingKey × Meeting) → Contains es e → same_key k e.0 ≡ true → was ≡ Some e.1
  found_at e c own = (λ i. lookup (λ z. key_congr k e.0 z own i) es) ∙ lookup-from_Contains key_laws e.0 e.1 es distinct c

  module _ (decided frees : Bool) (says : SaysFreed decided frees (singles_by was) (meeting_singles m) (series_by was) (all_series m.answers.items)) (one : AreOfOneMeeting (singles_by was) (series_by was)) where
    keeps : frees ≡ false → decided ≡ false → (b : Instance) → IsGivenBy es b → IsGivenBy now b
    keeps f d b g = elim (cases_Bool (same_key k g.entry.0)) [
      | inl own ↦
          let at = found_at g.entry g.among own in
          let s = says.kept f d one g.single (subst (λ (o : Option Meeting). IsAmongBoth (singles_by o) (series_by o) g.single) (sym at) g.given) in
          let q = own_there k m es in
          record { entry = (q.0, m); among = q.1; single = g.single; given = s; is = g.is ∙ sym (booked_same k g.entry.0 g.single own) ∙ booked_same k q.0 g.single q.2 }
      | inr other ↦ record { entry = g.entry; among = other_there k m es g.entry g.among other; single = g.single; given = g.given; is = g.is }
    ]

    one_goes : frees ≡ true → (b : Instance) × IsGivenBy es b × (IsGivenBy now b → ⊥)
    one_goes t =
        let f = says.freed t one in
        let e = found f.single f.was in (
          keyed_instance k f.single,
          record { entry = e.0; among = e.1; single = f.single; given = e.3; is = booked_same k e.0.0 f.single e.2 },
          (λ g. elim (entry_put k m es distinct g.entry g.among) [
            | inl own ↦ f.gone (subst (IsAmongBoth (meeting_singles m) (all_series m.answers.items)) (sym (same_single k g.entry.0 f.single g.single own.1 g.is)) (subst (λ (z : Meeting). IsAmongBoth (meeting_singles z) (all_series z.answers.items) g.single) own.0 g.given))
            | inr other ↦ booked_differs k g.entry.0 f.single g.single other.1 (ap (λ (z : Instance). z.key) (sym g.is))
          ]),
        )
      where
        same_single : (k q : MeetingKey) (a b : Single) → same_key k q ≡ true → keyed_instance k a ≡ keyed_instance q b → a ≡ b
        same_single k q a b own e = λ i. record { slot = (e i).key.slot; span = record { start = (e i).start; end = (e i).end } }

    -- so it is told of any books that the meetings represent
    pub tells_freed : (kind : Kind) (before after : Book) → is_decision kind ≡ decided → Represents es before → Represents now after → IsDistinct same_key (keys_of now) → TellsFreed kind frees before after
    tells_freed kind before after d st st' distinct' =
        let first = same_confirmed es before st distinct in
        let second = same_confirmed now after st' distinct' in
        record {
          undecided = λ t. d ∙ says.undecided t;
          freed = λ t. (let o = one_goes t in record {
            booked = o.0;
            was = alike_from before (in_room es) first o.0 (given_to es o.0 o.1);
            gone = λ again. o.2 (given_in now o.0 (alike_to after (in_room now) second o.0 again));
          });
          kept = λ f n b c. alike_from after (in_room now) second b (given_to now b (keeps f (sym d ∙ n) b (given_in es b (alike_to before (in_room es) first b c))));
        }

-- where nothing was taken, all is confirmed that was
pub nothing_freed : (es : List (MeetingKey × Meeting)) (kind : Kind) (frees : Bool) (before after : Book) → IsDistinct same_key (keys_of es) → frees ≡ false → Represents es before → Represents es after → TellsFreed kind frees before after
nothing_freed es kind frees before after distinct f st st' = record {
  undecided = λ t. absurd (true≢false (sym t ∙ f));
  freed = λ t. absurd (true≢false (sym t ∙ f));
  kept = λ g n b c. alike_from after (in_room es) (same_confirmed es after st' distinct) b (alike_to before (in_room es) (same_confirmed es before st distinct) b c);
}
