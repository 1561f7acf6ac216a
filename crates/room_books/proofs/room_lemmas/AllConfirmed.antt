-- All that a room has confirmed, in series and singles: what of it a meeting keeps, and what all is once a meeting confirms something else.
-- Cited by Room::answers_after, Room::decide.
use Rattle.std.proofs.Common.{◌≡◌, ◌∙◌, ◌≤◌, ℕ, Bool, true, false, not, cond, List, [], ◌∷◌, ◌⊎◌, inl, inr, length, subst, sym, refl, ap, arith, length-append, Some}
use Rattle.std.specs.List.{Contains, IsDistinct, filter}
use Rattle.std.specs.Option.{option_to_list}
use Rattle.std.specs.Map.{lookup, keys_of}
use Rattle.std.proofs.lemmas.Bool.{and_from}
use Rattle.std.proofs.lemmas.List.{length-map}
use Rattle.std.proofs.lemmas.List.Elements.{Contains-append_left, Contains-append_right, Contains-append_cases}
use Rattle.std.proofs.lemmas.Map.Keys.{IsDistinct-tail, IsDistinct-head}
use Rattle.std.proofs.lemmas.Slice.Eq.{bytes_eq-Decides}
use Rattle.indexmap.specs.IndexMap.{insert_entry}
use Rattle.ical_values.specs.Octets.{address_octets, text_octets}
use Rattle.itip_order.proofs.Lists.{none_in_nil, in_head, in_tail, in_cons, filter_at}
use Rattle.profile.specs.checker.Instances.{Instance}
use Rattle.profile.specs.events.Events.{Event as Whole}
use Rattle.profile.specs.events.Starts.{IsInstance}
use Rattle.profile.specs.events.Confirmed.{Confirmed, IsInSeries, IsOneOf}
use Rattle.profile.specs.rooms.Rooms.{most_series}
use Rattle.cal_events.specs.declared.instance.Single.{Single}
use Rattle.cal_events.specs.declared.series.Series.{Series}
use Rattle.room_books.specs.declared.kept.Meeting.{Meeting}
use Rattle.room_books.specs.declared.meeting.PartAnswer.{PartAnswer}
use Rattle.room_books.specs.declared.meeting.MeetingKey.{MeetingKey}
use Rattle.room_books.specs.Slots.{Reordered}
use Rattle.room_books.specs.Gone.{IsPartedInto}
use Rattle.room_books.specs.Taking.{MayJoinAll}
use Rattle.room_books.specs.Meeting.{all_recurring, all_series, all_singles, beside, instance_list, in_room, is_other, joined, meeting_singles, other_recurring, others, recurring_of, same_key, series_by, series_list, series_of, singles_by, AreFewer, IsClearIn, RecursIn, SeriesMayJoin}
use Rattle.room_books.proofs.shared_lemmas.Leaving.{kept_within}
use Rattle.room_books.proofs.shared_lemmas.Pairs.{flat_at, flat_from, map_at, map_from}
use Rattle.room_books.proofs.shared_lemmas.Places.{in_booked, booked_from, no_others, other_series_count}
use Rattle.room_books.proofs.room_lemmas.Putting.{booked_same, kept_in, put_same}
use Rattle.room_books.proofs.shared_lemmas.Rekeyed.{of_series, to_series}
use Rattle.room_books.proofs.shared_lemmas.Reordering.{re_back, re_flat, re_in, re_length}

-- what is clear, and all that is among it
pub clear_within : (less more : Confirmed) → ((b : Instance) → IsOneOf less b → IsOneOf more b) → IsClearIn more → IsClearIn less
clear_within less more within clear a b t x y c = clear a b t (within a x) (within b y) c

-- ---- what a meeting keeps

found_at : (k : MeetingKey) (e : MeetingKey × Meeting) (es : List (MeetingKey × Meeting)) (s : Series) (t : Bool) → same_key k e.0 ≡ t → Contains (series_by (cond t (Some e.1) (lookup (same_key k) es))) s
    → (Contains (series_by (lookup (same_key k) es)) s → (x : MeetingKey × Meeting) × Contains es x × (same_key k x.0 ≡ true) × Contains (all_series x.1.answers.items) s)
    → (x : MeetingKey × Meeting) × Contains (e ∷ es) x × (same_key k x.0 ≡ true) × Contains (all_series x.1.answers.items) s
found_at k e es s true same c h = (e, in_head e es, same, c)
found_at k e es s false other c h = let r = h c in (r.0, in_tail e es r.0 r.1, r.2, r.3)

-- a series that a look-up finds is of an entry of that meeting
pub found_series : (k : MeetingKey) (es : List (MeetingKey × Meeting)) (s : Series) → Contains (series_by (lookup (same_key k) es)) s
    → (x : MeetingKey × Meeting) × Contains es x × (same_key k x.0 ≡ true) × Contains (all_series x.1.answers.items) s
found_series k [] s c = absurd (none_in_nil s c)
found_series k (e ∷ es) s c = found_at k e es s (same_key k e.0) refl c (found_series k es s)

module _ (k : MeetingKey) (es : List (MeetingKey × Meeting)) (own : List Single) (kept : List Series) (singles : (s : Single) → Contains own s → Contains (singles_by (lookup (same_key k) es)) s)
    (series : (x : Single) → RecursIn kept x → RecursIn (series_by (lookup (same_key k) es)) x) where
  of_entry : (b : Instance) (e : MeetingKey × Meeting) (s : Series) → Contains es e → Contains (all_series e.1.answers.items) s → IsInstance (series_of e.0 s) b → IsInSeries (all_recurring es) b
  of_entry b e s c among is = (series_of e.0 s, flat_from recurring_of es e (series_of e.0 s) c (map_from (series_of e.0) (all_series e.1.answers.items) s among), is)

  kept_one : (b : Instance) → IsOneOf (joined (beside k es) k own kept) b → IsOneOf (in_room es) b
  kept_one b (inl c) = inl (kept_in k es own singles b c)
  kept_one b (inr (one, c, is)) = inr (elim (Contains-append_cases (other_recurring k es) (series_list k kept) one c) [
    | inl other ↦ (let f = flat_at recurring_of (filter (is_other k) es) one other in (one, flat_from recurring_of es f.0 one (filter_at (is_other k) es f.0 f.1).0 f.2, is))
    | inr mine ↦
        let s = map_at (series_of k) kept one mine in
        let x = of_series k s.0 b (subst (λ (w : Whole). IsInstance w b) (sym s.2) is) in
        let before = series x.0 (s.0, s.1, x.1) in
        let f = found_series k es before.0 before.1 in
        of_entry b f.0 before.0 f.1 f.3 (subst (IsInstance (series_of f.0.0 before.0)) (sym (x.2 ∙ booked_same k f.0.0 x.0 f.2)) (to_series f.0.0 before.0 x.0 before.2))
  ])

  -- what a meeting keeps is clear beside the others where all are
  pub kept_clear : IsClearIn (in_room es) → IsClearIn (joined (beside k es) k own kept)
  kept_clear clear = clear_within (joined (beside k es) k own kept) (in_room es) kept_one clear

-- and may be confirmed beside them
pub kept_series_join : (k : MeetingKey) (es : List (MeetingKey × Meeting)) (own : List Single) (kept : List Series) → IsDistinct same_key (keys_of es) → ((s : Single) → Contains own s → Contains (singles_by (lookup (same_key k) es)) s)
    → AreFewer (series_by (lookup (same_key k) es)) kept → IsClearIn (in_room es) → length (all_recurring es) ≤ most_series → SeriesMayJoin (beside k es) k own kept
kept_series_join k es own kept distinct singles fewer clear few = record {
  few = (let n = other_series_count k es distinct in let s = fewer.shorter in let m = length-map kept (series_of k) in omega (arith, n, s, m, few, length-append (other_recurring k es) (series_list k kept)));
  clear = kept_clear k es own kept singles fewer.within clear;
}

-- with the answers that it keeps
pub kept_all_join : (k : MeetingKey) (es : List (MeetingKey × Meeting)) (kept : List PartAnswer) → IsDistinct same_key (keys_of es) → (gone : List Single) → IsPartedInto (singles_by (lookup (same_key k) es)) gone (all_singles kept)
    → AreFewer (series_by (lookup (same_key k) es)) (all_series kept) → IsClearIn (in_room es) → (count : ℕ) → count ≡ length (all_recurring es) → count ≤ 64 → MayJoinAll (beside k es) k kept
kept_all_join k es kept distinct gone parted fewer clear count counted few =
    kept_series_join k es (all_singles kept) (all_series kept) distinct (kept_within (singles_by (lookup (same_key k) es)) gone (all_singles kept) parted) fewer clear (omega (arith, counted, few))

-- ---- once a meeting confirms something else

same_itself_key : (k : MeetingKey) → same_key k k ≡ true
same_itself_key k = and_from _ _ ((bytes_eq-Decides (address_octets k.organiser) (address_octets k.organiser)).1 refl) ((bytes_eq-Decides (text_octets k.uid) (text_octets k.uid)).1 refl)

module _ (k : MeetingKey) (m : Meeting) where
  -- an entry then is of another meeting, or this one
  abbrev IsEither : List (MeetingKey × Meeting) → MeetingKey × Meeting → Type 0
  IsEither others e = Contains others e ⊎ ((same_key k e.0 ≡ true) × (e.1 ≡ m))

  entry_at : (x : MeetingKey × Meeting) (es : List (MeetingKey × Meeting)) (e : MeetingKey × Meeting) (t : Bool) → same_key k x.0 ≡ t → IsDistinct same_key (keys_of (x ∷ es))
      → (Contains (insert_entry same_key es k m) e → IsEither (filter (is_other k) es) e) → Contains (cond t ((x.0, m) ∷ es) (x ∷ insert_entry same_key es k m)) e
      → IsEither (cond (not t) (x ∷ filter (is_other k) es) (filter (is_other k) es)) e
  entry_at x es e true same distinct h c = elim (in_cons (x.0, m) es e c) [
    | inl here ↦ inr (sym (ap (λ (z : MeetingKey × Meeting). same_key k z.0) here) ∙ same, sym (ap (λ (z : MeetingKey × Meeting). z.1) here))
    | inr there ↦ inl (subst (λ (l : List (MeetingKey × Meeting)). Contains l e) (sym (no_others k x.0 es same (IsDistinct-head same_key x.0 (keys_of es) distinct))) there)
  ]
  entry_at x es e false other distinct h c = elim (in_cons x (insert_entry same_key es k m) e c) [
    | inl here ↦ inl (subst (Contains (x ∷ filter (is_other k) es)) here (in_head x (filter (is_other k) es)))
    | inr there ↦ elim (h there) [ inl among ↦ inl (in_tail x (filter (is_other k) es) e among) | inr mine ↦ inr mine ]
  ]

  entry_now : (es : List (MeetingKey × Meeting)) (e : MeetingKey × Meeting) → IsDistinct same_key (keys_of es) → Contains (insert_entry same_key es k m) e → IsEither (filter (is_other k) es) e
  entry_now [] e distinct c = elim (in_cons (k, m) [] e c) [
    | inl here ↦ inr (sym (ap (λ (z : MeetingKey × Meeting). same_key k z.0) here) ∙ same_itself_key k, sym (ap (λ (z : MeetingKey × Meeting). z.1) here))
    | inr none ↦ absurd (none_in_nil e none)
  ]
  entry_now (x ∷ es) e distinct c = entry_at x es e (same_key k x.0) refl distinct (entry_now es e (IsDistinct-tail same_key x.0 (keys_of es) distinct)) c

  module _ (es : List (MeetingKey × Meeting)) (distinct : IsDistinct same_key (keys_of es)) where
    now_one : (b : Instance) → IsOneOf (in_room (insert_entry same_key es k m)) b → IsOneOf (joined (beside k es) k (meeting_singles m) (all_series m.answers.items)) b
    now_one b (inl c) = inl ((put_same k m es distinct).to b c)
    now_one b (inr (one, c, is)) =
        let f = flat_at recurring_of (insert_entry same_key es k m) one c in
        inr (elim (entry_now es f.0 distinct f.1) [
          | inl other ↦ (one, Contains-append_left (other_recurring k es) (series_list k (all_series m.answers.items)) one (flat_from recurring_of (filter (is_other k) es) f.0 one other f.2), is)
          | inr mine ↦
              let s = map_at (series_of f.0.0) (all_series f.0.1.answers.items) one f.2 in
              let x = of_series f.0.0 s.0 b (subst (λ (w : Whole). IsInstance w b) (sym s.2) is) in (
                series_of k s.0,
                Contains-append_right (other_recurring k es) (series_list k (all_series m.answers.items)) (series_of k s.0)
                    (map_from (series_of k) (all_series m.answers.items) s.0 (subst (λ (z : Meeting). Contains (all_series z.answers.items) s.0) mine.1 s.1)),
                subst (IsInstance (series_of k s.0)) (sym (x.2 ∙ sym (booked_same k f.0.0 x.0 mine.0))) (to_series k s.0 x.0 x.1),
              )
        ])

    -- all are clear where the others and its own are
    pub put_series_clear : IsClearIn (joined (beside k es) k (meeting_singles m) (all_series m.answers.items)) → IsClearIn (in_room (insert_entry same_key es k m))
    put_series_clear clear = clear_within (in_room (insert_entry same_key es k m)) (joined (beside k es) k (meeting_singles m) (all_series m.answers.items)) now_one clear

-- ---- in another order

module _ (others : Confirmed) (k : MeetingKey) (a b : List PartAnswer) (same : Reordered a b) where
  abbrev the_singles : PartAnswer → List Single
  the_singles g = g.singles.items

  abbrev the_series : PartAnswer → List Series
  the_series g = option_to_list g.series

  back_one : (x : Instance) → IsOneOf (joined others k (all_singles b) (all_series b)) x → IsOneOf (joined others k (all_singles a) (all_series a)) x
  back_one x (inl c) = inl (elim (Contains-append_cases others.singles (instance_list k (all_singles b)) x c) [
    | inl other ↦ Contains-append_left others.singles (instance_list k (all_singles a)) x other
    | inr mine ↦ (let s = in_booked k (all_singles b) x mine in
        Contains-append_right others.singles (instance_list k (all_singles a)) x (subst (Contains (instance_list k (all_singles a))) s.2
        (booked_from k (all_singles a) s.0 (re_in (all_singles b) (all_singles a) (re_flat the_singles b a (re_back a b same)) s.0 s.1))))
  ])
  back_one x (inr (one, c, is)) = inr (
    one,
    elim (Contains-append_cases others.series (series_list k (all_series b)) one c) [
      | inl other ↦ Contains-append_left others.series (series_list k (all_series a)) one other
      | inr mine ↦ (let s = map_at (series_of k) (all_series b) one mine in
          Contains-append_right others.series (series_list k (all_series a)) one (subst (Contains (series_list k (all_series a))) s.2
          (map_from (series_of k) (all_series a) s.0 (re_in (all_series b) (all_series a) (re_flat the_series b a (re_back a b same)) s.0 s.1))))
    ],
    is,
  )

  pub all_reordered : MayJoinAll others k a → MayJoinAll others k b
  all_reordered j = record {
    few = (let few = j.few in let n = re_length (all_series a) (all_series b) (re_flat the_series a b same) in let x = length-map (all_series a) (series_of k) in let y = length-map (all_series b) (series_of k) in
        omega (arith, n, few, x, y, length-append others.series (series_list k (all_series a)), length-append others.series (series_list k (all_series b))));
    clear = clear_within (joined others k (all_singles b) (all_series b)) (joined others k (all_singles a) (all_series a)) back_one j.clear;
  }
