-- What the meetings confirm, by their places: what the others have confirmed, and what one more entry changes.
-- Cited by busy_beside of decide, busy_beside_series of decide, Room::clash_in_series of room, Room::decide_singles of room, Room::put of room.
use Rattle.std.proofs.Common.{◌≡◌, ◌≢◌, ℕ, ◌+◌, ◌<◌, ℤ, Bool, true, false, not, ◌&&◌, cond, List, [], ◌∷◌, ◌++◌, inl, inr, Option, None, Some, refl, sym, ap, ◌∙◌, subst, length, get_or, arith, zero, suc, length-append}
use Rattle.std.specs.Prelude.{slice_get, ◌==◌}
use Rattle.std.specs.List.{AllByRecursion, AllPairs, Contains, IsDistinct, position, position_or_len, filter, flat_map}
use Rattle.std.specs.Map.{lookup, keys_of}
use Rattle.std.proofs.lemmas.Bool.{cases_Bool, both_ways, and_parts, and_from, eq-eqb, eqb-true, not-true}
use Rattle.std.proofs.lemmas.Int.{ints}
use Rattle.std.proofs.lemmas.List.{get_or-map, length-map}
use Rattle.std.proofs.lemmas.List.Elements.{Contains-append_left, Contains-append_right, Contains-append_cases}
use Rattle.std.proofs.lemmas.Map.Keys.{IsDistinct-tail, IsDistinct-head}
use Rattle.std.proofs.lemmas.Option.{slice_get-get_or, slice_get_within, get_or_from_slice_get}
use Rattle.std.proofs.lemmas.Slice.Eq.{bytes_eq-Decides}
use Rattle.itip_order.proofs.Lists.{none_in_nil, in_head, in_tail, in_cons, filter_at, filter_from}
use Rattle.indexmap.specs.IndexMap.{insert_entry}
use Rattle.ical_values.specs.Octets.{address_octets, text_octets}
use Rattle.profile.specs.checker.Instances.{Key, Instance, IsClear}
use Rattle.room_books.specs.declared.meeting.MeetingKey.{MeetingKey}
use Rattle.room_books.specs.declared.kept.Meeting.{Meeting}
use Rattle.cal_events.specs.declared.instance.Single.{Single}
use Rattle.cal_events.specs.declared.sweep.Span.{Span}
use Rattle.room_books.specs.declared.timeline.Busy.{Busy}
use Rattle.room_books.specs.Gone.{HaveInstant}
use Rattle.room_books.specs.Meeting.{same_key, is_other, keyed_instance, instance_list, slots_of, meeting_singles, confirmed_of, confirmed_at, singles_in, singles_by, others, all_confirmed, all_recurring, all_series, other_recurring, recurring_of, series_at, series_by, series_in, series_of, instance_span}
use Rattle.room_books.specs.Timeline.{is_own_place, HoldsInstants, holds_instants, busy_in, has_single, AreAt, IsTimelineOf, IsFreeBut, IsChanged}
use Rattle.room_books.proofs.timeline_lemmas.Timelines.{has_at, has_from, single_at, single_from, holds_from}
use Rattle.room_books.proofs.shared_lemmas.Keys.{key_congr, only_place, place_is_own}

abbrev Entry : Type 0
Entry = MeetingKey × Meeting

-- ---- instances of meetings

pub in_booked : (k : MeetingKey) (singles : List Single) (b : Instance) → Contains (instance_list k singles) b → (s : Single) × Contains singles s × (keyed_instance k s ≡ b)
in_booked k [] b c = absurd (none_in_nil b c)
in_booked k (s ∷ singles) b c = elim (in_cons (keyed_instance k s) (instance_list k singles) b c) [
  | inl here ↦ (s, in_head s singles, here)
  | inr there ↦ (let r = in_booked k singles b there in (r.0, in_tail s singles r.0 r.1, r.2))
]

pub booked_from : (k : MeetingKey) (singles : List Single) (s : Single) → Contains singles s → Contains (instance_list k singles) (keyed_instance k s)
booked_from k [] s c = absurd (none_in_nil s c)
booked_from k (x ∷ singles) s c = elim (in_cons x singles s c) [
  | inl here ↦ subst (λ (z : Single). Contains (instance_list k (x ∷ singles)) (keyed_instance k z)) here (in_head (keyed_instance k x) (instance_list k singles))
  | inr there ↦ in_tail (keyed_instance k x) (instance_list k singles) (keyed_instance k s) (booked_from k singles s there)
]

-- two meetings have no instance of one key
pub booked_differs : (k q : MeetingKey) (s r : Single) → same_key k q ≡ false → (keyed_instance q r).key ≢ (keyed_instance k s).key
booked_differs k q s r d e = both_ways _ d (and_from _ _
    ((bytes_eq-Decides (address_octets k.organiser) (address_octets q.organiser)).1 (ap (λ (z : Key). z.organiser) (sym e)))
    ((bytes_eq-Decides (text_octets k.uid) (text_octets q.uid)).1 (ap (λ (z : Key). z.uid) (sym e))))

-- ---- entries by their places

entry_in : (es : List Entry) (q : ℕ) (e : Entry) → slice_get es q ≡ Some e → Contains es e
entry_in es q e h = (q, slice_get_within es q e h, get_or_from_slice_get es q e e h)

pub in_flat : (es : List Entry) (b : Instance) → Contains (flat_map confirmed_of es) b → (e : Entry) × Contains es e × Contains (confirmed_of e) b
in_flat [] b c = absurd (none_in_nil b c)
in_flat (e ∷ es) b c = elim (Contains-append_cases (confirmed_of e) (flat_map confirmed_of es) b c) [
  | inl here ↦ (e, in_head e es, here)
  | inr there ↦ (let r = in_flat es b there in (r.0, in_tail e es r.0 r.1, r.2))
]

pub flat_from : (es : List Entry) (e : Entry) (b : Instance) → Contains es e → Contains (confirmed_of e) b → Contains (flat_map confirmed_of es) b
flat_from [] e b c h = absurd (none_in_nil e c)
flat_from (x ∷ es) e b c h = elim (in_cons x es e c) [
  | inl same ↦ Contains-append_left (confirmed_of x) (flat_map confirmed_of es) b (subst (λ (z : Entry). Contains (confirmed_of z) b) (sym same) h)
  | inr rest ↦ Contains-append_right (confirmed_of x) (flat_map confirmed_of es) b (flat_from es e b rest h)
]

-- what a place confirms is of the entry in it
single_of_entry : (o : Option Entry) (s : Single) → Contains (singles_in o) s → (e : Entry) × (o ≡ Some e) × Contains (meeting_singles e.1) s
single_of_entry None s c = absurd (none_in_nil s c)
single_of_entry (Some e) s c = (e, refl, c)

-- the instances of the other meetings are of keys of their own
pub others_differ : (k : MeetingKey) (es : List Entry) (s : Single) (b : Instance) → Contains (others k es) b → b.key ≢ (keyed_instance k s).key
others_differ k es s b c =
    let f = in_flat (filter (is_other k) es) b c in
    let r = in_booked f.0.0 (meeting_singles f.0.1) b f.2 in
    λ e. booked_differs k f.0.0 s r.0 (not-true _ (filter_at (is_other k) es f.0 f.1).1) (ap (λ (z : Instance). z.key) r.2 ∙ e)

-- ---- the other meetings

module _ (k : MeetingKey) (es : List Entry) (distinct : IsDistinct same_key (keys_of es)) (own : Option ℕ) (own_is : own ≡ position (same_key k) (keys_of es)) where
  pub key_at : (q : ℕ) (e : Entry) → slice_get es q ≡ Some e → is_own_place own q ≡ same_key k e.0
  key_at q e h =
      let within = slice_get_within es q e h in
      let n : q < length (keys_of es) = omega (arith, within, length-map es (λ (x : Entry). x.0)) in
      ap (λ o. is_own_place o q) own_is ∙ place_is_own k (keys_of es) distinct q e.0 n
      ∙ ap (same_key k) (get_or-map (λ (x : Entry). x.0) es q e e.0 within ∙ ap (λ (x : Entry). x.0) (get_or_from_slice_get es q e e h))

  -- each of them is in a place other than the meeting's own
  pub other_place : (b : Instance) → Contains (others k es) b → (q : ℕ) × (s : Single) × Contains (confirmed_at es q) s × (s.span ≡ instance_span b) × (is_own_place own q ≡ false)
  other_place b c =
      let f = in_flat (filter (is_other k) es) b c in
      let e = f.0 in
      let both = filter_at (is_other k) es e f.1 in
      let s = in_booked e.0 (meeting_singles e.1) b f.2 in
      let at : slice_get es both.0.0 ≡ Some e = slice_get-get_or es both.0.0 e both.0.1 ∙ ap Some both.0.2 in
      (both.0.0, s.0, subst (λ (o : Option Entry). Contains (singles_in o) s.0) (sym at) s.1, ap instance_span s.2, key_at both.0.0 e at ∙ not-true _ both.1)

  -- and what is in another place is one of them
  pub other_from : (q : ℕ) (e : Entry) (s : Single) → slice_get es q ≡ Some e → Contains (meeting_singles e.1) s → is_own_place own q ≡ false → Contains (others k es) (keyed_instance e.0 s)
  other_from q e s at h n = flat_from (filter (is_other k) es) e (keyed_instance e.0 s)
      (filter_from (is_other k) es e (entry_in es q e at) (ap not (sym (key_at q e at) ∙ n)))
      (booked_from e.0 (meeting_singles e.1) s h)

-- ---- by the timeline

module _ (at : ℕ → List Single) (items : List Busy) (timeline : IsTimelineOf at items) where
  -- what holds an instant is there
  pub there : (q : ℕ) (s : Single) → Contains (at q) s → HoldsInstants s.span → Contains items (busy_in q s)
  there q s c holds = has_at items (busy_in q s) (timeline.held (busy_in q s) ∙ and_from _ _ (holds_from s.span holds) (single_from (at q) s c))

  -- what is there is confirmed
  pub real : (b : Busy) → Contains items b → Contains (at b.place) b.single
  real b c = single_at (at b.place) b.single (and_parts _ _ (sym (timeline.held b) ∙ has_from items b c)).1

-- an instant that is shared is held
pub holds_shared : (a b : Span) (t : ℤ) → HaveInstant a b t → HoldsInstants b
holds_shared a b t h = let s = h.in_second in let e = h.before in let x = s.0 in let y = s.1 in (omega (arith, ints), omega (arith, ints))

-- what is there is of an entry
pub real_entry : (es : List Entry) (items : List Busy) → IsTimelineOf (confirmed_at es) items → (b : Busy) → Contains items b → (e : Entry) × (slice_get es b.place ≡ Some e) × Contains (meeting_singles e.1) b.single
real_entry es items timeline b c = single_of_entry (slice_get es b.place) b.single (real (confirmed_at es) items timeline b c)

-- ---- the count

pub no_others : (k e : MeetingKey) (es : List Entry) → same_key k e ≡ true → AllByRecursion (λ y. same_key e y ≡ false) (keys_of es) → filter (is_other k) es ≡ es
no_others k e [] same h = refl
no_others k e (x ∷ es) same h =
    ap (λ t. cond (not t) (x ∷ filter (is_other k) es) (filter (is_other k) es)) (key_congr k e x.0 same ∙ h.0) ∙ ap (λ l. x ∷ l) (no_others k e es same h.1)

-- what is counted of an entry, and of the meeting that was found
module _ {X Y : Type 0} (of : Entry → List X) (by_found : Option Meeting → List Y) (none : length (by_found None) ≡ 0) (long : (e : Entry) → length (of e) ≡ length (by_found (Some e.1))) (k : MeetingKey) where
  count_at : (e : Entry) (es : List Entry) (t : Bool) → same_key k e.0 ≡ t → IsDistinct same_key (keys_of (e ∷ es))
      → length (flat_map of (filter (is_other k) es)) + length (by_found (lookup (same_key k) es)) ≡ length (flat_map of es)
      → length (flat_map of (cond (not t) (e ∷ filter (is_other k) es) (filter (is_other k) es))) + length (by_found (cond t (Some e.1) (lookup (same_key k) es))) ≡ length (of e ++ flat_map of es)
  count_at e es true same distinct h =
      let n = ap (λ l. length (flat_map of l)) (no_others k e.0 es same (IsDistinct-head same_key e.0 (keys_of es) distinct)) in
      omega (arith, n, long e, length-append (of e) (flat_map of es))
  count_at e es false other distinct h =
      omega (arith, h, length-append (of e) (flat_map of (filter (is_other k) es)), length-append (of e) (flat_map of es))

  -- what the meeting itself and the others have is all
  pub counted_apart : (es : List Entry) → IsDistinct same_key (keys_of es) → length (flat_map of (filter (is_other k) es)) + length (by_found (lookup (same_key k) es)) ≡ length (flat_map of es)
  counted_apart [] distinct = omega (arith, none)
  counted_apart (e ∷ es) distinct = count_at e es (same_key k e.0) refl distinct (counted_apart es (IsDistinct-tail same_key e.0 (keys_of es) distinct))

singles_long : (e : Entry) → length (confirmed_of e) ≡ length (singles_by (Some e.1))
singles_long e = length-map (meeting_singles e.1) (keyed_instance e.0)

series_long : (e : Entry) → length (recurring_of e) ≡ length (series_by (Some e.1))
series_long e = length-map (all_series e.1.answers.items) (series_of e.0)

-- what the meeting itself and the others have confirmed is all
pub others_count : (k : MeetingKey) (es : List Entry) → IsDistinct same_key (keys_of es) → length (others k es) + length (singles_by (lookup (same_key k) es)) ≡ length (all_confirmed es)
others_count k es distinct = counted_apart confirmed_of singles_by refl singles_long k es distinct

pub other_series_count : (k : MeetingKey) (es : List Entry) → IsDistinct same_key (keys_of es) → length (other_recurring k es) + length (series_by (lookup (same_key k) es)) ≡ length (all_recurring es)
other_series_count k es distinct = counted_apart recurring_of series_by refl series_long k es distinct

-- ---- one more entry

-- the place of a meeting: its own, or after all
abbrev pub place_of : MeetingKey → List Entry → ℕ
place_of k es = position_or_len (same_key k) (keys_of es)

abbrev put : MeetingKey → Meeting → List Entry → List Entry
put k m es = insert_entry same_key es k m

pub suc_is : (n : ℕ) → 1 + n ≡ suc n
suc_is n = omega arith

module _ (k : MeetingKey) (m : Meeting) where
  own_at : (e : Entry) (es : List Entry) (t : Bool) → ((key : MeetingKey) × (slice_get (put k m es) (place_of k es) ≡ Some (key, m)))
      → (key : MeetingKey) × (slice_get (cond t ((e.0, m) ∷ es) (e ∷ put k m es)) (cond (not t) (1 + place_of k es) 0) ≡ Some (key, m))
  own_at e es true h = (e.0, refl)
  own_at e es false h = (h.0, ap (slice_get (e ∷ put k m es)) (suc_is (place_of k es)) ∙ h.1)

  -- it is in its place
  pub own_entry : (es : List Entry) → (key : MeetingKey) × (slice_get (put k m es) (place_of k es) ≡ Some (key, m))
  own_entry [] = (k, refl)
  own_entry (e ∷ es) = own_at e es (same_key k e.0) (own_entry es)

  -- its place confirms what it does
  pub held_put : (es : List Entry) → confirmed_at (put k m es) (place_of k es) ≡ meeting_singles m
  held_put es = ap singles_in (own_entry es).1

  pub series_put : (es : List Entry) → series_at (put k m es) (place_of k es) ≡ all_series m.answers.items
  series_put es = ap series_in (own_entry es).1

  other_at : (e : Entry) (es : List Entry) (t : Bool) (q : ℕ) → ((r : ℕ) → r ≢ place_of k es → slice_get (put k m es) r ≡ slice_get es r) → q ≢ cond (not t) (1 + place_of k es) 0
      → slice_get (cond t ((e.0, m) ∷ es) (e ∷ put k m es)) q ≡ slice_get (e ∷ es) q
  other_at e es true zero h n = absurd (n refl)
  other_at e es true (suc q) h n = refl
  other_at e es false zero h n = refl
  other_at e es false (suc q) h n = h q (λ same. n (ap suc same ∙ sym (suc_is (place_of k es))))

  past_one : (q : ℕ) → q ≢ 0 → slice_get {X = Entry} ((k, m) ∷ []) q ≡ None
  past_one zero n = absurd (n refl)
  past_one (suc q) n = refl

  -- the other places hold what they did
  pub other_entry : (es : List Entry) (q : ℕ) → q ≢ place_of k es → slice_get (put k m es) q ≡ slice_get es q
  other_entry [] q n = past_one q n
  other_entry (e ∷ es) q n = other_at e es (same_key k e.0) q (other_entry es) n

  pub held_other : (es : List Entry) (q : ℕ) → q ≢ place_of k es → confirmed_at (put k m es) q ≡ confirmed_at es q
  held_other es q n = ap singles_in (other_entry es q n)

  pub series_other : (es : List Entry) (q : ℕ) → q ≢ place_of k es → series_at (put k m es) q ≡ series_at es q
  series_other es q n = ap series_in (other_entry es q n)

  -- what is counted of an entry, and of the meeting that was found
  module _ {X Y : Type 0} (of : Entry → List X) (by_found : Option Meeting → List Y) (none : length (by_found None) ≡ 0) (long : (e : Entry) → length (of e) ≡ length (by_found (Some e.1))) where
    put_count_at : (e : Entry) (es : List Entry) (t : Bool) → length (flat_map of (put k m es)) + length (by_found (lookup (same_key k) es)) ≡ length (flat_map of es) + length (by_found (Some m))
        → length (flat_map of (cond t ((e.0, m) ∷ es) (e ∷ put k m es))) + length (by_found (cond t (Some e.1) (lookup (same_key k) es))) ≡ length (of e ++ flat_map of es) + length (by_found (Some m))
    put_count_at e es true h = omega (arith, long e, long (e.0, m), length-append (of e) (flat_map of es), length-append (of (e.0, m)) (flat_map of es))
    put_count_at e es false h = omega (arith, h, length-append (of e) (flat_map of es), length-append (of e) (flat_map of (put k m es)))

    -- all grows by what the meeting has, less what it had
    pub put_counted : (es : List Entry) → length (flat_map of (put k m es)) + length (by_found (lookup (same_key k) es)) ≡ length (flat_map of es) + length (by_found (Some m))
    put_counted [] = omega (arith, none, long (k, m), length-append (of (k, m)) [])
    put_counted (e ∷ es) = put_count_at e es (same_key k e.0) (put_counted es)

  -- all that is confirmed grows by what the meeting confirms, less what it did
  pub put_count : (es : List Entry) → length (all_confirmed (put k m es)) + length (singles_by (lookup (same_key k) es)) ≡ length (all_confirmed es) + length (meeting_singles m)
  put_count es = put_counted confirmed_of singles_by refl singles_long es

  pub put_series_count : (es : List Entry) → length (all_recurring (put k m es)) + length (series_by (lookup (same_key k) es)) ≡ length (all_recurring es) + length (all_series m.answers.items)
  put_series_count es = put_counted recurring_of series_by refl series_long es

  -- the timeline of the entries with this one
  pub timeline_put : (es : List Entry) (old new : List Busy) → IsTimelineOf (confirmed_at es) old → IsChanged (place_of k es) (meeting_singles m) old new → IsTimelineOf (confirmed_at (put k m es)) new
  timeline_put es old new timeline changed = record {
    held = λ x. elim (cases_Bool (x.place == place_of k es)) [
      | inl own ↦ (
          let e = eqb-true x.place (place_of k es) own in
          changed.own x e ∙ ap (λ l. holds_instants x.single.span && has_single x.single l) (sym (ap (confirmed_at (put k m es)) e ∙ held_put es)))
      | inr other ↦ (
          let n : x.place ≢ place_of k es = λ e. both_ways _ other (eq-eqb x.place (place_of k es) e) in
          changed.others x n ∙ timeline.held x ∙ ap (λ l. holds_instants x.single.span && has_single x.single l) (sym (held_other es x.place n)))
    ];
  }

held_before_at : (k : MeetingKey) (e : Entry) (es : List Entry) (t : Bool) → confirmed_at es (place_of k es) ≡ singles_by (lookup (same_key k) es)
    → confirmed_at (e ∷ es) (cond (not t) (1 + place_of k es) 0) ≡ singles_by (cond t (Some e.1) (lookup (same_key k) es))
held_before_at k e es true h = refl
held_before_at k e es false h = ap (confirmed_at (e ∷ es)) (suc_is (place_of k es)) ∙ h

-- the place of a meeting confirms what a look-up says
pub held_before : (k : MeetingKey) (es : List Entry) → confirmed_at es (place_of k es) ≡ singles_by (lookup (same_key k) es)
held_before k [] = refl
held_before k (e ∷ es) = held_before_at k e es (same_key k e.0) (held_before k es)

-- ---- what a change may put in

-- what the place of a meeting confirmed is there
pub are_at : (k : MeetingKey) (es : List Entry) (items : List Busy) → IsTimelineOf (confirmed_at es) items → AreAt (place_of k es) (singles_by (lookup (same_key k) es)) items
are_at k es items timeline x e = timeline.held x ∙ ap (λ l. holds_instants x.single.span && has_single x.single l) (ap (confirmed_at es) e ∙ held_before k es)

module _ (k : MeetingKey) (es : List Entry) (distinct : IsDistinct same_key (keys_of es)) where
  -- a key in another place is of another meeting
  pub other_key : (q : ℕ) (e : Entry) → slice_get es q ≡ Some e → q ≢ place_of k es → same_key k e.0 ≡ false
  other_key q e at n = elim (cases_Bool (same_key k e.0)) [
    | inl same ↦
        let within = slice_get_within es q e at in
        let l : q < length (keys_of es) = omega (arith, within, length-map es (λ (x : Entry). x.0)) in
        let key : get_or (keys_of es) q e.0 ≡ e.0 = get_or-map (λ (x : Entry). x.0) es q e e.0 within ∙ ap (λ (x : Entry). x.0) (get_or_from_slice_get es q e e at) in
        absurd (n (sym (only_place k (keys_of es) distinct q e.0 l (ap (same_key k) key ∙ same))))
    | inr other ↦ other
  ]

  -- each instance of a meeting that is clear beside the others shares no instant with what other places hold
  pub free_but_own : (items : List Busy) → IsTimelineOf (confirmed_at es) items → (singles : List Single) → IsClear (Contains (others k es ++ instance_list k singles))
      → (s : Single) → Contains singles s → IsFreeBut (place_of k es) items s.span
  free_but_own items timeline singles clear s c b t there n h =
      let e = real_entry es items timeline b there in
      let other = other_key b.place e.0 e.1 n in
      let booked = keyed_instance e.0.0 b.single in
      let among : Contains (others k es) booked = flat_from (filter (is_other k) es) e.0 booked
      (filter_from (is_other k) es e.0 (entry_in es b.place e.0 e.1) (ap not other)) (booked_from e.0.0 (meeting_singles e.0.1) b.single e.2) in
      clear booked (keyed_instance k s) t (Contains-append_left (others k es) (instance_list k singles) booked among) (Contains-append_right (others k es) (instance_list k singles) (keyed_instance k s) (booked_from k singles s c)) record {
        differ = booked_differs k e.0.0 s b.single other;
        before = h.before;
        in_first = h.in_second;
        in_second = h.in_first;
      }

-- two places of a list whose slots differ
pub slots_at : (singles : List Single) (i j : ℕ) (d : Single) → AllPairs ◌≢◌ (slots_of singles) → i < j → j < length singles → (get_or singles i d).slot ≢ (get_or singles j d).slot
slots_at singles i j d differ less within same =
    differ i j d.slot less (let l = length-map singles (λ (s : Single). s.slot) in omega (arith, within, l))
    (get_or-map (λ (s : Single). s.slot) singles i d d.slot (omega (arith, less, within)) ∙ same ∙ sym (get_or-map (λ (s : Single). s.slot) singles j d d.slot within))
