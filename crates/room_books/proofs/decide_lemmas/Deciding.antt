-- The decision: which two instances clash, and that none do.
-- Cited by decide, own_overlap.
use Rattle.std.proofs.Common.{◌≡◌, ◌≢◌, ℕ, ◌+◌, ◌-◌, ◌<◌, ◌≤◌, ℤ, ◌≤ℤ◌, true, false, List, ◌++◌, inl, inr, ◌⊎◌, Some, refl, sym, ap, ◌∙◌, subst, length, get_or, arith, length-append}
use Rattle.std.specs.Prelude.{slice_get}
use Rattle.std.specs.declared.cmp.Ordering.{Ordering}
use Rattle.std.specs.declared.cmp.Ordering.TheVariants.{Less, Equal, Greater}
use Rattle.std.specs.Ordering.{int_cmp, ordering_then, is_lt}
use Rattle.std.specs.List.{AllPairs, Contains, IsDistinct}
use Rattle.std.proofs.lemmas.Bool.{true≢false, cases_Bool, MatchBool-at_true, MatchBool-at_false}
use Rattle.std.proofs.lemmas.Cmp.{int_ranked}
use Rattle.std.proofs.lemmas.Int.{ints}
use Rattle.std.proofs.lemmas.List.{get_or-map, get_or_default, length-map, map-append}
use Rattle.std.proofs.lemmas.List.Elements.{Contains-append_left, Contains-append_right, Contains-append_cases}
use Rattle.std.proofs.lemmas.Option.{slice_get-get_or, get_or_from_slice_get}
use Rattle.clash_cert.specs.declared.making.Clash.{Clash}
use Rattle.clash_cert.specs.Makings.{AreBothNamed, HasKeys}
use Rattle.clash_cert.proofs.MakingLemmas.{less_from_before, less_from_not_before}
use Rattle.cal_events.specs.Calendar.{owned_key_of}
use Rattle.cal_events.specs.Sweep as sweep
use Rattle.cal_events.specs.declared.sweep.Span.{Span}
use Rattle.cal_events.specs.declared.sweep.Overlap.{Overlap as Found}
use Rattle.profile.specs.checker.Instances.{Key, Instance, IsWithin, IsClear, key_cmp, instance_cmp}
use Rattle.profile.specs.rooms.Messages as messages
use Rattle.profile.specs.rooms.Rooms.{NamesClash, is_accept}
use Rattle.std.specs.Map.{lookup, keys_of}
use Rattle.room_books.specs.declared.meeting.MeetingKey.{MeetingKey}
use Rattle.cal_events.specs.declared.instance.Single.{Single}
use Rattle.room_books.specs.declared.kept.Meeting.{Meeting}
use Rattle.room_books.specs.declared.meeting.Outcome.{Outcome}
use Rattle.room_books.specs.Gone.{HaveInstant, IsLater, IsPartedInto, Overlap, AreSeparate}
use Rattle.room_books.specs.Taking.{DecidesAmong, IsDecision}
use Rattle.room_books.specs.Meeting.{all_confirmed, keyed_instance, instance_list, others, outcome_of, same_key, singles_by, slots_of, spans_of, instance_span, AreAllApart, HaveOverlap, IsSpanFree}
use Rattle.room_books.proofs.shared_lemmas.Leaving.{Apart, kept_separate, kept_within}
use Rattle.room_books.proofs.shared_lemmas.Pairs.{map_from, pairs_append, pairs_from}
use Rattle.room_books.proofs.shared_lemmas.Parts.{pairs_across, pairs_right, pairs_to}
use Rattle.room_books.proofs.shared_lemmas.Places.{in_booked, booked_from, others_differ, slots_at}
use Rattle.room_books.proofs.room_lemmas.Putting.{clear_kept}
use Rattle.room_books.proofs.room_lemmas.RoomSteps.{found_apart}

-- ---- which of two comes first

starts_at : (o rest : Ordering) (a b : ℤ) → o ≡ int_cmp a b → is_lt (ordering_then o rest) ≡ true → a ≤ℤ b
starts_at Less rest a b e h = let r = int_ranked a b Less e in omega (arith, ints)
starts_at Equal rest a b e h = let r = int_ranked a b Equal e in omega (arith, ints)
starts_at Greater rest a b e h = absurd (true≢false (sym h))

starts_after : (o rest : Ordering) (a b : ℤ) → o ≡ int_cmp a b → is_lt (ordering_then o rest) ≡ false → b ≤ℤ a
starts_after Less rest a b e h = absurd (true≢false h)
starts_after Equal rest a b e h = let r = int_ranked a b Equal e in omega (arith, ints)
starts_after Greater rest a b e h = let r = int_ranked a b Greater e in omega (arith, ints)

later_is : (a b : Span) (t : ℤ) → IsLater a b t → a.start ≤ℤ b.start → t ≡ b.start
later_is a b t l h = elim l.one [ inl e ↦ (let s = l.second in omega (arith, ints)) | inr e ↦ e ]

later_is_first : (a b : Span) (t : ℤ) → IsLater a b t → b.start ≤ℤ a.start → t ≡ a.start
later_is_first a b t l h = elim l.one [ inl e ↦ e | inr e ↦ (let s = l.first in omega (arith, ints)) ]

-- two instances that share an instant are named as a decline does
pub names_these : (these : Instance → Type 0) (x y : Instance) (clash : Clash) → these x → these y → x.key ≢ y.key → Overlap (instance_span x) (instance_span y)
    → IsLater (instance_span x) (instance_span y) clash.instant → AreBothNamed x y clash.instant clash → NamesClash these (owned_key_of clash.first) (owned_key_of clash.second) clash.instant
names_these these x y clash in_x in_y differ overlap later named =
    let shared = overlap clash.instant later in
    elim (cases_Bool (is_lt (instance_cmp y x))) [
      | inl before ↦
          let h = MatchBool-at_true (HasKeys y x clash.instant clash) (HasKeys x y clash.instant clash) before named in
          let order = starts_at (int_cmp y.start x.start) (key_cmp y.key x.key) y.start x.start refl before in
          record {
            a = y;
            b = x;
            of_first = in_y;
            of_second = in_x;
            clash = record { differ = λ e. differ (sym e); before = shared.before; in_first = shared.in_second; in_second = shared.in_first };
            first_is = sym h.first;
            second_is = sym h.second;
            ordered = less_from_before y x before;
            later = later_is_first (instance_span x) (instance_span y) clash.instant later order;
          }
      | inr after ↦
          let h = MatchBool-at_false (HasKeys y x clash.instant clash) (HasKeys x y clash.instant clash) after named in
          let order = starts_after (int_cmp y.start x.start) (key_cmp y.key x.key) y.start x.start refl after in
          record {
            a = x;
            b = y;
            of_first = in_x;
            of_second = in_y;
            clash = record { differ = differ; before = shared.before; in_first = shared.in_first; in_second = shared.in_second };
            first_is = sym h.first;
            second_is = sym h.second;
            ordered = less_from_not_before x y differ after;
            later = later_is (instance_span x) (instance_span y) clash.instant later order;
          }
    ]

-- two of some of them are two of all
pub names_more : (some all : Instance → Type 0) (first second : Key) (t : ℤ) → ((b : Instance) → some b → all b) → NamesClash some first second t → NamesClash all first second t
names_more some all first second t within n = record {
  a = n.a;
  b = n.b;
  of_first = within n.a n.of_first;
  of_second = within n.b n.of_second;
  clash = n.clash;
  first_is = n.first_is;
  second_is = n.second_is;
  ordered = n.ordered;
  later = n.later;
}

-- ---- the meeting's own instances and the others

module _ (all : List Instance) (k : MeetingKey) (kept wanted : List Single) (differ : (s : Single) (b : Instance) → Contains all b → b.key ≢ (keyed_instance k s).key) where
  abbrev both : List Instance
  both = all ++ instance_list k (kept ++ wanted)

  own_in : (s : Single) → Contains (kept ++ wanted) s → Contains both (keyed_instance k s)
  own_in s c = Contains-append_right all (instance_list k (kept ++ wanted)) (keyed_instance k s) (booked_from k (kept ++ wanted) s c)

  pub length_is : length both ≡ length all + (length kept + length wanted)
  length_is = length-append all (instance_list k (kept ++ wanted)) ∙ ap (λ n. length all + n) (length-map (kept ++ wanted) (keyed_instance k) ∙ length-append kept wanted)

  pub few_all : (n : ℕ) → n ≡ length all + length kept → n ≤ 10_000 → length wanted ≤ 10_000 - n → length both ≤ 10_000
  few_all n n_is few few_more = let l = length_is in omega (arith, n_is, few, few_more, l)

  -- two own ones clash
  pub own_named : (s r : Single) (clash : Clash) → Contains (kept ++ wanted) s → Contains (kept ++ wanted) r → s.slot ≢ r.slot → Overlap s.span r.span
      → IsLater s.span r.span clash.instant → AreBothNamed (keyed_instance k s) (keyed_instance k r) clash.instant clash → NamesClash (Contains both) (owned_key_of clash.first) (owned_key_of clash.second) clash.instant
  own_named s r clash in_s in_r slots overlap later named =
      names_these (Contains both) (keyed_instance k s) (keyed_instance k r) clash (own_in s in_s) (own_in r in_r) (λ e. slots (ap (λ (z : Key). z.slot) e)) overlap later named

  -- one that is asked for clashes with one that stays confirmed, of another meeting or of the same
  pub staying_named : AllPairs ◌≢◌ (slots_of (kept ++ wanted)) → (s : Single) (b : Instance) (clash : Clash) → Contains wanted s → Contains (all ++ instance_list k kept) b → Overlap s.span (instance_span b)
      → IsLater s.span (instance_span b) clash.instant → AreBothNamed (keyed_instance k s) b clash.instant clash → NamesClash (Contains both) (owned_key_of clash.first) (owned_key_of clash.second) clash.instant
  staying_named distinct s b clash in_s in_b overlap later named = elim (Contains-append_cases all (instance_list k kept) b in_b) [
    | inl other ↦ names_these (Contains both) (keyed_instance k s) b clash (own_in s (Contains-append_right kept wanted s in_s)) (Contains-append_left all (instance_list k (kept ++ wanted)) b other)
        (λ e. differ s b other (sym e)) overlap later named
    | inr mine ↦
        let r = in_booked k kept b mine in
        let slots : AllPairs ◌≢◌ (slots_of kept ++ slots_of wanted) = subst (AllPairs ◌≢◌) (map-append (λ (x : Single). x.slot) kept wanted) distinct in
        let apart = pairs_across ◌≢◌ (slots_of kept) (slots_of wanted) (pairs_to ◌≢◌ (slots_of kept ++ slots_of wanted) slots) r.0.slot s.slot (map_from (λ (x : Single). x.slot) kept r.0 r.1) (map_from (λ (x : Single). x.slot) wanted s in_s) in
        let key : b.key.slot ≡ r.0.slot = sym (ap (λ (z : Instance). z.key.slot) r.2) in
        names_these (Contains both) (keyed_instance k s) b clash (own_in s (Contains-append_right kept wanted s in_s))
        (subst (Contains both) r.2 (own_in r.0 (Contains-append_left kept wanted r.0 r.1)))
        (λ e. apart (sym key ∙ sym (ap (λ (z : Key). z.slot) e))) overlap later named
  ]

  -- none do: those kept were clear beside the others, those that are asked for are free of them, and its own share no instant
  module _ (clear : IsClear (Contains (all ++ instance_list k kept))) (free : (s : Single) → Contains wanted s → IsSpanFree all s.span) (separate : AreSeparate (kept ++ wanted)) where
    beside : (b : Instance) (s : Single) (t : ℤ) → Contains all b → Contains (kept ++ wanted) s → HaveInstant s.span (instance_span b) t → ⊥
    beside b s t in_b in_s h = elim (Contains-append_cases kept wanted s in_s) [
      | inl old ↦ clear b (keyed_instance k s) t (Contains-append_left all (instance_list k kept) b in_b) (Contains-append_right all (instance_list k kept) (keyed_instance k s) (booked_from k kept s old)) record {
        differ = differ s b in_b;
        before = h.before;
        in_first = h.in_second;
        in_second = h.in_first;
      }
      | inr new ↦ free s new b t in_b h
    ]

    own : (s r : Single) (t : ℤ) → Contains (kept ++ wanted) s → Contains (kept ++ wanted) r → s.slot ≢ r.slot → HaveInstant s.span r.span t → ⊥
    own s r t in_s in_r slots h =
        let at = get_or_default (kept ++ wanted) in_r.0 s r in_r.1 ∙ in_r.2 in
        elim (order in_s.0 in_r.0) [
          | inl less ↦ separate in_s.0 in_r.0 s less in_r.1 t (subst (λ (z : Single). HaveInstant z.span (get_or (kept ++ wanted) in_r.0 s).span t) (sym in_s.2) (subst (λ (z : Single). HaveInstant s.span z.span t) (sym at) h))
          | inr rest ↦ elim rest [
            | inl more ↦ separate in_r.0 in_s.0 s more in_s.1 t (subst (λ (z : Single). HaveInstant (get_or (kept ++ wanted) in_r.0 s).span z.span t) (sym in_s.2)
                (subst (λ (z : Single). HaveInstant z.span s.span t) (sym at) (record { in_first = h.in_second; in_second = h.in_first; before = h.before })))
            | inr same ↦ slots (ap (λ (z : Single). z.slot) (sym in_s.2 ∙ ap (λ n. get_or (kept ++ wanted) n s) same ∙ at))
          ]
        ]
      where
        order : (m n : ℕ) → (m < n) ⊎ ((n < m) ⊎ (m ≡ n))
        order m n = grind arith

    pub clear_all : IsClear (Contains both)
    clear_all a b t in_a in_b c = elim (Contains-append_cases all (instance_list k (kept ++ wanted)) a in_a) [
      | inl a_other ↦ elim (Contains-append_cases all (instance_list k (kept ++ wanted)) b in_b) [
        | inl b_other ↦ clear a b t (Contains-append_left all (instance_list k kept) a a_other) (Contains-append_left all (instance_list k kept) b b_other) c
        | inr b_own ↦ (
            let s = in_booked k (kept ++ wanted) b b_own in
            beside a s.0 t a_other s.1 (subst (λ (z : Instance). HaveInstant (instance_span z) (instance_span a) t) (sym s.2) (record { in_first = c.in_second; in_second = c.in_first; before = c.before })))
      ]
      | inr a_own ↦ (
          let r = in_booked k (kept ++ wanted) a a_own in
          elim (Contains-append_cases all (instance_list k (kept ++ wanted)) b in_b) [
            | inl b_other ↦ beside b r.0 t b_other r.1 (subst (λ (z : Instance). HaveInstant (instance_span z) (instance_span b) t) (sym r.2) (record { in_first = c.in_first; in_second = c.in_second; before = c.before }))
            | inr b_own ↦ (
                let s = in_booked k (kept ++ wanted) b b_own in
                own r.0 s.0 t r.1 s.1
                (λ e. c.differ (sym (ap (λ (z : Instance). z.key) r.2) ∙ key_of_slot r.0 s.0 e ∙ ap (λ (z : Instance). z.key) s.2))
                (subst (λ (z : Instance). HaveInstant (instance_span z) s.0.span t) (sym r.2) (subst (λ (z : Instance). HaveInstant (instance_span a) (instance_span z) t) (sym s.2) (record { in_first = c.in_first; in_second = c.in_second; before = c.before }))))
          ])
    ]
      where
        key_of_slot : (s r : Single) → s.slot ≡ r.slot → (keyed_instance k s).key ≡ (keyed_instance k r).key
        key_of_slot s r e = λ i. record { organiser = (keyed_instance k s).key.organiser; uid = (keyed_instance k s).key.uid; slot = e i }

-- ---- what the sweep says of the meeting's own

module _ (singles : List Single) (spans : List Span) (spans_are : spans ≡ spans_of singles) where
  long : length spans ≡ length singles
  long = ap length spans_are ∙ length-map singles (λ (s : Single). s.span)

  span_at : (n : ℕ) (d : Single) → n < length singles → sweep.span_at spans n ≡ (get_or singles n d).span
  span_at n d l = ap (λ (l : List Span). sweep.span_at l n) spans_are ∙ get_or-map (λ (s : Single). s.span) singles n d _ l

  pub apart_separate : sweep.AreSpansApart spans → AreSeparate singles
  apart_separate apart i j d less within t h =
      let first : i < length singles = omega (arith, less, within) in
      let a = span_at i d first in
      let b = span_at j d within in
      apart i j t record {
        first_in = omega (arith, first, long);
        second_in = omega (arith, within, long);
        differ = λ e. omega (arith, less, e);
        before = h.before;
        in_first = subst (λ (z : Span). IsWithin z.start z.end t) (sym a) h.in_first;
        in_second = subst (λ (z : Span). IsWithin z.start z.end t) (sym b) h.in_second;
      }

  module _ (overlap : Found) (is : sweep.IsOverlap spans overlap) where
    pub first_within : overlap.first < length singles
    first_within = let l = is.shared.first_in in omega (arith, l, long)

    pub second_within : overlap.second < length singles
    second_within = let l = is.shared.second_in in omega (arith, l, long)

    module _ (s r : Single) (s_at : slice_get singles overlap.first ≡ Some s) (r_at : slice_get singles overlap.second ≡ Some r) where
      s_is : sweep.span_at spans overlap.first ≡ s.span
      s_is = span_at overlap.first s first_within ∙ ap (λ (z : Single). z.span) (get_or_from_slice_get singles overlap.first s s s_at)

      r_is : sweep.span_at spans overlap.second ≡ r.span
      r_is = span_at overlap.second r second_within ∙ ap (λ (z : Single). z.span) (get_or_from_slice_get singles overlap.second r r r_at)

      shared : HaveInstant s.span r.span overlap.instant
      shared = record {
        in_first = subst (λ (z : Span). IsWithin z.start z.end overlap.instant) s_is is.shared.in_first;
        in_second = subst (λ (z : Span). IsWithin z.start z.end overlap.instant) r_is is.shared.in_second;
        before = is.shared.before;
      }

      pub overlap_is : Overlap s.span r.span
      overlap_is t later =
          let at : overlap.instant ≡ r.span.start = is.later ∙ ap (λ (z : Span). z.start) r_is in
          let first = shared.in_first.0 in
          let same : t ≡ overlap.instant = later_is s.span r.span t later (subst (λ (u : ℤ). s.span.start ≤ℤ u) at first) ∙ sym at in
          subst (λ (u : ℤ). HaveInstant s.span r.span u) (sym same) shared

      pub slots_differ : AllPairs ◌≢◌ (slots_of singles) → s.slot ≢ r.slot
      slots_differ distinct e = elim (order overlap.first overlap.second) [
        | inl less ↦ slots_at singles overlap.first overlap.second s distinct less second_within (slot_at overlap.first s s_at ∙ e ∙ sym (slot_at overlap.second r r_at))
        | inr rest ↦ elim rest [
          | inl more ↦ slots_at singles overlap.second overlap.first s distinct more first_within (slot_at overlap.second r r_at ∙ sym e ∙ sym (slot_at overlap.first s s_at))
          | inr same ↦ is.shared.differ same
        ]
      ]
        where
          order : (m n : ℕ) → (m < n) ⊎ ((n < m) ⊎ (m ≡ n))
          order m n = grind arith

          slot_at : (n : ℕ) (x : Single) → slice_get singles n ≡ Some x → (get_or singles n s).slot ≡ x.slot
          slot_at n x h = ap (λ (z : Single). z.slot) (get_or_from_slice_get singles n x s h)

      pub among : Contains singles s × Contains singles r
      among = (
        (overlap.first, first_within, get_or_from_slice_get singles overlap.first s s s_at),
        (overlap.second, second_within, get_or_from_slice_get singles overlap.second r r r_at),
      )

-- those that are kept, and those that are asked for where they are free of them, share no instant
pub both_separate : (all : List Instance) (k : MeetingKey) (kept wanted : List Single) → AreSeparate kept → AreSeparate wanted → ((s : Single) → Contains wanted s → IsSpanFree (all ++ instance_list k kept) s.span) → AreSeparate (kept ++ wanted)
both_separate all k kept wanted first second free =
    pairs_from Apart (kept ++ wanted) (pairs_append Apart kept wanted (pairs_to Apart kept first) (pairs_to Apart wanted second)
    (λ a b c d t h. free b d (keyed_instance k a) t (Contains-append_right all (instance_list k kept) (keyed_instance k a) (booked_from k kept a c)) (record { in_first = h.in_second; in_second = h.in_first; before = h.before })))

-- one alone shares no instant
pub one_alone : (singles : List Single) → length singles < 2 → AreSeparate singles
one_alone singles few i j d less within t h = omega (arith, few, less, within)

pub place_in : (all : List Single) (place : ℕ) (x d : Single) → place < length all → get_or all place d ≡ x → slice_get all place ≡ Some x
place_in all place x d l e = slice_get-get_or all place d l ∙ ap Some e

-- ---- what is decided

module _ (k : MeetingKey) (es : List (MeetingKey × Meeting)) (distinct_keys : IsDistinct same_key (keys_of es)) (clear : IsClear (Contains (all_confirmed es))) (apart : AreAllApart es)
    (beside : ℕ) (few : beside ≤ 10_000) (gone kept wanted : List Single) (parted : IsPartedInto (singles_by (lookup (same_key k) es)) gone kept) (beside_is : beside ≡ length (others k es) + length kept) where
  abbrev other : List Instance
  other = others k es

  own_differ : (s : Single) (b : Instance) → Contains other b → b.key ≢ (keyed_instance k s).key
  own_differ = others_differ k es

  busy_not_accept : (a b : Key) (t : ℤ) → messages.Busy a b t ≡ messages.Accept → ⊥
  busy_not_accept a b t e = true≢false (sym (ap is_accept e))

  pub decides_clash : (outcome : Outcome) (clash : Clash) → outcome_of outcome ≡ messages.Busy (owned_key_of clash.first) (owned_key_of clash.second) clash.instant → length wanted ≤ 10_000 - beside
      → (AllPairs ◌≢◌ (slots_of (kept ++ wanted)) → NamesClash (Contains (other ++ instance_list k (kept ++ wanted))) (owned_key_of clash.first) (owned_key_of clash.second) clash.instant) → IsDecision other k kept wanted outcome
  decides_clash outcome clash is few_more named = record {
    decides = λ distinct. subst (DecidesAmong (other ++ instance_list k (kept ++ wanted))) (sym is) (few_all other k kept wanted own_differ beside beside_is few few_more, named distinct);
    joins = λ accepted. absurd (busy_not_accept (owned_key_of clash.first) (owned_key_of clash.second) clash.instant (sym is ∙ accepted));
  }

  pub decides_own : (outcome : Outcome) (clash : Clash) (s r : Single) → outcome_of outcome ≡ messages.Busy (owned_key_of clash.first) (owned_key_of clash.second) clash.instant → length wanted ≤ 10_000 - beside
      → HaveOverlap wanted (Some (s, r)) → IsLater s.span r.span clash.instant → AreBothNamed (keyed_instance k s) (keyed_instance k r) clash.instant clash → IsDecision other k kept wanted outcome
  decides_own outcome clash s r is few_more overlap later named =
      decides_clash outcome clash is few_more (λ distinct.
      let slots : AllPairs ◌≢◌ (slots_of wanted) = pairs_from ◌≢◌ (slots_of wanted) (pairs_right ◌≢◌ (slots_of kept) (slots_of wanted) (pairs_to ◌≢◌ (slots_of kept ++ slots_of wanted)
      (subst (AllPairs ◌≢◌) (map-append (λ (x : Single). x.slot) kept wanted) distinct))) in
      own_named other k kept wanted own_differ s r clash (Contains-append_right kept wanted s overlap.0) (Contains-append_right kept wanted r overlap.1) (overlap.2 slots) overlap.3 later named)

  pub decides_beside : (outcome : Outcome) (clash : Clash) (s : Single) (b : Instance) → outcome_of outcome ≡ messages.Busy (owned_key_of clash.first) (owned_key_of clash.second) clash.instant → length wanted ≤ 10_000 - beside
      → Contains wanted s → Contains (other ++ instance_list k kept) b → Overlap s.span (instance_span b) → IsLater s.span (instance_span b) clash.instant → AreBothNamed (keyed_instance k s) b clash.instant clash → IsDecision other k kept wanted outcome
  decides_beside outcome clash s b is few_more in_s in_b overlap later named =
      decides_clash outcome clash is few_more (λ distinct. staying_named other k kept wanted own_differ distinct s b clash in_s in_b overlap later named)

  pub decides_accept : (outcome : Outcome) → outcome_of outcome ≡ messages.Accept → length wanted ≤ 10_000 - beside → AreSeparate wanted
      → ((s : Single) → Contains wanted s → IsSpanFree (other ++ instance_list k kept) s.span) → IsDecision other k kept wanted outcome
  decides_accept outcome is few_more separate free =
      let before = singles_by (lookup (same_key k) es) in
      let few_now = few_all other k kept wanted own_differ beside beside_is few few_more in
      let stayed = kept_separate before gone kept parted (found_apart k es apart) in
      let both_apart = both_separate other k kept wanted stayed separate free in
      let clear_now = clear_all other k kept wanted own_differ (clear_kept k es kept (kept_within before gone kept parted) clear)
      (λ s c b t d h. free s c b t (Contains-append_left other (instance_list k kept) b d) h) both_apart in
      record {
        decides = λ distinct. subst (DecidesAmong (other ++ instance_list k (kept ++ wanted))) (sym is) (few_now, clear_now);
        joins = λ accepted. record { few = few_now; clear = clear_now; separate = both_apart };
      }
