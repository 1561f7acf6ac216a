-- Confirmed instances: each key is that of one, and the singles of a calendar without series are all of them.
-- Cited by series_and_singles_divide, singles_are_confirmed.
use Rattle.std.proofs.Common.{◌≡◌, ◌≢◌, ◌∙◌, ℕ, zero, suc, ◌+◌, ◌<◌, List, [], ◌∷◌, ◌++◌, length, get_or, subst, sym, refl, ap, inl, inr, ◌⊎◌, arith, ℤ, true}
use Rattle.std.specs.Prelude.{Some, None, All, AllPairs, Contains, filter, is_some, ◌&&◌}
use Rattle.std.specs.List.{AllZip, AllByRecursion, flat_map}
use Rattle.std.proofs.lemmas.Bool.{cases_order, and_parts}
use Rattle.std.proofs.lemmas.Int.{ints}
use Rattle.std.proofs.lemmas.List.{get_or_default, append_assoc, length-append, get_or-append_right}
use Rattle.std.proofs.lemmas.List.Elements.{All-from_recursion, All-contains}
use Rattle.profile.specs.text.Lines.{logical_lines}
use Rattle.profile.specs.text.Trees.{Tree, tree_own, vevents}
use Rattle.profile.specs.series.RoomZones.{IsRoomZone}
use Rattle.profile.specs.events.Placed.{SaysPlaced}
use Rattle.profile.specs.checker.Instances.{Key, Instance}
use Rattle.profile.specs.checker.Calendars.{SpellsCalendar, IsConfirmedIn, SayEvents}
use Rattle.profile.specs.events.EventComponents.{EventComponent, meeting_said}
use Rattle.profile.specs.events.Events.{Event as Whole, is_master}
use Rattle.profile.specs.events.Starts.{ComesBefore}
use Rattle.profile.specs.events.Spans.{AreSaidSeries}
use Rattle.std.proofs.lemmas.Grind.{merely}
use Rattle.profile.specs.events.Confirmed.{by_its_rule, Confirmed, is_kept, is_series, IsSeries, IsInSeries, IsInstanceAmong, IsConfirmed, IsOfSeries, IsSingle, AreSingles, MastersDiffer, OverridesDiffer}
use Rattle.cal_events.specs.Calendar.{HaveDifferentKeys}
use Rattle.cal_events.specs.Draft.{IsSaid}
use Rattle.cal_events.proofs.shared_lemmas.InOneOrder.{later, none_in, in_filtered, of_filtered, head_pairs, tail_pairs, cons_pairs, append_pairs}
use Rattle.cal_events.proofs.reading_lemmas.OneCalendar.{OneEvent, OneRoomZone, room_words, same_events}
use Rattle.cal_events.proofs.reading_lemmas.OneText.{OneTree}
use Rattle.cal_events.proofs.shared_lemmas.SeriesLemmas.{of_its_series, in_its_series, zip_with, zip_back}
use Rattle.cal_events.proofs.shared_lemmas.OwnSingles.{of_both, is_a_master, master_alone, override_alone, one_of_key}

-- ---- keys

meeting_of_key : Key → List ℕ × List ℕ
meeting_of_key k = (k.organiser, k.uid)

module _ (events : List EventComponent) (e f : EventComponent) (e_in : Contains events e) (f_in : Contains events f)
    (masters : e.recurrence ≡ None → f.recurrence ≡ None → meeting_said e ≢ meeting_said f)
    (overrides : (slot : ℤ) → e.recurrence ≡ Some slot → f.recurrence ≡ Some slot → meeting_said e ≢ meeting_said f) where
  -- instances of two events have different keys
  pub keys_apart : (a b : Instance) → IsInstanceAmong events e a → IsInstanceAmong events f b → a.key ≡ b.key → ⊥
  unfolding meeting_of_key
  keys_apart a b h k same = go (of_both e) (of_both f)
    where
      go : (e.recurrence ≡ None) ⊎ ((slot : ℤ) × (e.recurrence ≡ Some slot)) → (f.recurrence ≡ None) ⊎ ((slot : ℤ) × (f.recurrence ≡ Some slot)) → ⊥
      go (inl m) (inl n) =
          let x = master_alone e a m h.is in
          let y = master_alone f b n k.is in
          masters m n (ap meeting_of_key (sym x.key ∙ same ∙ y.key))
      go (inl m) (inr (slot, n)) =
          let x = master_alone e a m h.is in
          let y = override_alone f b slot n k.is in
          let at : b.key.slot ≡ a.start = ap (λ (key : Key). key.slot) (sym same ∙ x.key) in
          h.shown (is_a_master e m) (record { override = f; among = (f_in, ap meeting_of_key (sym y.key ∙ sym same ∙ x.key)); is = y.slot ∙ ap Some at })
      go (inr (slot, m)) (inl n) =
          let x = override_alone e a slot m h.is in
          let y = master_alone f b n k.is in
          let at : a.key.slot ≡ b.start = ap (λ (key : Key). key.slot) (same ∙ y.key) in
          k.shown (is_a_master f n) (record { override = e; among = (e_in, ap meeting_of_key (sym x.key ∙ same ∙ y.key)); is = x.slot ∙ ap Some at })
      go (inr (slot, m)) (inr (other, n)) =
          let x = override_alone e a slot m h.is in
          let y = override_alone f b other n k.is in
          overrides a.key.slot x.slot (y.slot ∙ ap Some (sym (ap (λ (key : Key). key.slot) same))) (ap meeting_of_key (sym x.key ∙ same ∙ y.key))

module _ (events : List EventComponent) (masters : MastersDiffer events) (overrides : OverridesDiffer events) where
  at_places : (i j : ℕ) (e f : EventComponent) → i < j → j < length events → get_or events i e ≡ e → get_or events j f ≡ f
      → (a b : Instance) → IsInstanceAmong events e a → IsInstanceAmong events f b → a.key ≡ b.key → ⊥
  at_places i j e f l w is_e is_f a b h k same =
      keys_apart events e f (i, omega (arith, l, w), is_e) (j, w, is_f)
      (λ m n. subst (λ x. meeting_said x ≢ meeting_said f) first (subst (λ y. meeting_said (get_or events i f) ≢ meeting_said y) is_f
      (masters i j f l w (ap (λ (x : EventComponent). x.recurrence) first ∙ m) (ap (λ (x : EventComponent). x.recurrence) is_f ∙ n))))
      (λ slot m n. subst (λ x. meeting_said x ≢ meeting_said f) first (subst (λ y. meeting_said (get_or events i f) ≢ meeting_said y) is_f
      (overrides i j f l w slot (ap (λ (x : EventComponent). x.recurrence) first ∙ m) (ap (λ (x : EventComponent). x.recurrence) is_f ∙ n))))
      a b h k same
    where
      first : get_or events i f ≡ e
      first = get_or_default events i f e (omega (arith, l, w)) ∙ is_e

  -- an instance is one of one event
  pub one_event : (e f : EventComponent) → Contains events e → Contains events f → (a : Instance) → IsInstanceAmong events e a → IsInstanceAmong events f a → e ≡ f
  one_event e f c d a h k =
      elim (cases_order c.0 d.0) [
        | inl at ↦ sym c.2 ∙ ap (λ n. get_or events n e) at ∙ get_or_default events d.0 e f d.1 ∙ d.2
        | inr o ↦ elim o [
          | inl l ↦ absurd (at_places c.0 d.0 e f l d.1 c.2 d.2 a a h k refl)
          | inr l ↦ absurd (at_places d.0 c.0 f e l c.1 d.2 c.2 a a k h refl)
        ]
      ]

  -- confirmed instances of one key are one
  pub one_confirmed : (room : List ℕ) → All IsSaid events → (a b : Instance) → IsConfirmed room events a → IsConfirmed room events b → a.key ≡ b.key → a ≡ b
  one_confirmed room said a b h k same =
      elim (cases_order h.among.0 k.among.0) [
        | inl at ↦
            let one : h.event ≡ k.event = sym h.among.2 ∙ ap (λ n. get_or events n h.event) at ∙ get_or_default events k.among.0 h.event k.event k.among.1 ∙ k.among.2 in
            one_of_key k.event a b (All-contains IsSaid events k.event said k.among) (subst (λ (e : EventComponent). IsInstanceAmong events e a) one h.is).is k.is.is same
        | inr o ↦ elim o [
          | inl l ↦ absurd (at_places h.among.0 k.among.0 h.event k.event l k.among.1 h.among.2 k.among.2 a b h.is k.is same)
          | inr l ↦ absurd (at_places k.among.0 h.among.0 k.event h.event l h.among.1 k.among.2 h.among.2 b a k.is h.is (sym same))
        ]
      ]

  -- ---- lists of singles

  module _ (room : List ℕ) where
    -- one of the lists has it
    pub of_lists : (es : List EventComponent) (lists : List (List Instance)) (b : Instance) → AllZip (AreSingles room events) es lists → Contains (flat_map (λ own. own) lists) b
        → (e : EventComponent) × Contains es e × IsSingle room events e b
    of_lists [] [] b z c = absurd (none_in b c)
    of_lists [] (l ∷ ls) b z c = absurd z
    of_lists (e ∷ es) [] b z c = absurd z
    of_lists (e ∷ es) (l ∷ ls) b z c = go (parts l (flat_map (λ own. own) ls) b c) (λ d. of_lists es ls b z.1 d)
      where
        parts : (xs ys : List Instance) (y : Instance) → Contains (xs ++ ys) y → Contains xs y ⊎ Contains ys y
        parts [] ys y c = inr c
        parts (x ∷ xs) ys y (zero, w, e) = inl (zero, omega arith, e)
        parts (x ∷ xs) ys y (suc k, w, e) = elim (parts xs ys y (k, omega (arith, w), e)) [ inl c ↦ inl (later x y xs c) | inr c ↦ inr c ]

        go : Contains l b ⊎ Contains (flat_map (λ own. own) ls) b → (Contains (flat_map (λ own. own) ls) b → (f : EventComponent) × Contains es f × IsSingle room events f b)
            → (f : EventComponent) × Contains (e ∷ es) f × IsSingle room events f b
        go (inl c) rest = (e, (zero, omega arith, refl), All-contains (IsSingle room events e) l b z.0.each c)
        go (inr c) rest = let r = rest c in (r.0, later e r.0 es r.1, r.2)

    pub in_lists : (es : List EventComponent) (lists : List (List Instance)) (e : EventComponent) (b : Instance) → AllZip (AreSingles room events) es lists → Contains es e → IsSingle room events e b
        → Contains (flat_map (λ own. own) lists) b
    in_lists [] lists e b z c s = absurd (none_in e c)
    in_lists (x ∷ xs) [] e b z c s = absurd z
    in_lists (x ∷ xs) (l ∷ ls) e b z (zero, w, is) s = left l (flat_map (λ own. own) ls) b (z.0.all b (subst (λ (y : EventComponent). IsSingle room events y b) (sym is) s))
      where
        left : (xs ys : List Instance) (y : Instance) → Contains xs y → Contains (xs ++ ys) y
        left [] ys y c = absurd (none_in y c)
        left (x ∷ xs) ys y (zero, w, e) = (zero, omega arith, e)
        left (x ∷ xs) ys y (suc k, w, e) = later x y (xs ++ ys) (left xs ys y (k, omega (arith, w), e))
    in_lists (x ∷ xs) (l ∷ ls) e b z (suc k, w, is) s = right l (flat_map (λ own. own) ls) b (in_lists xs ls e b z.1 (k, omega (arith, w), is) s)
      where
        right : (xs ys : List Instance) (y : Instance) → Contains ys y → Contains (xs ++ ys) y
        right [] ys y c = c
        right (x ∷ xs) ys y c = later x y (xs ++ ys) (right xs ys y c)

    -- in one list the keys differ
    in_one : (e : EventComponent) (l : List Instance) → AreSingles room events e l → HaveDifferentKeys l
    in_one e l h = go l h.each h.ordered
      where
        differ : (a b : Instance) → IsSingle room events e a → IsSingle room events e b → ComesBefore a b → a.key ≡ b.key → ⊥
        differ a b x y before same = by (of_both e) before
          where
            by : (e.recurrence ≡ None) ⊎ ((slot : ℤ) × (e.recurrence ≡ Some slot)) → ComesBefore a b → ⊥
            by (inl m) (inl l) =
                let p = ap (λ (key : Key). key.slot) (sym (master_alone e a m x.is.is).key ∙ same ∙ (master_alone e b m y.is.is).key) in omega (arith, ints, p, l)
            by (inr (slot, m)) (inl l) = let p = (override_alone e a slot m x.is.is).starts ∙ sym (override_alone e b slot m y.is.is).starts in omega (arith, ints, p, l)
            by o (inr (s, l)) = let p = ap (λ (key : Key). key.slot) same in omega (arith, ints, p, l)

        go : (l : List Instance) → All (IsSingle room events e) l → AllPairs ComesBefore l → HaveDifferentKeys l
        go [] each p = λ i j d l w. absurd (omega (arith, w))
        go (x ∷ xs) each p =
            cons_pairs (λ a b. a.key ≢ b.key) x xs
            (λ y c. differ x y (All-contains (IsSingle room events e) (x ∷ xs) x each (zero, omega arith, refl)) (All-contains (IsSingle room events e) (x ∷ xs) y each (later x y xs c))
            (head_pairs ComesBefore x y xs p c))
            (go xs (λ k d w. each (suc k) d (omega (arith, w))) (tail_pairs ComesBefore x xs p))

    -- and in all of them
    pub lists_apart : (front es : List EventComponent) (lists : List (List Instance)) → events ≡ front ++ es → AllZip (AreSingles room events) es lists → HaveDifferentKeys (flat_map (λ own. own) lists)
    lists_apart front [] [] whole z = λ i j d l w. absurd (omega (arith, w))
    lists_apart front [] (l ∷ ls) whole z = absurd z
    lists_apart front (e ∷ es) [] whole z = absurd z
    lists_apart front (e ∷ es) (l ∷ ls) whole z =
        append_pairs (λ a b. a.key ≢ b.key) l (flat_map (λ own. own) ls) (in_one e l z.0)
        (lists_apart (front ++ e ∷ []) es ls (whole ∙ sym (append_assoc front (e ∷ []) es)) z.1)
        (λ a b c d.
        let r = of_lists es ls b z.1 d in
        at_places (length front) (length front + suc r.1.0) e r.0 (omega arith) (omega (arith, ap length whole, length-append front (e ∷ es), r.1.1))
        (ap (λ x. get_or x (length front) e) whole ∙ seam front (e ∷ es) (length front) 0 e (omega arith)) (ap (λ x. get_or x (length front + suc r.1.0) r.0) whole ∙ seam front (e ∷ es) (length front + suc r.1.0) (suc r.1.0) r.0 refl ∙ r.1.2)
        a b (All-contains (IsSingle room events e) l a z.0.each c).is r.2.is)
      where
        seam : (xs ys : List EventComponent) (i k : ℕ) (d : EventComponent) → i ≡ length xs + k → get_or (xs ++ ys) i d ≡ get_or ys k d
        seam xs ys i k d e = get_or-append_right xs ys (length xs) i d refl (omega (arith, e)) ∙ ap (λ n. get_or ys n d) (omega (arith, e))

-- ---- calendars

all_said : (object : Tree) (events : List EventComponent) → SayEvents object events → All IsSaid events
all_said object events s = All-from_recursion IsSaid events (go (vevents object) events s.each)
  where
    named : (words : List ℕ) × IsRoomZone words s.zone
    named = room_words (tree_own object) s.zone s.names

    go : (vs : List (List (List ℕ))) (es : List EventComponent) → AllZip (SaysPlaced s.zone object None) vs es → AllByRecursion IsSaid es
    go [] [] z = tt
    go [] (e ∷ es) z = absurd z
    go (v ∷ vs) [] z = absurd z
    go (v ∷ vs) (e ∷ es) z = (record { words = named.0; room = s.zone; named = named.1; object = object; lines = v; says = z.0 }, go vs es z.1)

module _ (tree : OneTree) (one : OneEvent) (words : OneRoomZone) (room octets : List ℕ) (all : Confirmed) (s : SpellsCalendar room octets all) where
  -- the octets say one list of events
  same_as : {b : Instance} (h : IsConfirmedIn room octets b) → h.events ≡ s.says.events
  same_as h =
      let same : h.tree ≡ s.tree = tree 7 7 (logical_lines octets) h.tree s.tree h.object.spelled s.object.spelled in
      same_events one words s.tree h.events s.says.events (subst (λ (t : Tree). SayEvents t h.events) same h.says) s.says.says

  of_events : (b : Instance) → IsConfirmedIn room octets b → IsConfirmed room s.says.events b
  of_events b h = subst (λ (es : List EventComponent). IsConfirmed room es b) (same_as h) h.is

  pub single : (b : Instance) → Contains all.singles b → IsConfirmedIn room octets b
  single b c =
      let e = of_lists s.says.events s.says.masters s.says.overrides room s.says.events s.says.are.lists b s.says.are.each (subst (λ (l : List Instance). Contains l b) s.says.are.singles c) in
      record {
        tree = s.tree;
        object = s.object;
        events = s.says.events;
        says = s.says.says;
        is = record { event = e.0; among = e.1; kept = e.2.kept; is = e.2.is };
      }

  -- what holds of each confirmed instance of the calendar's events holds of each in the octets
  for_each : (b : Instance) (p : EventComponent → Type 0) → ((k : IsConfirmed room s.says.events b) → p k.event) → (h : IsConfirmedIn room octets b) → p h.is.event
  for_each b p holds h =
      subst (λ (es : List EventComponent). (k : IsConfirmed room es b) → p k.event) (sym (same_as h)) holds h.is

  -- one that its master's rule doesn't give is a single
  left_over : (b : Instance) (h : IsConfirmedIn room octets b) → (IsOfSeries h.is.event b → ⊥) → Contains all.singles b
  left_over b h =
      for_each b (λ e. (IsOfSeries e b → ⊥) → Contains all.singles b)
      (λ k apart.
      subst (λ (l : List Instance). Contains l b) (sym s.says.are.singles)
      (in_lists s.says.events s.says.masters s.says.overrides room s.says.events s.says.are.lists k.event b s.says.are.each k.among (record { kept = k.kept; is = k.is; apart = apart })))
      h

  -- the master of a series
  record IsOf (series : Whole) : Type 0 where
    master : EventComponent
    among : Contains s.says.events master
    kept : is_kept room master ≡ true
    is : is_master master ≡ true
    rule : is_some master.rule ≡ true
    of : IsSeries s.says.events master series

  master_of : (series : Whole) → Contains all.series series → IsOf series
  master_of series c =
      let r = zip_back (IsSeries s.says.events) (filter (is_series room) s.says.events) all.series series s.says.are.series c in
      let f = of_filtered (is_series room) s.says.events r.0 r.1 in
      let p = and_parts (is_kept room r.0 && is_master r.0) (is_some r.0.rule) f.1 in
      let q = and_parts (is_kept room r.0) (is_master r.0) p.0 in
      record { master = r.0; among = f.0; kept = q.0; is = q.1; rule = p.1; of = r.2 }

  -- some VEVENT says its times and its rule
  pub are_said : AreSaidSeries all.series
  are_said series c =
      let m = master_of series c in
      let said = All-contains IsSaid s.says.events m.master (all_said s.tree s.says.events s.says.says) m.among in
      merely (record {
        words = said.words;
        room = said.room;
        named = said.named;
        object = said.object;
        method = None;
        lines = said.lines;
        event = m.master;
        says = said.says;
        master = by_its_rule m.master m.of.exceptions;
        is = m.of.is;
        times = refl;
        rule = refl;
        recurs = m.rule;
        none_added = refl;
      })

  -- what is of a series is confirmed
  pub series_confirmed : (b : Instance) → IsInSeries all.series b → IsConfirmedIn room octets b
  series_confirmed b (series, c, h) =
      let m = master_of series c in
      record {
        tree = s.tree;
        object = s.object;
        events = s.says.events;
        says = s.says.says;
        is = record { event = m.master; among = m.among; kept = m.kept; is = (of_its_series s.says.events m.master m.is series m.of m.rule b h).0 };
      }

  -- and no single
  pub no_single : (b : Instance) → Contains all.singles b → IsInSeries all.series b → ⊥
  no_single b c (series, d, h) =
      let m = master_of series d in
      let x = of_its_series s.says.events m.master m.is series m.of m.rule b h in
      let e = of_lists s.says.events s.says.masters s.says.overrides room s.says.events s.says.are.lists b s.says.are.each (subst (λ (l : List Instance). Contains l b) s.says.are.singles c) in
      e.2.apart (subst (λ (f : EventComponent). IsOfSeries f b) (one_event s.says.events s.says.masters s.says.overrides m.master e.0 m.among e.1 b x.0 e.2.is) x.1)

  -- one whose master's rule gives its start is of a series
  in_series : (b : Instance) (h : IsConfirmedIn room octets b) → IsOfSeries h.is.event b → IsInSeries all.series b
  in_series b h =
      for_each b (λ e. IsOfSeries e b → IsInSeries all.series b)
      (λ k series.
      let kept : is_series room k.event ≡ true =
      ap (λ x. x && is_master k.event && is_some k.event.rule) k.kept ∙ ap (λ x. x && is_some k.event.rule) series.master ∙ ap is_some series.has in
      let r = zip_with (IsSeries s.says.events) (filter (is_series room) s.says.events) all.series k.event s.says.are.series (in_filtered (is_series room) s.says.events k.event k.among kept) in
      (r.0, r.1, in_its_series s.says.events k.event series.master r.0 r.2 b k.is series))
      h

  -- each other one is a single
  pub other_single : (b : Instance) (h : IsConfirmedIn room octets b) → (IsInSeries all.series b → ⊥) → Contains all.singles b
  other_single b h none = left_over b h (λ series. none (in_series b h series))

  pub all_single : all.series ≡ [] → (b : Instance) → IsConfirmedIn room octets b → Contains all.singles b
  all_single none b h = other_single b h (λ x. none_in x.0 (subst (λ (l : List Whole). Contains l x.0) none x.1))

  pub one_key : (a b : Instance) → IsConfirmedIn room octets a → IsConfirmedIn room octets b → a.key ≡ b.key → a ≡ b
  one_key a b h k same =
      one_confirmed s.says.events s.says.masters s.says.overrides room (all_said s.tree s.says.events s.says.says) a b (of_events a h) (of_events b k) same
