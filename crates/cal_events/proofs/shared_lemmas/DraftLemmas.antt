-- A calendar while its VEVENTs are read: one more VEVENT, and what overrides hide in the end.
-- Cited by Calendar::of_object of calendar, Calendar::read of calendar, Draft::add of draft, Draft::into_calendar of draft, add_singles of draft, without_hidden of draft.
use Rattle.std.proofs.Common.{◌≡◌, ◌∙◌, ℕ, zero, suc, ◌+◌, ◌-◌, ◌<◌, Bool, true, false, cond, List, [], ◌∷◌, ◌++◌, map, filter, take, length, get_or, subst, sym, refl, ap, inl, inr, ◌⊎◌, arith, ℤ, pos, Ordering}
use Rattle.std.specs.Prelude.{Some, None, All, Contains, Result, Ok, Err, IfErr, is_some, not, ◌&&◌, ◌||◌, ◌==◌}
use Rattle.std.specs.List.{AllZip, flat_map, list_any}
use Rattle.std.proofs.lemmas.Bool.{true≢false, false≢true, and_parts}
use Rattle.std.proofs.lemmas.Bool.Decides.{nat_tests}
use Rattle.std.proofs.lemmas.List.{map-append, take_more, append_assoc, append-nil, get_or-map, get_or_default, length-map, length-append, get_or-append_right}
use Rattle.std.proofs.lemmas.List.Elements.{All-nil, All-tail, All-append, All-contains, All-filter, filter-append}
use Rattle.std.proofs.lemmas.List.Kept.{AllPairs-filter}
use Rattle.std.proofs.lemmas.List.Folds.{list_any_at}
use Rattle.std.proofs.lemmas.List.Sorted.{Contains-permutation, IsPermutation-sym}
use Rattle.std.specs.List.Sorted.{IsPermutation}
use Rattle.std.specs.Ordering.{is_eq}
use Rattle.std.specs.declared.cmp.Ordering.TheVariants.{Less, Equal, Greater}
use Rattle.profile.specs.checker.Instances.{Key, Instance, key_cmp}
use Rattle.profile.specs.events.EventComponents.{EventComponent, meeting_said}
use Rattle.profile.specs.events.Events.{is_master}
use Rattle.profile.specs.events.Starts.{IsInstance, ComesBefore}
use Rattle.profile.specs.events.Confirmed.{Confirmed, alone, is_kept, is_series, IsSeries, IsReplacedAmong, IsSingle, AreSingles, AreConfirmed, MastersDiffer, OverridesDiffer}
use Rattle.cal_events.specs.Entries.{Name}
use Rattle.cal_events.specs.Names.{name_said, name_at, meeting_at, recurrence_at}
use Rattle.cal_events.specs.Naming.{IsNaming}
use Rattle.cal_events.specs.Calendar.{key_of, key_in, instance_as, named_instance, AreWithin, HaveDifferentKeys}
use Rattle.ical_lines.specs.Fault.{RefusesBy}
use Rattle.ical_lines.specs.declared.fault.Fault.{Fault}
use Rattle.ical_lines.specs.declared.fault.Fault.TheVariants.{Refused, Memory}
use Rattle.profile.specs.text.Trees.{Tree}
use Rattle.profile.specs.checker.Calendars.{SayEvents, CalendarFault, CalendarTextFault, two_masters, two_overrides, in_vevents}
use Rattle.cal_events.specs.Draft.{IsTwoOf, IsSaid, IsDraftIn, override_keys, IsOwnInstance, AreOwnAt, AreDrawn, IsDraft, IsMadeAt, AreSinglesShown, is_shown_in}
use Rattle.cal_events.specs.Masters.{AreMasters, AreRuled}
use Rattle.cal_events.specs.declared.instance.InstanceKey.{InstanceKey}
use Rattle.cal_events.specs.declared.calendar.PlacedSingle.{PlacedSingle as Single}
use Rattle.cal_events.specs.declared.draft.Draft.{Draft}
use Rattle.cal_events.specs.Component.{component_of}
use Rattle.cal_events.proofs.shared_lemmas.InOneOrder.{later, in_mapped, of_mapped, in_filtered, of_filtered, pairs_mapped, mapped_pairs}
use Rattle.cal_events.proofs.shared_lemmas.EventLemmas.{push_zip}
use Rattle.cal_events.proofs.reading_lemmas.ConfirmedLemmas.{lists_apart}
use Rattle.cal_events.proofs.draft_lemmas.KeyLemmas.{key_exact, key_itself}
use Rattle.cal_events.specs.Ruled.{IsRuledBeside}
use Rattle.cal_events.specs.Series.{series_said}
use Rattle.cal_events.specs.declared.series.Series.{Series}
use Rattle.cal_events.proofs.shared_lemmas.SeriesLemmas.{replaced_at, at_replaced, series_made, zip_mapped}
use Rattle.cal_events.proofs.shared_lemmas.OwnSingles.{of_both, master_alone, not_a_master}

-- ---- one more VEVENT

pub drawn_push : (room : List ℕ) (place : ℕ) (events : List EventComponent) (event : EventComponent) (singles own : List Single) → AreDrawn room place events singles
    → AreOwnAt room (place + length events) event own → AreDrawn room place (events ++ event ∷ []) (singles ++ own)
drawn_push room place [] event singles own e h =
    (own, [], ap (λ (l : List Single). l ++ own) e ∙ sym (append-nil own), subst (λ (n : ℕ). AreOwnAt room n event own) (omega arith) h, refl)
drawn_push room place (x ∷ events) event singles own (first, rest, e, at, more) h = (
  first,
  rest ++ own,
  ap (λ (l : List Single). l ++ own) e ∙ append_assoc first rest own,
  at,
  drawn_push room (suc place) events event rest own more (subst (λ (n : ℕ). AreOwnAt room n event own) (omega arith) h),
)

-- an event that isn't kept has none
pub none_own : (room : List ℕ) (place : ℕ) (event : EventComponent) → is_kept room event ≡ false → AreOwnAt room place event []
none_own room place event h = record {
  at = All-nil (λ s. s.entry ≡ place);
  are = record {
    each = All-nil (IsOwnInstance room event);
    ordered = λ i j d l w. absurd (omega (arith, w));
    all = λ b own. absurd (true≢false (sym own.kept ∙ h));
  };
}

-- without overrides all are shown
pub none_hidden : (entries : List Name) (overrides : List InstanceKey) (singles : List Single) → (length overrides == 0) ≡ true → singles ≡ filter (is_shown_in entries (map key_of overrides)) singles
none_hidden entries (o ∷ os) singles h = absurd (grind (arith, nat_tests, h))
none_hidden entries [] [] h = refl
none_hidden entries [] (s ∷ ss) h = shown (is_some (recurrence_at entries s.entry)) (none_hidden entries [] ss h)
  where
    shown : (b : Bool) → ss ≡ filter (is_shown_in entries []) ss → s ∷ ss ≡ cond (b || true) (s ∷ filter (is_shown_in entries []) ss) (filter (is_shown_in entries []) ss)
    shown true e = ap (λ (l : List Single). s ∷ l) e
    shown false e = ap (λ (l : List Single). s ∷ l) e

-- ---- one more VEVENT, with all that it adds

module _ (room : List ℕ) (events : List EventComponent) (event : EventComponent) (old new : Draft) (draft : IsDraft room events old) where
  as_many : length old.entries ≡ length events
  as_many = ap length draft.entries ∙ length-map events name_said

  pub draft_more : IsSaid event → (own : List Single) → new.entries ≡ old.entries ++ name_said event ∷ [] → (at : ℕ) → new.begins.items ≡ old.begins.items ++ at ∷ [] → new.singles.items ≡ old.singles.items ++ own
      → AreOwnAt room (length old.entries) event own → map component_of new.series.items ≡ map component_of old.series.items ++ cond (is_series room event) (event ∷ []) []
      → IsNaming room (events ++ event ∷ []) new.naming → IsDraft room (events ++ event ∷ []) new
  draft_more spoken own e begun b s at series naming = record {
    said = All-append IsSaid events (event ∷ []) draft.said (λ k d w. first_said k d w);
    entries = e ∙ ap (λ l. l ++ name_said event ∷ []) draft.entries ∙ sym (map-append name_said events (event ∷ []));
    begins = ap length b ∙ length-append old.begins.items (begun ∷ []) ∙ ap (λ n. n + 1) draft.begins ∙ sym (length-append events (event ∷ []));
    series = series ∙ ap (λ l. l ++ cond (is_series room event) (event ∷ []) []) draft.series ∙ sym (filter-append (is_series room) events (event ∷ []));
    singles =
        subst (AreDrawn room 0 (events ++ event ∷ [])) (sym s)
        (drawn_push room 0 events event old.singles.items own draft.singles (subst (λ (n : ℕ). AreOwnAt room n event own) (omega (arith, as_many)) at));
    naming = naming;
  }
    where
      first_said : (k : ℕ) (d : EventComponent) → k < 1 → IsSaid (get_or (event ∷ []) k d)
      first_said zero d w = spoken
      first_said (suc k) d w = absurd (omega (arith, w))

-- one more series, or none
pub more_series : (room : List ℕ) (event : EventComponent) (old new : List EventComponent) (b : Bool) → is_series room event ≡ b → new ≡ old ++ cond b (event ∷ []) [] → new ≡ old ++ cond (is_series room event) (event ∷ []) []
more_series room event old new b h e = e ∙ ap (λ x. old ++ cond x (event ∷ []) []) (sym h)

pub within_all : (room : List ℕ) (place : ℕ) (events : List EventComponent) (singles : List Single) → AreDrawn room place events singles → All (λ s. s.entry < place + length events) singles
within_all room place [] singles e = subst (All (λ s. s.entry < place + 0)) (sym e) (All-nil (λ s. s.entry < place + 0))
within_all room place (x ∷ events) singles (own, rest, e, at, more) =
    subst (All (λ s. s.entry < place + suc (length events))) (sym e)
    (All-append (λ s. s.entry < place + suc (length events)) own rest
    (λ k d w. let l = at.at k d w in omega (arith, l))
    (λ k d w. let l = within_all room (suc place) events rest more k d w in omega (arith, l)))

-- ---- what overrides hide

same_mapped : {X Y : Type 0} (f g : X → Y) (xs : List X) → All (λ x. f x ≡ g x) xs → map f xs ≡ map g xs
same_mapped f g [] h = refl
same_mapped f g (x ∷ xs) h = let e = h 0 x (omega arith) in let t = same_mapped f g xs (All-tail (λ x. f x ≡ g x) x xs h) in λ i. e i ∷ t i

all_filtered : {X : Type 0} (P : X → Type 0) (p : X → Bool) (xs : List X) → All P xs → All P (filter p xs)
all_filtered P p xs h k d w = All-filter p P xs h k d w

module _ (room : List ℕ) (events : List EventComponent) (entries : List Name) (said : entries ≡ map name_said events) (keys : List Key) (same : IsPermutation (override_keys entries) keys) where
  abbrev shown : Single → Bool
  shown = is_shown_in entries keys

  -- what is at a place of the entries
  named : (k : ℕ) (event : EventComponent) → k < length events → get_or events k event ≡ event → (recurrence_at entries k ≡ event.recurrence) × (meeting_at entries k ≡ meeting_said event)
  named k event w e =
      let at : name_at entries k ≡ name_said event = ap (λ l. name_at l k) said ∙ get_or-map name_said events k event (([], []), None) w ∙ ap name_said e in
      (ap (λ (n : Name). n.1) at, ap (λ (n : Name). n.0) at)

  -- a single is shown where no override replaces its slot
  module _ (k : ℕ) (event : EventComponent) (w : k < length events) (e : get_or events k event ≡ event) (s : Single) (at : s.entry ≡ k) where
    abbrev own : Key
    own = key_in (meeting_said event) s.slot

    found : list_any (λ key. is_eq (key_cmp key own)) keys ≡ true → IsReplacedAmong events event s.slot
    found h =
        let r = any_key keys h in
        replaced_at events entries said event s.slot (Contains-permutation keys (override_keys entries) own (IsPermutation-sym (override_keys entries) keys same) (subst (Contains keys) (key_exact r.0 own r.2) r.1))
      where
        any_key : (ks : List Key) → list_any (λ key. is_eq (key_cmp key own)) ks ≡ true → (x : Key) × Contains ks x × (key_cmp x own ≡ Equal)
        any_key [] h = absurd (false≢true h)
        any_key (x ∷ xs) h = go (key_cmp x own) refl h (λ t. any_key xs t)
          where
            go : (r : Ordering) → key_cmp x own ≡ r → (is_eq r || list_any (λ key. is_eq (key_cmp key own)) xs) ≡ true
                → (list_any (λ key. is_eq (key_cmp key own)) xs ≡ true → (y : Key) × Contains xs y × (key_cmp y own ≡ Equal)) → (y : Key) × Contains (x ∷ xs) y × (key_cmp y own ≡ Equal)
            go Less e h rest = let r = rest h in (r.0, later x r.0 xs r.1, r.2)
            go Equal e h rest = (x, (zero, omega arith, refl), e)
            go Greater e h rest = let r = rest h in (r.0, later x r.0 xs r.1, r.2)

    lost : IsReplacedAmong events event s.slot → list_any (λ key. is_eq (key_cmp key own)) keys ≡ true
    lost r =
        let c = Contains-permutation (override_keys entries) keys own same (at_replaced events entries said event s.slot r) in
        list_any_at (λ key. is_eq (key_cmp key own)) keys c.0 own c.1 (ap (λ key. is_eq (key_cmp key own)) c.2 ∙ ap is_eq (key_itself own))

    decided : shown s ≡ (is_some event.recurrence || not (list_any (λ key. is_eq (key_cmp key own)) keys))
    decided =
        let n = named k event w e in
        ap (λ j. is_some (recurrence_at entries j) || not (list_any (λ key. is_eq (key_cmp key (key_in (meeting_at entries j) s.slot))) keys)) at
        ∙ ap (λ r. is_some r || not (list_any (λ key. is_eq (key_cmp key (key_in (meeting_at entries k) s.slot))) keys)) n.0
        ∙ ap (λ m. is_some event.recurrence || not (list_any (λ key. is_eq (key_cmp key (key_in m s.slot))) keys)) n.1

    pub shown_so : shown s ≡ true → is_master event ≡ true → IsReplacedAmong events event s.slot → ⊥
    shown_so h master r = both (is_some event.recurrence) _ master (sym decided ∙ h) (lost r)
      where
        both : (a b : Bool) → not a ≡ true → (a || not b) ≡ true → b ≡ true → ⊥
        both true b m h t = false≢true m
        both false true m h t = false≢true h
        both false false m h t = false≢true t

    pub so_shown : (is_master event ≡ true → IsReplacedAmong events event s.slot → ⊥) → shown s ≡ true
    so_shown h = decided ∙ either (is_some event.recurrence) _ (λ m t. h m (found t))
      where
        either : (a b : Bool) → (not a ≡ true → b ≡ true → ⊥) → (a || not b) ≡ true
        either true b h = refl
        either false true h = absurd (h refl refl)
        either false false h = refl

  -- those of one event that are shown
  shown_list : (k : ℕ) (event : EventComponent) → k < length events → get_or events k event ≡ event → (own : List Single) → AreOwnAt room k event own
      → AreSingles room events event (map (instance_as (meeting_said event)) (filter shown own))
  shown_list k event w e own h = record {
    each = λ i d v. one (get_or (map f (filter shown own)) i d) (of_mapped f (filter shown own) (get_or (map f (filter shown own)) i d) (i, v, get_or_default (map f (filter shown own)) i _ d v));
    ordered = pairs_mapped ComesBefore f (filter shown own) (AllPairs-filter (λ a b. ComesBefore (f a) (f b)) shown own (mapped_pairs ComesBefore f own h.are.ordered));
    all = all;
  }
    where
      f : Single → Instance
      f = instance_as (meeting_said event)

      -- of a master the slot is the start
      own_start : (s : Single) → IsInstance (alone event) (instance_as (meeting_said event) s) → is_master event ≡ true → s.slot ≡ s.start
      own_start s is master = go (of_both event)
        where
          go : (event.recurrence ≡ None) ⊎ ((slot : ℤ) × (event.recurrence ≡ Some slot)) → s.slot ≡ s.start
          go (inl none) = ap (λ (key : Key). key.slot) (master_alone event (instance_as (meeting_said event) s) none is).key
          go (inr (slot, some)) = absurd (not_a_master event slot some master)

      entry_of_it : (s : Single) → Contains own s → s.entry ≡ k
      entry_of_it s c = All-contains (λ x. x.entry ≡ k) own s h.at c

      one : (b : Instance) → (s : Single) × Contains (filter shown own) s × (instance_as (meeting_said event) s ≡ b) → IsSingle room events event b
      one b (s, c, is) =
          let there = of_filtered shown own s c in
          let own_one = All-contains (IsOwnInstance room event) (map (instance_as (meeting_said event)) own) (instance_as (meeting_said event) s) h.are.each (in_mapped (instance_as (meeting_said event)) own s there.0) in
          subst (IsSingle room events event) is (record {
            kept = own_one.kept;
            is = record {
              is = own_one.is;
              shown = λ master r. shown_so k event w e s (entry_of_it s there.0) there.1 master (subst (IsReplacedAmong events event) (sym (own_start s own_one.is master)) r);
            };
            apart = own_one.apart;
          })

      all : (b : Instance) → IsSingle room events event b → Contains (map (instance_as (meeting_said event)) (filter shown own)) b
      all b single =
          let r = of_mapped (instance_as (meeting_said event)) own b (h.are.all b (record { kept = single.kept; is = single.is.is; apart = single.apart })) in
          let s = r.0 in
          let is = subst (IsInstance (alone event)) (sym r.2) single.is.is in
          subst (Contains (map (instance_as (meeting_said event)) (filter shown own))) r.2
          (in_mapped (instance_as (meeting_said event)) (filter shown own) s (in_filtered shown own s r.1 (so_shown k event w e s (entry_of_it s r.1) (λ master x.
          single.is.shown master (subst (IsReplacedAmong events event) (own_start s is master ∙ ap (λ (y : Instance). y.start) r.2) x)))))

  -- of all of them
  pub shown_lists : (front es : List EventComponent) → events ≡ front ++ es → (singles : List Single) → AreDrawn room (length front) es singles
      → (lists : List (List Instance)) × AllZip (AreSingles room events) es lists × (map (named_instance entries) (filter shown singles) ≡ flat_map (λ own. own) lists)
  shown_lists front [] whole singles none = ([], tt, ap (λ l. map (named_instance entries) (filter shown l)) none)
  shown_lists front (event ∷ es) whole singles (own, rest, is, at, more) =
      let k = length front in
      let none_left : k - k ≡ 0 = omega arith in
      let w : k < length events = omega (arith, ap length whole, length-append front (event ∷ es)) in
      let e : get_or events k event ≡ event = ap (λ l. get_or l k event) whole ∙ get_or-append_right front (event ∷ es) k k event refl (omega arith) ∙ ap (λ n. get_or (event ∷ es) n event) none_left in
      let after : events ≡ (front ++ event ∷ []) ++ es = whole ∙ sym (append_assoc front (event ∷ []) es) in
      let next : suc k ≡ length (front ++ event ∷ []) = omega (arith, length-append front (event ∷ [])) in
      let r = shown_lists (front ++ event ∷ []) es after rest (subst (λ (n : ℕ). AreDrawn room n es rest) next more) in
      let n = named k event w e in
      let booked : map (named_instance entries) (filter shown own) ≡ map (instance_as (meeting_said event)) (filter shown own) =
      same_mapped (named_instance entries) (instance_as (meeting_said event)) (filter shown own)
      (all_filtered (λ s. named_instance entries s ≡ instance_as (meeting_said event) s) shown own (λ i d v. ap (λ m. instance_as m (get_or own i d)) (ap (meeting_at entries) (at.at i d v) ∙ n.1))) in (
        map (instance_as (meeting_said event)) (filter shown own) ∷ r.0,
        (shown_list k event w e own at, r.1),
        ap (λ l. map (named_instance entries) (filter shown l)) is ∙ ap (map (named_instance entries)) (filter-append shown own rest)
            ∙ map-append (named_instance entries) (filter shown own) (filter shown rest)
            ∙ ap (λ l. l ++ map (named_instance entries) (filter shown rest)) booked ∙ ap (λ l. map (instance_as (meeting_said event)) (filter shown own) ++ l) r.2,
      )

-- ---- the starts of a master, one after another

pub made_more : (place : ℕ) (event : EventComponent) (xs : List ℤ) (k : ℕ) (first old new : List Single) (s : Single) → k < length xs
    → (own : List Single) × (old ≡ first ++ own) × AllZip (IsMadeAt place event) (take k xs) own → new ≡ old ++ s ∷ [] → IsMadeAt place event (get_or xs k (pos 0)) s
    → (own : List Single) × (new ≡ first ++ own) × AllZip (IsMadeAt place event) (take (k + 1) xs) own
made_more place event xs k first old new s w (own, e, z) n made = (
  own ++ s ∷ [],
  n ∙ ap (λ (l : List Single). l ++ s ∷ []) e ∙ append_assoc first own (s ∷ []),
  subst (λ (l : List ℤ). AllZip (IsMadeAt place event) l (own ++ s ∷ [])) (sym (take_more xs k (pos 0) w)) (push_zip (IsMadeAt place event) (take k xs) own (get_or xs k (pos 0)) s z made),
)

-- ---- what becomes of a draft

module _ (room : List ℕ) (events : List EventComponent) (draft : Draft) (d : IsDraft room events draft) where
  pub within_entries : AreWithin draft.entries draft.singles.items
  within_entries k s w =
      let l = within_all room 0 events draft.singles.items d.singles k s w in
      let many : length draft.entries ≡ length events = ap length d.entries ∙ length-map events name_said in
      omega (arith, l, many)

  -- the masters of its series have RRULE
  pub masters_of : AreMasters draft.series.items
  masters_of k x w =
      let m = get_or draft.series.items k x in
      let there = in_mapped component_of draft.series.items m (k, w, get_or_default draft.series.items k m x w) in
      let f = of_filtered (is_series room) events (component_of m) (subst (λ es. Contains es (component_of m)) d.series there) in
      let p = and_parts (is_kept room (component_of m) && is_master (component_of m)) (is_some m.rule) f.1 in
      let q = and_parts (is_kept room (component_of m)) (is_master (component_of m)) p.0 in
      record { said = All-contains IsSaid events (component_of m) d.said f.0; is = q.1; rule = p.1 }

  module _ (left : List Single) (shown : AreSinglesShown draft.entries draft.singles.items left) where
    lists : (lists : List (List Instance)) × AllZip (AreSingles room events) events lists × (map (named_instance draft.entries) left ≡ flat_map (λ own. own) lists)
    lists =
        let r = shown_lists room events draft.entries d.entries shown.keys shown.same [] events refl draft.singles.items d.singles in
        (r.0, r.1, ap (map (named_instance draft.entries)) shown.is ∙ r.2)

    pub confirmed_of : (series : List Series) → AreRuled draft.entries draft.series.items series
        → AreConfirmed room events (record { series = map series_said series; singles = map (named_instance draft.entries) left })
    confirmed_of series ruled = record {
      series =
          subst (λ es. AllZip (IsSeries events) es (map series_said series)) d.series
          (zip_mapped (IsSeries events) (λ m s. IsRuledBeside ruled.keys (component_of m) (series_said s)) component_of series_said
          (λ m s h. series_made events draft.entries d.entries ruled.keys ruled.same (component_of m) (series_said s) h) draft.series.items series ruled.each);
      lists = lists.0;
      each = lists.1;
      singles = lists.2;
    }

    pub left_within : AreWithin draft.entries left
    left_within =
        subst (AreWithin draft.entries) (sym shown.is) (All-filter (is_shown_in draft.entries shown.keys) (λ s. s.entry < length draft.entries) draft.singles.items within_entries)

    pub different_keys : MastersDiffer events → OverridesDiffer events → HaveDifferentKeys (map (named_instance draft.entries) left)
    different_keys masters overrides = subst HaveDifferentKeys (sym lists.2) (lists_apart events masters overrides room [] events lists.0 refl lists.1)

-- ---- the calendar that becomes of it

pub calendar_refused : (object : Tree) (events : List EventComponent) (r : Result Confirmed Fault) → SayEvents object events → IfErr r (RefusesBy (IsTwoOf events)) → IfErr r (RefusesBy (CalendarFault object))
calendar_refused object events (Ok c) says h = tt
calendar_refused object events (Err Memory) says h = tt
calendar_refused object events (Err (Refused x)) says (inl (n, twins)) = subst (CalendarFault object) (sym n) (two_masters events says twins)
calendar_refused object events (Err (Refused x)) says (inr (n, twins)) = subst (CalendarFault object) (sym n) (two_overrides events says twins)

-- of octets
module _ (room octets : List ℕ) (draft : Draft) (d : IsDraftIn room octets draft) where
  pub text_refused : (r : Result Confirmed Fault) → IfErr r (RefusesBy (IsTwoOf d.of.events)) → IfErr r (RefusesBy (CalendarTextFault octets))
  text_refused (Ok c) h = tt
  text_refused (Err Memory) h = tt
  text_refused (Err (Refused x)) h = in_vevents d.tree d.object (calendar_refused d.tree d.of.events (Err (Refused x)) d.of.says h)

  -- and of the fault alone
  pub text_refused_by : (f : Fault) → RefusesBy (IsTwoOf d.of.events) f → RefusesBy (CalendarTextFault octets) f
  text_refused_by f h = text_refused (Err f) h
