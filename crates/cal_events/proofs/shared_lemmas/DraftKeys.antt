-- The keys of masters and overrides: no two are one exactly where no two masters are of one meeting, and no two overrides for one instance.
-- Cited by Draft::into_calendar of draft, keys_of_masters of draft, keys_of_overrides of draft, candidates of single_starts, is_on_rule of single_starts.
use Rattle.std.proofs.Common.{◌≡◌, ◌≢◌, ◌∙◌, ℕ, zero, suc, ◌+◌, ◌<◌, ◌≤◌, inl, inr, true, false, List, [], ◌∷◌, ◌++◌, map, take, length, get_or, subst, sym, refl, ap, arith, ℤ, pos}
use Rattle.std.specs.Prelude.{Option, Some, None, AllPairs, Contains, is_some}
use Rattle.std.proofs.lemmas.Bool.{cases_lt, true≢false}
use Rattle.std.specs.List.{filter_map, cons_option}
use Rattle.std.proofs.lemmas.Option.{same_Some}
use Rattle.std.proofs.lemmas.List.{map-append, take_more, append-nil, get_or_default}
use Rattle.std.proofs.lemmas.List.Elements.{filter_map-append}
use Rattle.profile.specs.checker.Instances.{Key}
use Rattle.profile.specs.events.EventComponents.{EventComponent, meeting_said}
use Rattle.profile.specs.events.Confirmed.{MastersDiffer, OverridesDiffer}
use Rattle.cal_events.specs.Entries.{MeetingName, Name}
use Rattle.cal_events.specs.Names.{name_said, name_at}
use Rattle.cal_events.specs.Calendar.{key_of, key_in}
use Rattle.cal_events.specs.Draft.{master_key, override_key, master_keys, override_keys}
use Rattle.cal_events.specs.declared.instance.InstanceKey.{InstanceKey}
use Rattle.cal_events.proofs.shared_lemmas.InOneOrder.{later, none_in, head_pairs, tail_pairs, cons_pairs}

-- ---- one more VEVENT

module _ (f : Name → Option Key) (names : List Name) (i : ℕ) (w : i < length names) (keys : List InstanceKey) (so_far : map key_of keys ≡ filter_map f (take i names)) where
  more : filter_map f (take (i + 1) names) ≡ filter_map f (take i names) ++ filter_map f (name_at names i ∷ [])
  more = ap (filter_map f) (take_more names i (([], []), None) w) ∙ filter_map-append f (take i names) (name_at names i ∷ [])

  pub key_pushed : (new : List InstanceKey) (k : InstanceKey) → f (name_at names i) ≡ Some (key_of k) → new ≡ keys ++ k ∷ [] → map key_of new ≡ filter_map f (take (i + 1) names)
  key_pushed new k h n =
      ap (map key_of) n ∙ map-append key_of keys (k ∷ []) ∙ ap (λ l. l ++ key_of k ∷ []) so_far ∙ ap (λ o. filter_map f (take i names) ++ cons_option o []) (sym h) ∙ sym more

  pub key_passed : (new : List InstanceKey) → f (name_at names i) ≡ None → new ≡ keys → map key_of new ≡ filter_map f (take (i + 1) names)
  key_passed new h n =
      ap (map key_of) n ∙ so_far ∙ sym (append-nil (filter_map f (take i names))) ∙ ap (λ o. filter_map f (take i names) ++ cons_option o []) (sym h) ∙ sym more

-- two that differ are two keys
fewer : (f : Name → Option Key) (names : List Name) → length (filter_map f names) ≤ length names
fewer f [] = omega arith
fewer f (x ∷ names) = go (f x) (fewer f names)
  where
    go : (found : Option Key) → length (filter_map f names) ≤ length names → length (cons_option found (filter_map f names)) ≤ suc (length names)
    go None h = omega (arith, h)
    go (Some k) h = omega (arith, h)

pub two_keys : (f : Name → Option Key) (names : List Name) → (AllPairs ◌≢◌ (filter_map f names) → ⊥) → 1 < length names
two_keys f names twins =
    elim (cases_lt 1 (length names)) [
      | inl h ↦ h
      | inr few ↦ absurd (twins (λ i j d l w. absurd (omega (arith, l, w, few, fewer f names))))
    ]

pub none_there : {X : Type 0} (o : Option X) → is_some o ≡ false → o ≡ None
none_there None h = refl
none_there (Some x) h = absurd (true≢false h)

pub some_there : {X : Type 0} (o : Option X) → is_some o ≡ true → (x : X) × (o ≡ Some x)
some_there None h = absurd (true≢false (sym h))
some_there (Some x) h = (x, refl)

-- ---- those of a list of events

module _ (f : Name → Option Key) where
  keys_of : List EventComponent → List Key
  keys_of events = filter_map f (map name_said events)

  -- a key is that of an event
  pub key_there : (events : List EventComponent) (k : Key) → Contains (filter_map f (map name_said events)) k → (o : EventComponent) × Contains events o × (f (name_said o) ≡ Some k)
  key_there [] k c = absurd (none_in k c)
  key_there (x ∷ xs) k c = go (f (name_said x)) refl c (λ d. key_there xs k d)
    where
      pass : (o : EventComponent) × Contains xs o × (f (name_said o) ≡ Some k) → (o : EventComponent) × Contains (x ∷ xs) o × (f (name_said o) ≡ Some k)
      pass (o, c, h) = (o, later x o xs c, h)

      go : (r : Option Key) → f (name_said x) ≡ r → Contains (cons_option r (filter_map f (map name_said xs))) k
          → (Contains (filter_map f (map name_said xs)) k → (o : EventComponent) × Contains xs o × (f (name_said o) ≡ Some k)) → (o : EventComponent) × Contains (x ∷ xs) o × (f (name_said o) ≡ Some k)
      go None e c rest = pass (rest c)
      go (Some y) e (zero, w, is) rest = (x, (zero, omega arith, refl), e ∙ ap Some is)
      go (Some y) e (suc j, w, is) rest = pass (rest (j, omega (arith, w), is))

  pub there_key : (events : List EventComponent) (o : EventComponent) (k : Key) → Contains events o → f (name_said o) ≡ Some k → Contains (filter_map f (map name_said events)) k
  there_key [] o k c h = absurd (none_in o c)
  there_key (x ∷ xs) o k (zero, w, e) h = subst (λ r. Contains (cons_option r (filter_map f (map name_said xs))) k) (sym (ap (λ y. f (name_said y)) e ∙ h)) (zero, omega arith, refl)
  there_key (x ∷ xs) o k (suc j, w, e) h = go (f (name_said x)) (there_key xs o k (j, omega (arith, w), e) h)
    where
      go : (r : Option Key) → Contains (filter_map f (map name_said xs)) k → Contains (cons_option r (filter_map f (map name_said xs))) k
      go None c = c
      go (Some y) c = later y k (filter_map f (map name_said xs)) c

  -- no two keys are one
  pub apart_there : (events : List EventComponent) → AllPairs ◌≢◌ (filter_map f (map name_said events))
      → (i j : ℕ) (d : EventComponent) (a b : Key) → i < j → j < length events → f (name_said (get_or events i d)) ≡ Some a → f (name_said (get_or events j d)) ≡ Some b → a ≢ b
  apart_there [] p i j d a b l w h k = absurd (omega (arith, w))
  apart_there (x ∷ xs) p i zero d a b l w h k = absurd (omega (arith, l))
  apart_there (x ∷ xs) p zero (suc j) d a b l w h k =
      head_pairs ◌≢◌ a b (filter_map f (map name_said xs)) (subst (λ r. AllPairs ◌≢◌ (cons_option r (filter_map f (map name_said xs)))) h p)
      (there_key xs (get_or xs j d) b (j, omega (arith, w), get_or_default xs j (get_or xs j d) d (omega (arith, w))) k)
  apart_there (x ∷ xs) p (suc i) (suc j) d a b l w h k = apart_there xs (go (f (name_said x)) p) i j d a b (omega (arith, l)) (omega (arith, w)) h k
    where
      go : (r : Option Key) → AllPairs ◌≢◌ (cons_option r (filter_map f (map name_said xs))) → AllPairs ◌≢◌ (filter_map f (map name_said xs))
      go None p = p
      go (Some y) p = tail_pairs ◌≢◌ y (filter_map f (map name_said xs)) p

  pub there_apart : (events : List EventComponent)
      → ((i j : ℕ) (d : EventComponent) (a b : Key) → i < j → j < length events → f (name_said (get_or events i d)) ≡ Some a → f (name_said (get_or events j d)) ≡ Some b → a ≢ b)
      → AllPairs ◌≢◌ (filter_map f (map name_said events))
  there_apart [] h = λ i j d l w. absurd (omega (arith, w))
  there_apart (x ∷ xs) h = go (f (name_said x)) refl (there_apart xs (λ i j d a b l w. h (suc i) (suc j) d a b (omega (arith, l)) (omega (arith, w))))
    where
      go : (r : Option Key) → f (name_said x) ≡ r → AllPairs ◌≢◌ (filter_map f (map name_said xs)) → AllPairs ◌≢◌ (cons_option r (filter_map f (map name_said xs)))
      go None e rest = rest
      go (Some a) e rest =
          cons_pairs ◌≢◌ a (filter_map f (map name_said xs))
          (λ b c. let t = key_there xs b c in
          h 0 (suc t.1.0) t.0 a b (omega arith) (omega (arith, t.1.1)) e (ap (λ y. f (name_said y)) t.1.2 ∙ t.2))
          rest

-- ---- masters, and overrides

meeting_same : (a b : MeetingName) (s t : ℤ) → key_in a s ≡ key_in b t → a ≡ b
meeting_same a b s t e = ap (λ (k : Key). (k.organiser, k.uid)) e

master_said : (x : EventComponent) (k : Key) → master_key (name_said x) ≡ Some k → (x.recurrence ≡ None) × (k ≡ key_in (meeting_said x) (pos 0))
master_said x k h = go x.recurrence refl h
  where
    go : (r : Option ℤ) → x.recurrence ≡ r → master_key (meeting_said x, r) ≡ Some k → (x.recurrence ≡ None) × (k ≡ key_in (meeting_said x) (pos 0))
    go None e h = (e, sym (same_Some _ _ h))
    go (Some t) e h = cc

override_said : (x : EventComponent) (k : Key) → override_key (name_said x) ≡ Some k → (slot : ℤ) × (x.recurrence ≡ Some slot) × (k ≡ key_in (meeting_said x) slot)
override_said x k h = go x.recurrence refl h
  where
    go : (r : Option ℤ) → x.recurrence ≡ r → override_key (meeting_said x, r) ≡ Some k → (slot : ℤ) × (x.recurrence ≡ Some slot) × (k ≡ key_in (meeting_said x) slot)
    go None e h = cc
    go (Some t) e h = (t, e, sym (same_Some _ _ h))

said_override : (x : EventComponent) (slot : ℤ) → x.recurrence ≡ Some slot → override_key (name_said x) ≡ Some (key_in (meeting_said x) slot)
said_override x slot e = ap (λ r. override_key (meeting_said x, r)) e

said_master : (x : EventComponent) → x.recurrence ≡ None → master_key (name_said x) ≡ Some (key_in (meeting_said x) (pos 0))
said_master x e = ap (λ r. master_key (meeting_said x, r)) e

module _ (events : List EventComponent) where
  pub masters_differ : AllPairs ◌≢◌ (filter_map master_key (map name_said events)) → MastersDiffer events
  masters_differ p i j d l w m n same =
      apart_there master_key events p i j d _ _ l w (said_master (get_or events i d) m) (said_master (get_or events j d) n) (ap (λ x. key_in x (pos 0)) same)

  pub differ_masters : MastersDiffer events → AllPairs ◌≢◌ (filter_map master_key (map name_said events))
  differ_masters h =
      there_apart master_key events (λ i j d a b l w f g same.
      let x = master_said (get_or events i d) a f in
      let y = master_said (get_or events j d) b g in
      h i j d l w x.0 y.0 (meeting_same _ _ _ _ (sym x.1 ∙ same ∙ y.1)))

  pub overrides_differ : AllPairs ◌≢◌ (filter_map override_key (map name_said events)) → OverridesDiffer events
  overrides_differ p i j d l w slot m n same =
      apart_there override_key events p i j d _ _ l w (said_override (get_or events i d) slot m) (said_override (get_or events j d) slot n) (ap (λ x. key_in x slot) same)

  pub differ_overrides : OverridesDiffer events → AllPairs ◌≢◌ (filter_map override_key (map name_said events))
  differ_overrides h =
      there_apart override_key events (λ i j d a b l w f g same.
      let x = override_said (get_or events i d) a f in
      let y = override_said (get_or events j d) b g in
      let e = sym x.2 ∙ same ∙ y.2 in
      h i j d l w x.0 x.1 (y.1 ∙ ap Some (sym (ap (λ (k : Key). k.slot) e))) (meeting_same _ _ _ _ e))

  -- an override replaces the instance of a key
  pub replaced_key : (k : Key) → Contains (filter_map override_key (map name_said events)) k → (o : EventComponent) × Contains events o × ((slot : ℤ) × (o.recurrence ≡ Some slot) × (k ≡ key_in (meeting_said o) slot))
  replaced_key k c = let t = key_there override_key events k c in (t.0, t.1, override_said t.0 k t.2)

  pub key_replaced : (o : EventComponent) (slot : ℤ) → Contains events o → o.recurrence ≡ Some slot → Contains (filter_map override_key (map name_said events)) (key_in (meeting_said o) slot)
  key_replaced o slot c e = there_key override_key events o (key_in (meeting_said o) slot) c (said_override o slot e)

-- the same of the entries
module _ (entries : List Name) (events : List EventComponent) (e : entries ≡ map name_said events) where
  pub entry_overrides : override_keys entries ≡ filter_map override_key (map name_said events)
  entry_overrides = ap (filter_map override_key) e

  pub masters_there : AllPairs ◌≢◌ (master_keys entries) → MastersDiffer events
  masters_there p = masters_differ events (subst (λ (ks : List Key). AllPairs ◌≢◌ ks) (ap (filter_map master_key) e) p)

  pub there_masters : MastersDiffer events → AllPairs ◌≢◌ (master_keys entries)
  there_masters h = subst (λ (ks : List Key). AllPairs ◌≢◌ ks) (sym (ap (filter_map master_key) e)) (differ_masters events h)

  pub overrides_there : AllPairs ◌≢◌ (override_keys entries) → OverridesDiffer events
  overrides_there p = overrides_differ events (subst (λ (ks : List Key). AllPairs ◌≢◌ ks) entry_overrides p)

  pub there_overrides : OverridesDiffer events → AllPairs ◌≢◌ (override_keys entries)
  there_overrides h = subst (λ (ks : List Key). AllPairs ◌≢◌ ks) (sym entry_overrides) (differ_overrides events h)
