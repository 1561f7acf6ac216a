-- Which slots events are of: how many are masters, and which instances the others are for, by their instants or by the times that name them.
-- Behind judge_slots: count_masters, share_instant, share_time, times_named, share_form.
use Rattle.std.proofs.Common.{◌≡◌, ◌≢◌, ◌∙◌, ℕ, zero, ◌+◌, ◌<◌, ◌≤◌, Bool, true, false, not, cond, ◌||◌, List, [], ◌∷◌, ◌++◌, length, map, filter, get_or, take, drop, suc, inl, inr, append-nil, sym, ap, subst, refl, arith, ℤ}
use Rattle.std.specs.Prelude.{Option, Some, None, is_some, AllPairs, Contains, MatchBool}
use Rattle.std.specs.Option.{option_to_list}
use Rattle.std.proofs.lemmas.Bool.{cases_lt, true≢false}
use Rattle.std.proofs.lemmas.List.{length-append, length-map, length-take, map-append, take-append-drop, take_more, take_all}
use Rattle.std.proofs.lemmas.List.Elements.{Contains-append_left, filter-append}
use Rattle.std.proofs.lemmas.List.Filters.{length-filter_both}
use Rattle.ical_tree.proofs.OneLine.{at_place}
use Rattle.std.proofs.lemmas.Option.{same_Some}
use Rattle.profile.specs.rooms.Messages.{instants_in, is_of_form}
use Rattle.profile.specs.events.Properties.{Form, Fixed, Floating, WholeDay, is_fixed, is_floating, is_whole_day}
use Rattle.profile.specs.events.Occurrences.{Time as SaidTime}
use Rattle.profile.specs.events.EventComponents.{EventComponent as SaidComponent, Method}
use Rattle.profile.specs.events.Events.{is_master, is_override, InstancesDiffer, OverridesApart, TimesDiffer}
use Rattle.cal_events.specs.Component.{component_of, time_of}
use Rattle.cal_events.specs.declared.component.EventComponent.{EventComponent}
use Rattle.cal_events.specs.declared.time.Time.{Time}
use Rattle.cal_events.specs.MeetingComponents.{instants_said, times_named, NameInstances}
use Rattle.cal_events.proofs.shared_lemmas.InOneOrder.{later, head_pairs, tail_pairs, cons_pairs, of_mapped, in_mapped, of_filtered, in_filtered, pairs_mapped, mapped_pairs}
use Rattle.cal_events.proofs.shared_lemmas.MeetingLemmas.{filter_push}

-- ---- two of them are one

some_differ : {X : Type 0} (ts : List X) → AllPairs ◌≢◌ (map Some ts) → AllPairs ◌≢◌ ts
some_differ ts h = let p = mapped_pairs ◌≢◌ Some ts h in λ i j d l w e. p i j d l w (ap Some e)

differ_some : {X : Type 0} (ts : List X) → AllPairs ◌≢◌ ts → AllPairs ◌≢◌ (map Some ts)
differ_some {X} ts h = pairs_mapped ◌≢◌ Some ts (λ i j d l w e. h i j d l w (same_Some (get_or ts i d) (get_or ts j d) e))

-- what says the same says as much of it
match_same : {A B : Type 0} (b : Bool) → (A → B) → (B → A) → MatchBool b (A → ⊥) A → MatchBool b (B → ⊥) B
match_same true f g h = λ x. h (g x)
match_same false f g h = f h

-- ---- one component more

module _ (all : List EventComponent) (i : ℕ) (x : EventComponent) (within : i < length all) (here : x ≡ get_or all i x) where
  one_more : take (i + 1) all ≡ take i all ++ x ∷ []
  one_more = take_more all i x within ∙ ap (λ y. take i all ++ y ∷ []) (sym here)

  more_for : (P : List EventComponent → Type 0) → P (take i all ++ x ∷ []) → P (take (i + 1) all)
  more_for P h = subst P (sym one_more) h

-- ---- masters

-- this many of these components are masters
pub record AreMasters (components : List EventComponent) (count : ℕ) : Type 0 where
  pub within : count ≤ length components
  pub masters : count ≡ length (filter is_master (map component_of components))

pub no_masters : AreMasters [] 0
no_masters = record { within = omega arith; masters = refl }

other_pushed : (ys : List EventComponent) (x : EventComponent) (count : ℕ) (t : ℤ) → x.recurrence ≡ Some t → AreMasters ys count → AreMasters (ys ++ x ∷ []) count
other_pushed ys x count t r c =
    let masters = filter is_master (map component_of ys) in
    let same = filter_push is_master ys x ∙ ap (λ o. masters ++ cond (not (is_some o)) (component_of x ∷ []) []) r ∙ append-nil masters in
    record { within = omega (arith, c.within, length-append ys (x ∷ [])); masters = c.masters ∙ ap length (sym same) }

module _ (all : List EventComponent) (i : ℕ) (x : EventComponent) (within : i < length all) (here : x ≡ get_or all i x) (count : ℕ) (so_far : AreMasters (take i all) count) where
  pub other_counted : (t : ℤ) → x.recurrence ≡ Some t → AreMasters (take (i + 1) all) count
  other_counted t r = more_for all i x within here (λ (l : List EventComponent). AreMasters l count) (other_pushed (take i all) x count t r so_far)

-- one was before
pub some_before : (all : List EventComponent) (i count : ℕ) → AreMasters (take i all) count → count ≡ 1 → 0 < i
some_before all i count c one = omega (arith, c.within, one, length-take i all)

pub second_there : (all : List EventComponent) (i : ℕ) (x : EventComponent) → i < length all → x ≡ get_or all i x → (count : ℕ) → AreMasters (take i all) count → count ≡ 1
    → is_master (component_of x) ≡ true → 1 < length (filter is_master (map component_of all))
second_there all i x w e count c one is =
    let before = filter is_master (map component_of (take i all)) in
    let after = filter is_master (map component_of (drop (i + 1) all)) in
    let parts : all ≡ take i all ++ x ∷ drop (i + 1) all = sym (take-append-drop i all) ∙ ap (λ z. take i all ++ z) (at_place all i x w e) in
    let whole : filter is_master (map component_of all) ≡ before ++ component_of x ∷ after =
    ap (λ l. filter is_master (map component_of l)) parts ∙ ap (filter is_master) (map-append component_of (take i all) (x ∷ drop (i + 1) all))
    ∙ filter-append is_master (map component_of (take i all)) (component_of x ∷ map component_of (drop (i + 1) all))
    ∙ ap (λ b. before ++ cond b (component_of x ∷ after) after) is in
    let lengths : length (filter is_master (map component_of all)) ≡ length before + suc (length after) = ap length whole ∙ length-append before (component_of x ∷ after) in
    omega (arith, lengths, c.masters, one)

-- ---- some of them

pub named_before : (all : List EventComponent) (k : ℕ) → NameInstances (map component_of all) → NameInstances (map component_of (take k all))
named_before all k named event among =
    named event (subst (λ (l : List EventComponent). Contains (map component_of l) event) (take-append-drop k all)
    (subst (λ (l : List SaidComponent). Contains l event) (sym (map-append component_of (take k all) (drop k all)))
    (Contains-append_left (map component_of (take k all)) (map component_of (drop k all)) event among)))

few_apart : (m : Option Method) (events : List SaidComponent) → length events ≤ 1 → OverridesApart m events
few_apart None events few = λ i j d l w. absurd (omega (arith, l, w, few, length-map events (λ event. event.recurrence)))
few_apart (Some m) events few = λ i j d l w. absurd (omega (arith, l, w, few, length-map events (λ event. event.written.recurrence)))

pub two_shared : (m : Option Method) (all : List EventComponent) → (OverridesApart m (filter is_override (map component_of all)) → ⊥) → 1 < length all
two_shared m all shared =
    let events = map component_of all in
    let both = length-filter_both is_override (λ event. not (is_override event)) (λ event. refl) events in
    elim (cases_lt 1 (length all)) [
      | inl h ↦ h
      | inr few ↦ absurd (shared (few_apart m (filter is_override events) (omega (arith, few, both, length-map all component_of))))
    ]

-- ---- instants

-- these components are for these instants
abbrev pub AreFor : List EventComponent → List ℤ → Type 0
AreFor components instants = map Some instants ≡ instants_said (filter is_override (map component_of components))

master_for : (ys : List EventComponent) (x : EventComponent) (ts : List ℤ) → x.recurrence ≡ None → AreFor ys ts → AreFor (ys ++ x ∷ []) ts
master_for ys x ts r h =
    let others = filter is_override (map component_of ys) in
    let same = filter_push is_override ys x ∙ ap (λ o. others ++ cond (is_some o) (component_of x ∷ []) []) r ∙ append-nil others in h ∙ ap instants_said (sym same)

module _ (all : List EventComponent) (i : ℕ) (x : EventComponent) (within : i < length all) (here : x ≡ get_or all i x) (ts : List ℤ) (so_far : AreFor (take i all) ts) where
  pub none_more : x.recurrence ≡ None → AreFor (take (i + 1) all) ts
  none_more r = more_for all i x within here (λ (l : List EventComponent). AreFor l ts) (master_for (take i all) x ts r so_far)

pub share_by_instant : (all : List EventComponent) (i : ℕ) (b : Bool) (ts : List ℤ) → length all ≤ i → AreFor (take i all) ts → MatchBool b (AllPairs ◌≢◌ ts → ⊥) (AllPairs ◌≢◌ ts)
    → MatchBool b (InstancesDiffer (filter is_override (map component_of all)) → ⊥) (InstancesDiffer (filter is_override (map component_of all)))
share_by_instant all i b ts end are h =
    let for : AreFor all ts = subst (λ (l : List EventComponent). AreFor l ts) (take_all i all end) are in
    match_same b (λ p. subst (λ (os : List (Option ℤ)). AllPairs ◌≢◌ os) for (differ_some ts p)) (λ p. some_differ ts (subst (λ (os : List (Option ℤ)). AllPairs ◌≢◌ os) (sym for) p)) h

-- ---- times

-- they name these
abbrev pub AreNamed : List EventComponent → List Time → Type 0
AreNamed components times = map time_of times ≡ times_named (map component_of components)

abbrev named_by : SaidComponent → List SaidTime
named_by event = option_to_list event.written.recurrence

pub all_named : (all : List EventComponent) (i : ℕ) (ts : List Time) → length all ≤ i → AreNamed (take i all) ts → AreNamed all ts
all_named all i ts end h = subst (λ (l : List EventComponent). AreNamed l ts) (take_all i all end) h

abbrev written_time : SaidComponent → Option SaidTime
written_time event = event.written.recurrence

-- each that is for an instance names one
named_times : (events : List SaidComponent) → NameInstances events → map Some (times_named events) ≡ map (λ event. event.written.recurrence) (filter is_override events)
named_times [] h = refl
named_times (e ∷ es) h = go e.written.recurrence e.recurrence refl (h e (zero, omega arith, refl)) (named_times es (λ x c. h x (later e x es c)))
  where
    go : (w : Option SaidTime) (r : Option ℤ) → e.written.recurrence ≡ w → is_some w ≡ is_some r → map Some (times_named es) ≡ map written_time (filter is_override es)
        → map Some (option_to_list w ++ times_named es) ≡ map written_time (cond (is_some r) (e ∷ filter is_override es) (filter is_override es))
    go None None q p rest = rest
    go (Some w) (Some r) q p rest = λ i. sym q i ∷ rest i
    go None (Some r) q p rest = absurd (true≢false (sym p))
    go (Some w) None q p rest = absurd (true≢false p)

-- ---- times of one form

form_is : (form : Form) (time : SaidTime) → is_of_form form time ≡ true → time.form ≡ form
form_is form time h = go form time.form refl h
  where
    go : (form other : Form) → time.form ≡ other → is_of_form form time ≡ true → other ≡ form
    go Fixed Fixed e h = refl
    go Fixed Floating e h = absurd (true≢false (sym h ∙ ap is_fixed e))
    go Fixed WholeDay e h = absurd (true≢false (sym h ∙ ap is_fixed e))
    go Floating Fixed e h = absurd (true≢false (sym h ∙ ap is_floating e))
    go Floating Floating e h = refl
    go Floating WholeDay e h = absurd (true≢false (sym h ∙ ap is_floating e))
    go WholeDay Fixed e h = absurd (true≢false (sym h ∙ ap is_whole_day e))
    go WholeDay Floating e h = absurd (true≢false (sym h ∙ ap is_whole_day e))
    go WholeDay WholeDay e h = refl

of_its_form : (time : SaidTime) → is_of_form time.form time ≡ true
of_its_form time = go time.form refl
  where
    go : (form : Form) → time.form ≡ form → is_of_form form time ≡ true
    go Fixed e = ap is_fixed e
    go Floating e = ap is_floating e
    go WholeDay e = ap is_whole_day e

pub form_end : (form : Form) (all : List Time) (i : ℕ) (instants : List ℤ) → length all ≤ i → instants ≡ instants_in form (map time_of (take i all)) → instants ≡ instants_in form (map time_of all)
form_end form all i instants end is = is ∙ ap (λ (l : List Time). instants_in form (map time_of l)) (take_all i all end)

abbrev with_first : Form → SaidTime → List SaidTime → Bool → List ℤ
with_first form t ts b = map (λ time. time.instant) (cond b (t ∷ filter (is_of_form form) ts) (filter (is_of_form form) ts))

same_time : (a b : SaidTime) → a.form ≡ b.form → a.instant ≡ b.instant → a ≡ b
same_time a b p q = λ i. record { form = p i; instant = q i }

forms_differ : (ts : List SaidTime) → AllPairs ◌≢◌ ts → (form : Form) → AllPairs ◌≢◌ (instants_in form ts)
forms_differ [] d form = λ i j d l w. absurd (omega (arith, w))
forms_differ (t ∷ ts) d form = go (is_of_form form t) refl (forms_differ ts (tail_pairs ◌≢◌ t ts d) form)
  where
    go : (b : Bool) → is_of_form form t ≡ b → AllPairs ◌≢◌ (instants_in form ts) → AllPairs ◌≢◌ (with_first form t ts b)
    go false e rest = rest
    go true e rest =
        cons_pairs ◌≢◌ t.instant (instants_in form ts)
        (λ y c same.
        let u = of_mapped (λ (time : SaidTime). time.instant) (filter (is_of_form form) ts) y c in
        let at = of_filtered (is_of_form form) ts u.0 u.1 in
        head_pairs ◌≢◌ t u.0 ts d at.0 (same_time t u.0 (form_is form t e ∙ sym (form_is form u.0 at.1)) (same ∙ sym u.2))) rest

by_forms : (ts : List SaidTime) → ((form : Form) → AllPairs ◌≢◌ (instants_in form ts)) → AllPairs ◌≢◌ ts
by_forms [] h = λ i j d l w. absurd (omega (arith, w))
by_forms (t ∷ ts) h =
    cons_pairs ◌≢◌ t ts
    (λ u c e.
    head_pairs ◌≢◌ t.instant u.instant (instants_in t.form ts) (subst (λ (b : Bool). AllPairs ◌≢◌ (with_first t.form t ts b)) (of_its_form t) (h t.form))
    (in_mapped (λ (time : SaidTime). time.instant) (filter (is_of_form t.form) ts) u
    (in_filtered (is_of_form t.form) ts u c (subst (λ (v : SaidTime). is_of_form t.form v ≡ true) e (of_its_form t))))
    (ap (λ (time : SaidTime). time.instant) e))
    (by_forms ts (λ form. less form (is_of_form form t) (h form)))
  where
    less : (form : Form) (b : Bool) → AllPairs ◌≢◌ (with_first form t ts b) → AllPairs ◌≢◌ (instants_in form ts)
    less form true p = tail_pairs ◌≢◌ t.instant (instants_in form ts) p
    less form false p = p

abbrev pub TellsTwins : Bool → List ℤ → Type 0
TellsTwins b ts = MatchBool b (AllPairs ◌≢◌ ts → ⊥) (AllPairs ◌≢◌ ts)

in_any_form : (ts : List SaidTime) (a b c : Bool) → TellsTwins a (instants_in Fixed ts) → TellsTwins b (instants_in Floating ts) → TellsTwins c (instants_in WholeDay ts)
    → MatchBool (a || b || c) (AllPairs ◌≢◌ ts → ⊥) (AllPairs ◌≢◌ ts)
in_any_form ts true b c x y z = λ d. x (forms_differ ts d Fixed)
in_any_form ts false true c x y z = λ d. y (forms_differ ts d Floating)
in_any_form ts false false true x y z = λ d. z (forms_differ ts d WholeDay)
in_any_form ts false false false x y z = by_forms ts each
  where
    each : (form : Form) → AllPairs ◌≢◌ (instants_in form ts)
    each Fixed = x
    each Floating = y
    each WholeDay = z

pub share_by_time : (events : List SaidComponent) → NameInstances events → (ts : List SaidTime) → ts ≡ times_named events → (a b c : Bool) → TellsTwins a (instants_in Fixed ts) → TellsTwins b (instants_in Floating ts)
    → TellsTwins c (instants_in WholeDay ts) → MatchBool (a || b || c) (TimesDiffer (filter is_override events) → ⊥) (TimesDiffer (filter is_override events))
share_by_time events named ts is a b c x y z =
    let same : map Some ts ≡ map (λ event. event.written.recurrence) (filter is_override events) = ap (map Some) is ∙ named_times events named in
    match_same (a || b || c) (λ p. subst (λ (os : List (Option SaidTime)). AllPairs ◌≢◌ os) same (differ_some ts p)) (λ p. some_differ ts (subst (λ (os : List (Option SaidTime)). AllPairs ◌≢◌ os) (sym same) p))
    (in_any_form ts a b c x y z)
