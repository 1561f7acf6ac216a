-- The event with its instances that an object says, or the fault that it has.
-- Cited by Event::read of event, MeetingComponents::of of meeting_components, MeetingComponents::read of meeting_components, judge_meeting of meeting_components, read_meeting of meeting_components.
use Rattle.std.proofs.Common.{◌≡◌, ◌∙◌, ℕ, zero, suc, ◌<◌, ◌≤◌, Global, Bool, true, false, ◌&&◌, cond, List, [], ◌∷◌, ◌++◌, length, map, filter, append-nil, sym, ap, subst, refl, inl, inr, arith, ℤ}
use Rattle.std.specs.Option.{option_to_list}
use Rattle.std.specs.Prelude.{Option, Some, None, Contains, is_some, unwrap_or, Result, Ok, Err, IfOk, IfErr, Vec}
use Rattle.std.specs.List.{AllZip, list_all}
use Rattle.std.proofs.lemmas.List.Folds.{list_all-map}
use Rattle.std.specs.Str.{bytes_eq}
use Rattle.std.specs.Result.{IsErrAnd}
use Rattle.std.proofs.lemmas.Bool.{true≢false, and_parts}
use Rattle.std.proofs.lemmas.List.{length-map, map-append}
use Rattle.std.proofs.lemmas.List.Elements.{filter-append}
use Rattle.std.proofs.lemmas.Slice.Eq.{bytes_eq-Decides}
use Rattle.ical_lines.specs.Fault.{RefusesBy}
use Rattle.ical_lines.specs.declared.fault.Fault.{Fault}
use Rattle.ical_lines.specs.declared.fault.Fault.TheVariants.{Refused, Memory}
use Rattle.ical_tree.specs.Tree.{IsObjectOf, tree_of}
use Rattle.ical_tree.specs.Reading.{IsRefusalOf}
use Rattle.ical_tree.specs.declared.component.Component.{Component}
use Rattle.ical_tree.proofs.TreeOfLemmas.{object_tree}
use Rattle.ical_values.proofs.Exits.{err_exit}
use Rattle.profile.specs.text.Lines.{logical_lines, reads_as_lines}
use Rattle.profile.specs.text.Trees.{Tree, vevents}
use Rattle.profile.specs.series.Zones.{Zone}
use Rattle.profile.specs.events.Properties.{BothOrNeither}
use Rattle.profile.specs.events.Placed.{IsAt, IsPlaced, SaysPlaced}
use Rattle.profile.specs.events.EventComponents.{EventComponent as SaidComponent, meeting_said, Method, Store, Request, Add, Cancel, Reply, Refresh}
use Rattle.profile.specs.events.Events.{Event, as_added, taken_by, is_same_meeting, is_master, is_override, AreOfOne, OverridesApart, SaysEvent, SpellsEvent, EventFault, in_event, two_masters, two_overrides, no_event, two_meetings, EventTextFault, in_lines, in_tree, no_version, many_events, in_vevents}
use Rattle.cal_events.specs.Component.{component_of, IsFaultAmong}
use Rattle.cal_events.specs.declared.component.EventComponent.{EventComponent}
use Rattle.cal_events.specs.MeetingComponents.{instants_said, NameInstances, AreOfObject, AreOfObjectIn, IsNotOne, SharesSlot}
use Rattle.cal_events.specs.Event.{TakesPlaceAs}
use Rattle.cal_events.specs.declared.event.Event as declared
use Rattle.cal_events.proofs.shared_lemmas.InOneOrder.{none_in, of_mapped}
use Rattle.cal_events.proofs.shared_lemmas.ObjectFaults.{no_object}
use Rattle.cal_events.proofs.shared_lemmas.Placing.{all_written}

-- ---- one meeting

pair_same : (a b : SaidComponent) → a.uid ≡ b.uid → unwrap_or a.organiser [] ≡ unwrap_or b.organiser [] → meeting_said a ≡ meeting_said b
pair_same a b p q = λ i. (q i, p i)

same_is : (a b : SaidComponent) → is_same_meeting a b ≡ true → meeting_said a ≡ meeting_said b
same_is a b h =
    let p = and_parts (bytes_eq a.uid b.uid) (bytes_eq (unwrap_or a.organiser []) (unwrap_or b.organiser [])) h in
    pair_same a b ((bytes_eq-Decides a.uid b.uid).0 p.0) ((bytes_eq-Decides (unwrap_or a.organiser []) (unwrap_or b.organiser [])).0 p.1)

is_same : (a b : SaidComponent) → meeting_said a ≡ meeting_said b → is_same_meeting a b ≡ true
is_same a b e =
    let p = (bytes_eq-Decides a.uid b.uid).1 (ap (λ (m : List ℕ × List ℕ). m.1) e) in
    let q = (bytes_eq-Decides (unwrap_or a.organiser []) (unwrap_or b.organiser [])).1 (ap (λ (m : List ℕ × List ℕ). m.0) e) in
    ap (λ b'. b' && bytes_eq (unwrap_or a.organiser []) (unwrap_or b.organiser [])) p ∙ q

each_same : (first : SaidComponent) (others : List SaidComponent) → list_all (is_same_meeting first) others ≡ true → (x : SaidComponent) → Contains (first ∷ others) x → meeting_said first ≡ meeting_said x
each_same first others h x (zero, w, e) = ap meeting_said e
each_same first [] h x (suc k, w, e) = absurd (omega (arith, w))
each_same first (y ∷ others) h x (suc zero, w, e) =
    let p = and_parts (is_same_meeting first y) (list_all (is_same_meeting first) others) h in same_is first y p.0 ∙ ap meeting_said e
each_same first (y ∷ others) h x (suc (suc k), w, e) =
    let p = and_parts (is_same_meeting first y) (list_all (is_same_meeting first) others) h in each_same first others p.1 x (suc k, omega (arith, w), e)

pub are_of_one : (first : SaidComponent) (others : List SaidComponent) → list_all (is_same_meeting first) others ≡ true → AreOfOne (first ∷ others)
are_of_one first others h a b c d = sym (each_same first others h a c) ∙ each_same first others h b d

all_same : (first : SaidComponent) (others : List SaidComponent) → ((x : SaidComponent) → Contains others x → meeting_said first ≡ meeting_said x) → list_all (is_same_meeting first) others ≡ true
all_same first [] h = refl
all_same first (y ∷ others) h =
    ap (λ b. b && list_all (is_same_meeting first) others) (is_same first y (h y (zero, omega arith, refl)))
    ∙ all_same first others (λ x c. h x (suc c.0, omega (arith, c.1), c.2))

pub not_of_one : (first : SaidComponent) (others : List SaidComponent) → list_all (is_same_meeting first) others ≡ false → AreOfOne (first ∷ others) → ⊥
not_of_one first others h one =
    true≢false (sym (all_same first others (λ x c. one first x (zero, omega arith, refl) (suc c.0, omega (arith, c.1), c.2))) ∙ h)

pub components_not_one : (cs : List EventComponent) (first : EventComponent) (others : List EventComponent) → cs ≡ first ∷ others
    → false ≡ list_all (λ other. is_same_meeting (component_of first) (component_of other)) others → AreOfOne (map component_of cs) → ⊥
components_not_one cs first others e h one =
    not_of_one (component_of first) (map component_of others) (list_all-map (is_same_meeting (component_of first)) component_of others ∙ sym h)
    (subst (λ (l : List EventComponent). AreOfOne (map component_of l)) e one)

pub components_one : (cs : List EventComponent) (first : EventComponent) (others : List EventComponent) → cs ≡ first ∷ others
    → true ≡ list_all (λ other. is_same_meeting (component_of first) (component_of other)) others → AreOfOne (map component_of cs)
components_one cs first others e h =
    subst (λ (l : List EventComponent). AreOfOne (map component_of l)) (sym e)
    (are_of_one (component_of first) (map component_of others) (list_all-map (is_same_meeting (component_of first)) component_of others ∙ sym h))

-- ---- components as METHOD takes them

added_one : (events : List SaidComponent) → AreOfOne events → AreOfOne (map as_added events)
added_one events one a b in_a in_b =
    let x = of_mapped as_added events a in_a in
    let y = of_mapped as_added events b in_b in
    sym (ap meeting_said x.2) ∙ one x.0 y.0 x.1 y.1 ∙ ap meeting_said y.2

taken_one : (m : Option Method) (events : List SaidComponent) → AreOfOne events → AreOfOne (taken_by m events)
taken_one None events one = one
taken_one (Some Store) events one = one
taken_one (Some Request) events one = one
taken_one (Some Add) events one = added_one events one
taken_one (Some Cancel) events one = one
taken_one (Some Reply) events one = one
taken_one (Some Refresh) events one = one

as_many_taken : (m : Option Method) (events : List SaidComponent) → length (taken_by m events) ≡ length events
as_many_taken None events = refl
as_many_taken (Some Store) events = refl
as_many_taken (Some Request) events = refl
as_many_taken (Some Add) events = length-map events as_added
as_many_taken (Some Cancel) events = refl
as_many_taken (Some Reply) events = refl
as_many_taken (Some Refresh) events = refl

pub object_there : (room : Option Zone) (object : Tree) (m : Option Method) (vs : List (List (List ℕ))) (said taken : List SaidComponent) → AllZip (SaysPlaced room object m) vs said → taken ≡ taken_by m said
    → 0 < length said → AreOfOne said → length (filter is_master taken) ≤ 1 → OverridesApart m (filter is_override taken) → AreOfObjectIn room object m vs taken
object_there room object m vs said taken says is some one masters differ = record {
  said = said;
  says = says;
  taken = is;
  some = subst (λ (n : ℕ). 0 < n) (sym (ap length is ∙ as_many_taken m said)) some;
  one = subst AreOfOne (sym is) (taken_one m said one);
  masters = masters;
  differ = differ;
}

-- ---- each is for an instance exactly where it names one

both_some : {A B : Type 0} (R : A → B → Type 0) (a : Option A) (b : Option B) → BothOrNeither R a b → is_some a ≡ is_some b
both_some R None None h = refl
both_some R None (Some b) h = absurd h
both_some R (Some a) None h = absurd h
both_some R (Some a) (Some b) h = refl

names_placed : (room : Option Zone) (event placed : SaidComponent) → IsPlaced room event placed → is_some placed.written.recurrence ≡ is_override placed
names_placed room event placed p =
    subst (λ (x : SaidComponent). is_some x.written.recurrence ≡ is_override x) (sym p.is) (both_some (IsAt room) event.written.recurrence p.recurrence p.slot)

names_said : (room : Option Zone) (object : Tree) (m : Option Method) (vs : List (List (List ℕ))) (es : List SaidComponent) → AllZip (SaysPlaced room object m) vs es → NameInstances es
names_said room object m vs [] z x c = absurd (none_in x c)
names_said room object m [] (e ∷ es) z x c = absurd z
names_said room object m (v ∷ vs) (e ∷ es) z x (zero, w, is) = subst (λ (y : SaidComponent). is_some y.written.recurrence ≡ is_override y) is (names_placed room z.0.0 e z.0.2)
names_said room object m (v ∷ vs) (e ∷ es) z x (suc k, w, is) = names_said room object m vs es z.1 x (k, omega (arith, w), is)

names_added : (events : List SaidComponent) → NameInstances (map as_added events)
names_added events x c = let e = of_mapped as_added events x c in subst (λ (y : SaidComponent). is_some y.written.recurrence ≡ is_override y) e.2 refl

pub names_taken : (room : Option Zone) (object : Tree) (m : Option Method) (vs : List (List (List ℕ))) (es : List SaidComponent) → AllZip (SaysPlaced room object m) vs es → NameInstances (taken_by m es)
names_taken room object None vs es z = names_said room object None vs es z
names_taken room object (Some Store) vs es z = names_said room object (Some Store) vs es z
names_taken room object (Some Request) vs es z = names_said room object (Some Request) vs es z
names_taken room object (Some Add) vs es z = names_added es
names_taken room object (Some Cancel) vs es z = names_said room object (Some Cancel) vs es z
names_taken room object (Some Reply) vs es z = names_said room object (Some Reply) vs es z
names_taken room object (Some Refresh) vs es z = names_said room object (Some Refresh) vs es z

-- ---- components divided

-- one more of a list that is filtered
pub filter_push : (p : SaidComponent → Bool) (ys : List EventComponent) (x : EventComponent) → filter p (map component_of (ys ++ x ∷ [])) ≡ filter p (map component_of ys) ++ cond (p (component_of x)) (component_of x ∷ []) []
filter_push p ys x = ap (filter p) (map-append component_of ys (x ∷ [])) ∙ filter-append p (map component_of ys) (component_of x ∷ [])

pub pushed : (p : SaidComponent → Bool) (ys os new : List EventComponent) (x : EventComponent) → p (component_of x) ≡ true → filter p (map component_of ys) ≡ map component_of os → new ≡ os ++ x ∷ []
    → filter p (map component_of (ys ++ x ∷ [])) ≡ map component_of new
pushed p ys os new x h e n =
    filter_push p ys x ∙ ap (λ b. filter p (map component_of ys) ++ cond b (component_of x ∷ []) []) h ∙ ap (λ l. l ++ component_of x ∷ []) e
    ∙ sym (ap (map component_of) n ∙ map-append component_of os (x ∷ []))

pub passed : (p : SaidComponent → Bool) (ys os : List EventComponent) (x : EventComponent) → p (component_of x) ≡ false → filter p (map component_of ys) ≡ map component_of os
    → filter p (map component_of (ys ++ x ∷ [])) ≡ map component_of os
passed p ys os x h e =
    filter_push p ys x ∙ ap (λ b. filter p (map component_of ys) ++ cond b (component_of x ∷ []) []) h ∙ append-nil (filter p (map component_of ys)) ∙ e

pub instant_pushed : (ts more : List ℤ) (os new : List EventComponent) (t : ℤ) (x : EventComponent) → x.recurrence ≡ Some t → map Some ts ≡ instants_said (map component_of os) → more ≡ ts ++ t ∷ []
    → new ≡ os ++ x ∷ [] → map Some more ≡ instants_said (map component_of new)
instant_pushed ts more os new t x r e m n =
    ap (map Some) m ∙ map-append Some ts (t ∷ []) ∙ ap (λ l. l ++ Some t ∷ []) e ∙ ap (λ o. instants_said (map component_of os) ++ o ∷ []) (sym r)
    ∙ sym (ap (λ l. instants_said (map component_of l)) n ∙ ap instants_said (map-append component_of os (x ∷ []))
    ∙ map-append (λ (event : SaidComponent). event.recurrence) (map component_of os) (component_of x ∷ []))

-- ---- an object

none_said : (room : Option Zone) (object : Tree) (m : Option Method) (vs : List (List (List ℕ))) → AllZip (SaysPlaced room object m) vs [] → vs ≡ []
none_said room object m [] z = refl
none_said room object m (v ∷ vs) z = absurd z

module _ (room : Option Zone) (object : Tree) (vs : List (List (List ℕ))) (same : vevents object ≡ vs) where
  pub among_there : (m : Option Method) (n : ℕ) → IsFaultAmong object m vs n → EventFault room object m n
  among_there m n (lines, c, f) = in_event lines (subst (λ (x : List (List (List ℕ))). Contains x lines) (sym same) c) f

  module _ (m : Option Method) (events : List SaidComponent) (zip : AllZip (SaysPlaced room object m) vs events) where
    pub said : AllZip (SaysPlaced room object m) (vevents object) events
    said = subst (λ (x : List (List (List ℕ))). AllZip (SaysPlaced room object m) x events) (sym same) zip

    pub not_one_there : (n : ℕ) → IsNotOne events n → EventFault room object m n
    not_one_there n (inl (is, none)) =
        subst (EventFault room object m) (sym is) (no_event (none_said room object m (vevents object) (subst (λ (es : List SaidComponent). AllZip (SaysPlaced room object m) (vevents object) es) none said)))
    not_one_there n (inr (is, not)) = subst (EventFault room object m) (sym is) (two_meetings events said not)

    pub slot_there : (n : ℕ) → SharesSlot m (taken_by m events) n → EventFault room object m n
    slot_there n (inl (is, more)) = subst (EventFault room object m) (sym is) (two_masters events said more)
    slot_there n (inr (is, twins)) = subst (EventFault room object m) (sym is) (two_overrides events said twins)

    pub meeting_there : (whole : Event) → 0 < length events → AreOfOne events → filter is_master (taken_by m events) ≡ option_to_list whole.master
        → filter is_override (taken_by m events) ≡ whole.overrides → OverridesApart m (filter is_override (taken_by m events)) → SaysEvent room object m whole
    meeting_there whole some one master overrides differ = record {
      events = events;
      says = said;
      some = some;
      one = one;
      master = master;
      overrides = overrides;
      differ = subst (OverridesApart m) overrides differ;
    }

-- ---- as they are written

pub object_written : (object : Tree) (m : Option Method) (vs : List (List (List ℕ))) (room : Option Zone) (events : List SaidComponent) → room ≡ None → AreOfObjectIn room object m vs events
    → AreOfObject object m vs events
object_written object m vs room events utc h = record {
  said = h.said;
  says = all_written object m vs h.said (subst (λ (r : Option Zone). AllZip (SaysPlaced r object m) vs h.said) utc h.says);
  taken = h.taken;
  some = h.some;
  one = h.one;
  masters = h.masters;
  differ = h.differ;
}

pub meeting_written : (r : Result (Vec EventComponent Global) Fault) (object : Tree) (m : Option Method) (vs : List (List (List ℕ))) (room : Option Zone) → room ≡ None
    → IfOk r (λ events. AreOfObjectIn room object m vs (map component_of events.items)) → IfOk r (λ events. AreOfObject object m vs (map component_of events.items))
meeting_written (Ok events) object m vs room utc h = object_written object m vs room (map component_of events.items) utc h
meeting_written (Err f) object m vs room utc h = tt

-- ---- octets

pub meeting_spelled : (r : Result declared.Event Fault) (room : Option Zone) (octets : List ℕ) (c : Component) → reads_as_lines true octets ≡ true → IsObjectOf true c (logical_lines octets)
    → IfOk r (TakesPlaceAs (SaysEvent room (tree_of c) None)) → IfOk r (TakesPlaceAs (SpellsEvent room octets))
meeting_spelled (Ok event) room octets c lines object says = record {
  said = says.said;
  is = record { lines = lines; tree = tree_of c; object = object_tree true c (logical_lines octets) object; says = says.is };
  alike = says.alike;
}
meeting_spelled (Err f) room octets c lines object says = tt

pub fault_there : (room : Option Zone) (octets : List ℕ) (c : Component) → IsObjectOf true c (logical_lines octets) → (f : Fault) → RefusesBy (EventFault room (tree_of c) None) f → RefusesBy (EventTextFault room octets) f
fault_there room octets c object Memory h = tt
fault_there room octets c object (Refused r) h = in_vevents (tree_of c) (object_tree true c (logical_lines octets) object) h

pub object_refused : (r : Result declared.Event Fault) (room : Option Zone) (octets : List ℕ) (f : Fault) → IsErrAnd r (λ e. e ≡ f) → IsRefusalOf true octets f → IfErr r (RefusesBy (EventTextFault room octets))
object_refused r room octets f e h =
    err_exit r (RefusesBy (EventTextFault room octets)) f e
    (no_object octets (EventTextFault room octets) (λ t x. no_version t x.0 x.1) (λ t x. many_events t x.0 x.1) (λ n x. in_lines x) (λ n x. in_tree x) f h)
