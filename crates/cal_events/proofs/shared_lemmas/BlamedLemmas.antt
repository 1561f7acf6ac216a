-- The events of one UID, and what two of them are.
-- Cited by entries_of of blamed, are_twins of blamed, faulty_uid of blamed, uid_in of blamed, twin_uid of blamed.
use Rattle.std.proofs.Common.{◌≡◌, ◌∙◌, ℕ, ◌+◌, ◌<◌, Bool, true, false, cond, List, [], ◌∷◌, ◌++◌, map, take, get_or, length, sym, refl, ap, subst, inl, inr}
use Rattle.std.specs.Prelude.{◌≢◌, AllPairs, MatchBool, IsTrue, Option, Some, None, Result, Ok, Err, IfOk, IfSome}
use Rattle.std.specs.Str.{bytes_eq}
use Rattle.std.proofs.lemmas.Bool.{false≢true}
use Rattle.std.proofs.lemmas.List.{map-append, take_more}
use Rattle.std.proofs.lemmas.List.Elements.{filter-append}
use Rattle.profile.specs.checker.Blamed.{IsBlamed, IsBlamedIn, for_masters, for_overrides, of_uid}
use Rattle.profile.specs.checker.Calendars.{IsCalendarText, SayEvents}
use Rattle.profile.specs.events.EventComponents.{EventComponent as SaidComponent}
use Rattle.profile.specs.text.Trees.{Tree}
use Rattle.ical_values.specs.Octets.{text_octets}
use Rattle.ical_values.specs.declared.text.Text.{Text}
use Rattle.cal_events.specs.Component.{component_of}
use Rattle.cal_events.specs.Draft.{IsTwoOf, master_keys, override_keys}
use Rattle.cal_events.proofs.shared_lemmas.DraftKeys.{there_masters, there_overrides}
use Rattle.cal_events.specs.Entries.{Name}
use Rattle.cal_events.specs.Names.{name_said}
use Rattle.cal_events.specs.declared.component.EventComponent.{EventComponent}

one_more : (b : Bool) (c : SaidComponent) → map name_said (cond b (c ∷ []) []) ≡ cond b (name_said c ∷ []) []
one_more true c = refl
one_more false c = refl

pub entries_more : (uid : List ℕ) (events : List EventComponent) (i : ℕ) (x : EventComponent) → i < length events → x ≡ get_or events i x → (old new : List Name)
    → old ≡ map name_said (of_uid uid (map component_of (take i events))) → (b : Bool) → bytes_eq (component_of x).uid uid ≡ b
    → new ≡ old ++ cond b (name_said (component_of x) ∷ []) [] → new ≡ map name_said (of_uid uid (map component_of (take (i + 1) events)))
entries_more uid events i x w here old new so_far b is grown =
    let p : SaidComponent → Bool = λ e. bytes_eq e.uid uid in
    let one = take_more events i x w ∙ ap (λ y. take i events ++ y ∷ []) (sym here) in
    let all : of_uid uid (map component_of (take (i + 1) events)) ≡ of_uid uid (map component_of (take i events)) ++ cond b (component_of x ∷ []) [] =
    ap (λ l. of_uid uid (map component_of l)) one ∙ ap (of_uid uid) (map-append component_of (take i events) (x ∷ []))
    ∙ filter-append p (map component_of (take i events)) (component_of x ∷ []) ∙ ap (λ c. of_uid uid (map component_of (take i events)) ++ cond c (component_of x ∷ []) []) is in
    grown ∙ ap (λ l. l ++ cond b (name_said (component_of x) ∷ []) []) so_far
    ∙ ap (λ l. map name_said (of_uid uid (map component_of (take i events))) ++ l) (sym (one_more b (component_of x)))
    ∙ sym (map-append name_said (of_uid uid (map component_of (take i events))) (cond b (component_of x ∷ []) [])) ∙ sym (ap (map name_said) all)

pub twins_blamed : (object : Tree) (uid : List ℕ) (events : List SaidComponent) (n : ℕ) → SayEvents object events → IsTwoOf (of_uid uid events) n → IsBlamedIn object uid n
twins_blamed object uid events n says (inl (e, h)) = subst (IsBlamedIn object uid) (sym e) (for_masters events says h)
twins_blamed object uid events n says (inr (e, h)) = subst (IsBlamedIn object uid) (sym e) (for_overrides events says h)

pub when_true : (b : Bool) (P Q : Type 0) → MatchBool b P Q → IsTrue b → P
when_true true P Q h t = h
when_true false P Q h t = absurd (false≢true t)

-- of these entries two keys are one
module _ (entries : List Name) (events : List SaidComponent) (said : entries ≡ map name_said events) (n : ℕ) where
  pub masters_twins : {E : Type 0} → n ≡ 53 → (r : Result Bool E) → IfOk r (λ have. IsTrue have → AllPairs ◌≢◌ (master_keys entries) → ⊥) → IfOk r (λ are. IsTrue are → IsTwoOf events n)
  masters_twins is (Ok b) h = λ t. inl (is, λ differ. h t (there_masters entries events said differ))
  masters_twins is (Err e) h = tt

  pub overrides_twins : {E : Type 0} → n ≡ 54 → (r : Result Bool E) → IfOk r (λ have. IsTrue have → AllPairs ◌≢◌ (override_keys entries) → ⊥) → IfOk r (λ are. IsTrue are → IsTwoOf events n)
  overrides_twins is (Ok b) h = λ t. inr (is, λ differ. h t (there_overrides entries events said differ))
  overrides_twins is (Err e) h = tt

-- what is blamed in an object is blamed in its octets
module _ (octets : List ℕ) (object : Tree) (is : IsCalendarText object octets) (n : ℕ) where
  pub blamed_there : {E : Type 0} (r : Result (Option Text) E) → IfOk r (λ found. IfSome found (λ uid. IsBlamedIn object (text_octets uid) n)) → IfOk r (λ found. IfSome found (λ uid. IsBlamed octets n (text_octets uid)))
  blamed_there (Ok None) h = tt
  blamed_there (Ok (Some uid)) h = record { object = object; is = is; blamed = h }
  blamed_there (Err e) h = tt
