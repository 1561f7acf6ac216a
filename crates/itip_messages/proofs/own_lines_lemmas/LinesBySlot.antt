-- The lines of one of the VEVENTs of a message by its slot.
-- Cited by component_lines, lines_of_slot.
use Rattle.std.proofs.Common.{◌≡◌, ◌≢◌, ◌∙◌, ℕ, zero, suc, ◌+◌, ◌<◌, Bool, true, false, cond, List, [], ◌∷◌, length, map, get_or, refl, sym, ap, subst, Option, Some, None, option_map}
use Rattle.std.specs.Prelude.{MatchOption, position, slice_get}
use Rattle.std.specs.Cmp.{Equal-is}
use Rattle.std.specs.List.{AllZip, position_from}
use Rattle.std.specs.Ordering.{is_eq, ordering_reverse}
use Rattle.std.specs.declared.cmp.Ordering.{Ordering}
use Rattle.std.specs.declared.cmp.Ordering.TheVariants.{Less, Equal, Greater}
use Rattle.std.proofs.lemmas.Bool.{true≢false}
use Rattle.std.proofs.lemmas.Iterator.Adapters.{position_from-zero}
use Rattle.std.proofs.lemmas.List.{length-map}
use Rattle.std.proofs.lemmas.Simd.{map-map}
use Rattle.std.proofs.lemmas.List.Quantifiers.{position-Some}
use Rattle.std.proofs.lemmas.Option.{same_Some, slice_get-get_or, slice_get-map, slice_get_read, slice_get_within, get_or_from_slice_get}
use Rattle.ical_tree.specs.Tree.{IsObjectOf, tree_of}
use Rattle.ical_tree.specs.declared.component.Component.{Component}
use Rattle.ical_tree.proofs.TreeOfLemmas.{object_tree}
use Rattle.profile.specs.text.Lines.{logical_lines, reads_as_lines}
use Rattle.profile.specs.text.Trees.{vevents}
use Rattle.profile.specs.events.EventComponents.{Method, Store, Request, Add, Cancel, Reply, Refresh, EventComponent as SaidComponent}
use Rattle.profile.specs.events.Events.{as_added, taken_by}
use Rattle.profile.specs.events.Messages.{SaysMessage}
use Rattle.profile.specs.rooms.Messages.{slot_of}
use Rattle.profile.specs.rooms.Revisions.{Slot, slot_cmp}
use Rattle.cal_events.specs.Component.{component_of, vevents_of}
use Rattle.cal_events.specs.declared.component.EventComponent.{EventComponent}
use Rattle.cal_events.proofs.shared_lemmas.TreeLemmas.{vevents_tree}
use Rattle.cal_events.proofs.shared_lemmas.Zips.{zip_length}
use Rattle.itip_order.proofs.Order.{slot_same, slot_total}
use Rattle.itip_messages.specs.Message.{SaysEvents, event_slot}
use Rattle.itip_messages.specs.OwnLines.{FindsLines, IsFound, slot_read}

abbrev Lines : Type 0
Lines = List (List ℕ)

-- there are as many events as VEVENTs
pub as_many : (method : Method) (events : List SaidComponent) → length (taken_by (Some method) events) ≡ length events
as_many Store events = refl
as_many Request events = refl
as_many Add events = length-map events as_added
as_many Cancel events = refl
as_many Reply events = refl
as_many Refresh events = refl

pub one_for_each : (object : Component) (method : Method) (items : List EventComponent) → SaysEvents (tree_of object) method (map component_of items) → length items ≡ length (vevents_of object)
one_for_each object method items (organiser, uid, s) =
    sym (length-map items component_of) ∙ ap length s.taken ∙ as_many method s.events ∙ sym (zip_length _ (vevents (tree_of object)) s.events s.says) ∙ ap length (vevents_tree object)

-- ---- the first event of a slot

abbrev is_at : Slot → EventComponent → Bool
is_at slot event = is_eq (slot_cmp (event_slot event) slot)

pub placed : {X : Type 0} (p : X → Bool) (xs : List X) (i : ℕ) → position p xs ≡ Some i → (x : X) × (i < length xs) × (slice_get xs i ≡ Some x) × (p x ≡ true)
placed p [] i e = absurd (cc)
placed p (y ∷ ys) i e = let f = position-Some p (y ∷ ys) i y e in (get_or (y ∷ ys) i y, f.0, slice_get-get_or (y ∷ ys) i y f.0, f.1)

none_first : {X : Type 0} (p : X → Bool) (i : ℕ) (y : X) (ys : List X) (others : Option ℕ) (b : Bool) → p y ≡ b → cond b (Some i) others ≡ None
    → (others ≡ None → (k : ℕ) (x : X) → slice_get ys k ≡ Some x → p x ≡ false) → (k : ℕ) (x : X) → slice_get (y ∷ ys) k ≡ Some x → p x ≡ false
none_first p i y ys others true is h rest k x at = absurd (cc)
none_first {X} p i y ys others false is h rest zero x at = subst (λ (z : X). p z ≡ false) (same_Some y x at) is
none_first p i y ys others false is h rest (suc k) x at = rest h k x at

none_from : {X : Type 0} (p : X → Bool) (i : ℕ) (xs : List X) → position_from p i xs ≡ None → (k : ℕ) (x : X) → slice_get xs k ≡ Some x → p x ≡ false
none_from p i [] e k x at = absurd (cc)
none_from p i (y ∷ ys) e k x at = none_first p i y ys (position_from p (i + 1) ys) (p y) refl e (λ h. none_from p (i + 1) ys h) k x at

like_itself : (o : Ordering) → o ≡ ordering_reverse o → o ≡ Equal
like_itself Less h = absurd (cc)
like_itself Equal h = refl
like_itself Greater h = absurd (cc)

itself : (slot : Slot) → is_eq (slot_cmp slot slot) ≡ true
itself slot = ap is_eq (like_itself (slot_cmp slot slot) (slot_total.antisymm slot slot))

pub slot_there : (items : List EventComponent) (slot : Slot) (i : ℕ) → position (is_at slot) items ≡ Some i → (i < length items) × (slice_get (map event_slot items) i ≡ Some slot)
slot_there items slot i e =
    let f = placed (is_at slot) items i e in (
      f.1,
      slice_get-map event_slot items i ∙ ap (option_map event_slot) f.2 ∙ ap Some (slot_same (event_slot f.0) slot ((Equal-is (slot_cmp (event_slot f.0) slot)).0 f.3)),
    )

pub slot_missing : (items : List EventComponent) (slot : Slot) → position (is_at slot) items ≡ None → (k : ℕ) → slice_get (map event_slot items) k ≢ Some slot
slot_missing items slot e k at = by_case (slice_get items k) refl (sym (slice_get-map event_slot items k) ∙ at)
  where
    by_case : (o : Option EventComponent) → slice_get items k ≡ o → option_map event_slot o ≡ Some slot → ⊥
    by_case None is h = absurd (cc)
    by_case (Some x) is h =
        let not_at = none_from (is_at slot) 0 items (sym (position_from-zero (is_at slot) items) ∙ e) k x is in
        let at = ap (λ z. is_eq (slot_cmp z slot)) (same_Some (event_slot x) slot h) ∙ itself slot in
        true≢false (sym at ∙ not_at)

-- what is at the same place among as many
pub line_at : {X : Type 0} (f : X → Lines) (xs : List X) (all : List Lines) (n i : ℕ) (x : X) (lines : Lines) → map f xs ≡ all → n ≡ length all → i < n
    → x ≡ get_or xs i x → lines ≡ f x → slice_get all i ≡ Some lines
line_at f xs all n i x lines same many within is said =
    ap (λ (l : List Lines). slice_get l i) (sym same) ∙ slice_get-map f xs i
    ∙ ap (option_map f) (slice_get_read xs n i x (many ∙ ap length (sym same) ∙ length-map xs f) within is) ∙ ap Some (sym said)

-- ---- the lines that are found

slots_same : (method : Method) (events : List SaidComponent) → map slot_of (taken_by (Some method) events) ≡ map (slot_read method) events
slots_same Store events = refl
slots_same Request events = refl
slots_same Add events = map-map slot_of as_added events
slots_same Cancel events = refl
slots_same Reply events = refl
slots_same Refresh events = refl

slots_of_items : (items : List EventComponent) → map event_slot items ≡ map slot_of (map component_of items)
slots_of_items [] = refl
slots_of_items (item ∷ items) = ap (λ l. event_slot item ∷ l) (slots_of_items items)

-- the event at the place of some lines
at_both : {A B C : Type 0} (R : A → B → Type 0) (f : B → C) (xs : List A) (ys : List B) (k : ℕ) (x : A) (s : C) → AllZip R xs ys
    → slice_get xs k ≡ Some x → slice_get (map f ys) k ≡ Some s → (y : B) × R x y × (f y ≡ s)
at_both R f [] ys k x s z a b = absurd (cc)
at_both R f (x' ∷ xs) [] k x s z a b = absurd z
at_both {A} R f (x' ∷ xs) (y ∷ ys) zero x s z a b = (y, subst (λ (w : A). R w y) (same_Some x' x a) z.0, same_Some (f y) s b)
at_both R f (x' ∷ xs) (y ∷ ys) (suc k) x s z a b = at_both R f xs ys k x s z.1 a b

module _ (object : Component) (method : Method) (items : List EventComponent) (t : SaysEvents (tree_of object) method (map component_of items)) (slot : Slot) where
  abbrev said : SaysMessage (tree_of object) (record { method = method; organiser = t.0; uid = t.1; events = map component_of items })
  said = t.2

  slots : map event_slot items ≡ map (slot_read method) said.events
  slots = slots_of_items items ∙ ap (map slot_of) said.taken ∙ slots_same method said.events

  found : {V : Type 0} (texts : V → Lines) (o : Option V)
      → MatchOption o ((place : ℕ) → slice_get (map event_slot items) place ≢ Some slot)
      (λ lines. (place : ℕ) × (slice_get (map event_slot items) place ≡ Some slot) × (slice_get (vevents_of object) place ≡ Some (texts lines)))
      → IsFound (tree_of object) method said.events slot (option_map texts o)
  found texts None h = λ (k, within, is).
      h k (ap (λ (l : List Slot). slice_get l k) slots ∙ slice_get_read (map (slot_read method) said.events) _ k slot refl within (sym is))
  found texts (Some lines) (k, at, there) =
      let here : slice_get (vevents (tree_of object)) k ≡ Some (texts lines) = ap (λ (l : List Lines). slice_get l k) (vevents_tree object) ∙ there in
      let both = at_both _ (slot_read method) (vevents (tree_of object)) said.events k (texts lines) slot said.says here (sym (ap (λ (l : List Slot). slice_get l k) slots) ∙ at) in
      record {
        there = (k, slice_get_within (vevents (tree_of object)) k (texts lines) here, get_or_from_slice_get (vevents (tree_of object)) k (texts lines) (texts lines) here);
        event = both.0;
        says = both.1;
        of_slot = both.2;
      }

  pub lines_found : {V : Type 0} (texts : V → Lines) (o : Option V) (octets : List ℕ) → reads_as_lines true octets ≡ true → IsObjectOf true object (logical_lines octets)
      → MatchOption o ((place : ℕ) → slice_get (map event_slot items) place ≢ Some slot)
      (λ lines. (place : ℕ) × (slice_get (map event_slot items) place ≡ Some slot) × (slice_get (vevents_of object) place ≡ Some (texts lines)))
      → FindsLines octets slot (option_map texts o)
  lines_found texts o octets reads is h = record {
    lines = reads;
    tree = tree_of object;
    object = object_tree true object (logical_lines octets) is;
    message = record { method = method; organiser = t.0; uid = t.1; events = map component_of items };
    says = said;
    finds = found texts o h;
  }
