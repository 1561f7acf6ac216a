-- What is known of the VEVENTs of a message, and its parts for a room.
-- Cited by Message::of of message, Message::parts of parts.
use Rattle.std.proofs.Common.{◌≡◌, ◌∙◌, ℕ, zero, suc, ◌<◌, ◌+◌, Bool, true, false, ◌&&◌, ◌||◌, cond, eqb, ap₂, filter, take, List, [], ◌∷◌, ◌++◌, length, map, get_or, refl, sym, ap, subst, arith, Option, Some, None, IsSome, is_some, option_map, append_assoc}
use Rattle.std.specs.Prelude.{All, Result, Ok, Err, IfErr, Contains, codes}
use Rattle.std.specs.List.{list_any, AllZip}
use Rattle.std.specs.Str.{bytes_eq}
use Rattle.std.proofs.lemmas.Bool.{true≢false, and_parts}
use Rattle.std.proofs.lemmas.List.{map-append, append-nil}
use Rattle.std.proofs.lemmas.List.Elements.{filter_more, All-contains, Contains-append_right}
use Rattle.ical_lines.specs.declared.fault.Refusal.{Refusal}
use Rattle.profile.specs.text.Lines.{line_value}
use Rattle.profile.specs.series.Zones.{Zone}
use Rattle.profile.specs.events.EventComponents as events
use Rattle.profile.specs.events.EventComponents.{AreOfWritten, EventComponent as SaidComponent}
use Rattle.profile.specs.events.Messages as profile_messages
use Rattle.profile.specs.events.Messages.{MethodFault, bad_method, is_method, is_to_rooms}
use Rattle.profile.specs.events.Occurrences.{Time}
use Rattle.profile.specs.events.Placed.{IsAt}
use Rattle.profile.specs.events.Properties.{BothOrNeither, OccursAtMostOnce}
use Rattle.profile.specs.rooms.Messages as profile
use Rattle.profile.specs.rooms.Messages.{AreParts, AreGreatest, Content, no_content, IsPart, IsBody, IsContent, IsSlotIn, names_room, is_addressed, is_part_for, parts_for, raised_to, cancels, is_cancel, canonical}
use Rattle.profile.specs.rooms.Revisions as revisions
use Rattle.cal_events.specs.declared.component.EventComponent.{EventComponent}
use Rattle.cal_events.specs.Component.{component_of, method_said}
use Rattle.cal_events.specs.Said.{IsWritten}
use Rattle.cal_events.specs.declared.method.Method.{Method}
use Rattle.cal_events.specs.declared.method.Method.TheVariants.{Store, Request, Add, Cancel, Reply, Refresh}
use Rattle.cal_events.proofs.shared_lemmas.EventLemmas.{some_line, push_zip}
use Rattle.cal_events.proofs.shared_lemmas.InOneOrder.{in_mapped, of_filtered}
use Rattle.itip_order.specs.Parts.{part_of}
use Rattle.itip_order.specs.declared.part.Part.{Part}
use Rattle.itip_order.proofs.SlotEnds.{greatest_mapped, greatest_none}
use Rattle.itip_messages.specs.declared.message.Message.{Message}
use Rattle.itip_messages.specs.declared.message_component.MessageComponent.{MessageComponent}
use Rattle.itip_messages.specs.Body.{IsReady}
use Rattle.itip_messages.specs.Components.{AreMessageEvents, IsDatedEach}
use Rattle.itip_messages.specs.Message.{HasInstances, IsComponentSlot, IsDated, IsPartFor, SaysComponent, event_slot, RepresentsMessage, component_names, is_component_for, is_message_for, is_part_of, has_part, part_for, WordFault}

abbrev Lines : Type 0
Lines = List (List ℕ)

-- ---- METHOD

word_refuses_at : (own : Lines) (line : List ℕ) (n : ℕ) → OccursAtMostOnce (codes "METHOD") own (Some line) → WordFault (line_value line) n → MethodFault own n
word_refuses_at own line n once w = subst (MethodFault own) (sym w.0) (bad_method (some_line (codes "METHOD") (λ l. is_method (line_value l) ≡ false) own line once w.1))

pub word_refuses : {T : Type 0} (r : Result T Refusal) (own : Lines) (line : List ℕ) → OccursAtMostOnce (codes "METHOD") own (Some line) → IfErr r (λ e. WordFault (line_value line) e.number) → IfErr r (λ e. MethodFault own e.number)
word_refuses (Ok x) own line once h = tt
word_refuses (Err e) own line once h = word_refuses_at own line e.number once h

-- ---- what is known of the VEVENTs of a message

some_itself : {A : Type 0} (o : Option A) → is_some o ≡ true → IsSome o
some_itself None h = cc
some_itself (Some x) h = refl

some_of_map : {A B : Type 0} (f : A → B) (o : Option A) → is_some (option_map f o) ≡ true → IsSome o
some_of_map f None h = cc
some_of_map f (Some x) h = refl

module _ (events : List EventComponent) (m : AreMessageEvents (map component_of events)) (event : EventComponent) (c : Contains events event) where
  each : (Q : SaidComponent → Type 0) → All Q (map component_of events) → Q (component_of event)
  each Q all = All-contains Q (map component_of events) (component_of event) all (in_mapped component_of events event c)

  pub stamp_given : IsSome event.stamp
  stamp_given = some_itself event.stamp (each (λ x. is_some x.stamp ≡ true) m.stamped)

  pub slot_dated : IsDated (event_slot event)
  slot_dated = each (λ x. IsDated (profile.slot_of x)) m.dated

  pub slots_dated : IsDatedEach (component_of event)
  slots_dated = each IsDatedEach m.dated_each

  pub event_is_written : IsWritten (component_of event)
  event_is_written = each IsWritten m.written

  pub event_of_written : AreOfWritten (component_of event).written (component_of event).recurrence (component_of event).additions (component_of event).exceptions
  event_of_written = each (λ x. AreOfWritten x.written x.recurrence x.additions x.exceptions) m.instants

  pub event_is_ready : IsReady (component_of event)
  event_is_ready = each IsReady m.ready

  pub organiser_given : IsSome event.organiser
  organiser_given = some_of_map _ event.organiser (each (λ x. is_some x.organiser ≡ true) m.organised)

-- ---- a loop over VEVENTs

-- the next one is among them
pub next_there : (all yielded left rest : List EventComponent) (event : EventComponent) → all ≡ yielded ++ left → left ≡ event ∷ rest → Contains all event
next_there all yielded left rest event whole next =
    subst (λ (l : List EventComponent). Contains l event) (sym (whole ∙ ap (λ l. yielded ++ l) next)) (Contains-append_right yielded (event ∷ rest) event (0, omega arith, refl))

-- and is said too
pub said_more : {C : Type 0} (Says : SaidComponent → C → Type 0) (all yielded left rest : List EventComponent) (event : EventComponent) (items new : List C) (component : C)
    → all ≡ yielded ++ left → left ≡ event ∷ rest → AllZip Says (map component_of yielded) items → Says (component_of event) component → new ≡ items ++ component ∷ []
    → (all ≡ (yielded ++ event ∷ []) ++ rest) × AllZip Says (map component_of (yielded ++ event ∷ [])) new
said_more Says all yielded left rest event items new component whole next said one pushed =
    let more = push_zip Says (map component_of yielded) items (component_of event) component said one in (
      whole ∙ ap (λ l. yielded ++ l) next ∙ sym (append_assoc yielded (event ∷ []) rest),
      subst (λ (l : List SaidComponent). AllZip Says l new) (sym (map-append component_of yielded (event ∷ []))) (subst (AllZip Says (map component_of yielded ++ component_of event ∷ [])) (sym pushed) more),
    )

-- ---- parts

-- a component names the room where its event does
names_said : (room : List ℕ) (event : SaidComponent) (component : MessageComponent) → SaysComponent event component → component_names room component ≡ names_room room event
names_said room event component s = ap (list_any (λ a. bytes_eq a.address room)) s.attendees

module _ (room : List ℕ) (message : Message) (said : profile_messages.Message) (same : method_said message.method ≡ said.method) where
  -- it addresses the room where that does
  for_said : (event : SaidComponent) (component : MessageComponent) → SaysComponent event component → is_component_for room message component ≡ profile.is_for room said.method event
  for_said event component s =
      ap₂ (λ a b. a || b) (names_said room event component s)
      (ap₂ (λ m n. is_cancel m && n) same (ap (λ l. eqb (length l) 0) s.attendees))

  -- and is a part where that is
  part_is : (event : SaidComponent) (component : MessageComponent) → SaysComponent event component → has_part room message component ≡ is_part_for room said.method event
  part_is event component s = by_method message.method same
    where
      by_method : (m : Method) → method_said m ≡ said.method → is_part_of m (component_names room component || eqb (length component.attendees) 0) ≡ is_part_for room said.method event
      by_method Store e = ap (λ k. is_part_for room k event) e
      by_method Request e = ap (λ k. is_part_for room k event) e
      by_method Add e = ap (λ k. is_part_for room k event) e
      by_method Cancel e =
          ap₂ (λ a b. a || b) (names_said room event component s) (ap (λ l. eqb (length l) 0) s.attendees) ∙ ap (λ k. is_part_for room k event) e
      by_method Reply e = ap (λ k. is_part_for room k event) e
      by_method Refresh e = ap (λ k. is_part_for room k event) e

  any_said : (events : List SaidComponent) (components : List MessageComponent) → AllZip SaysComponent events components → list_any (is_component_for room message) components ≡ list_any (profile.is_for room said.method) events
  any_said [] [] z = refl
  any_said [] (c ∷ cs) z = absurd z
  any_said (e ∷ es) [] z = absurd z
  any_said (e ∷ es) (c ∷ cs) z = ap₂ (λ a b. a || b) (for_said e c z.0) (any_said es cs z.1)

  -- what holds of each event and its component holds of those that are parts
  kept_zip : (Q : SaidComponent → MessageComponent → Type 0) (events : List SaidComponent) (components : List MessageComponent) → AllZip SaysComponent events components → AllZip Q events components
      → AllZip Q (filter (is_part_for room said.method) events) (filter (has_part room message) components)
  kept_zip Q [] [] z q = tt
  kept_zip Q [] (c ∷ cs) z q = absurd z
  kept_zip Q (e ∷ es) [] z q = absurd z
  kept_zip Q (e ∷ es) (c ∷ cs) z q =
      one_kept (is_part_for room said.method e) (has_part room message c) (part_is e c z.0) q.0 (kept_zip Q es cs z.1 q.1)
    where
      one_kept : (a b : Bool) → b ≡ a → Q e c → AllZip Q (filter (is_part_for room said.method) es) (filter (has_part room message) cs)
          → AllZip Q (cond a (e ∷ filter (is_part_for room said.method) es) (filter (is_part_for room said.method) es)) (cond b (c ∷ filter (has_part room message) cs) (filter (has_part room message) cs))
      one_kept true true h r rest = (r, rest)
      one_kept true false h r rest = absurd (true≢false (sym h))
      one_kept false true h r rest = absurd (true≢false h)
      one_kept false false h r rest = rest

-- the part that a component is
body_said : (room : List ℕ) (method : events.Method) (event : SaidComponent) (content : Content) (octets : List ℕ) (b n : Bool) → cancels method event ≡ b → names_room room event ≡ n → IsContent content event → octets ≡ canonical content
    → IsBody room method event (cond b no_content (cond n content no_content)) (cond b revisions.Cancelled (cond n (revisions.Set octets) revisions.Absent))
body_said room method event content octets true n h k when is = (h, refl)
body_said room method event content octets false true h k when is = (h, k, when, is)
body_said room method event content octets false false h k when is = (h, k, refl)

module _ (room : List ℕ) (message : Message) (said : profile_messages.Message) (s : RepresentsMessage message said) where
  abbrev pub content_of : (event : SaidComponent) (component : MessageComponent) → SaysComponent event component → Content
  content_of event component says = cond (cancels said.method event) no_content (cond (names_room room event) says.canonical.content no_content)

  pub body_is : (event : SaidComponent) (component : MessageComponent) (says : SaysComponent event component) (slot : revisions.Slot)
      → (part_for room message component slot).body ≡ cond (cancels said.method event) revisions.Cancelled (cond (names_room room event) (revisions.Set (canonical says.canonical.content)) revisions.Absent)
  body_is event component says slot =
      (λ i. cond (is_cancel (s.method i) || says.cancelled i) revisions.Cancelled (cond (names_said room event component says i) (revisions.Set (says.canonical.is i)) revisions.Absent))

  -- the slot that the component has in a room of this zone is that of its event there
  pub slot_said : (zone : Option Zone) (event : SaidComponent) (component : MessageComponent) → SaysComponent event component → (slot : revisions.Slot) → IsComponentSlot zone component slot → IsSlotIn zone event slot
  slot_said zone event component says slot (instant, at, is) = (instant, subst (λ (time : Option Time). BothOrNeither (IsAt zone) time instant) says.named at, is)

  part_at : (zone : Option Zone) (event : SaidComponent) (component : MessageComponent) → Contains said.events event → (says : SaysComponent event component) → (slot : revisions.Slot)
      → IsComponentSlot zone component slot → IsPart room zone said event (content_of event component says) (part_for room message component slot)
  part_at zone event component c says slot there = record {
    organiser = s.organised event c ∙ ap Some (sym s.organiser);
    uid = s.uid ∙ sym (ap (λ (p : List ℕ × List ℕ). p.1) (s.are.of_it event c));
    slot = slot_said zone event component says slot there;
    revision = λ i. raised_to (s.whole_is i) (says.revision i);
    body = subst (λ (x : revisions.Body). IsBody room said.method event (content_of event component says) x) (sym (body_is event component says slot))
        (body_said room said.method event says.canonical.content (canonical says.canonical.content) (cancels said.method event) (names_room room event) refl refl says.canonical.when refl);
  }

  -- the part of a component is that of its event
  pub part_said : (zone : Option Zone) (event : SaidComponent) (component : MessageComponent) → Contains said.events event → (says : SaysComponent event component) → (part : revisions.Part)
      → IsPartFor room zone message component part → IsPart room zone said event (content_of event component says) part
  part_said zone event component c says part is =
      subst (IsPart room zone said event (content_of event component says)) (sym is.2) (part_at zone event component c says is.0 is.1)

  -- a component is what an event of the message says, and its part for the room, in whichever zone, is the event's
  pub record IsKept (event : SaidComponent) (component : MessageComponent) : Type 0 where
    pub among : Contains said.events event
    pub says : SaysComponent event component
    pub part : (zone : Option Zone) (part : revisions.Part) → IsPartFor room zone message component part → IsPart room zone said event (content_of event component says) part

  kept_one : (event : SaidComponent) (component : MessageComponent) → Contains said.events event → SaysComponent event component → IsKept event component
  kept_one event component c says = record {
    among = c;
    says = says;
    part = λ zone. part_said zone event component c says;
  }

  all_kept : (events : List SaidComponent) (components : List MessageComponent) → ((e : SaidComponent) → Contains events e → Contains said.events e) → AllZip SaysComponent events components → AllZip IsKept events components
  all_kept [] [] f z = tt
  all_kept [] (c ∷ cs) f z = absurd z
  all_kept (e ∷ es) [] f z = absurd z
  all_kept (e ∷ es) (c ∷ cs) f z = (kept_one e c (f e (zero, omega arith, refl)) z.0, all_kept es cs (λ x k. f x (suc k.0, omega (arith, k.1), k.2)) z.1)

  pub addressed : is_message_for room message ≡ is_addressed room said
  addressed = ap₂ (λ m b. is_to_rooms m && b) s.method (any_said room message said s.method said.events message.components.items s.each)

  pub is_to_them : is_addressed room said ≡ true → is_to_rooms said.method ≡ true
  is_to_them h = (and_parts (is_to_rooms said.method) (list_any (profile.is_for room said.method) said.events) h).0

  -- the events that are parts
  pub parts_are : is_addressed room said ≡ true → parts_for room said ≡ filter (is_part_for room said.method) said.events
  parts_are h = ap (λ b. cond b (filter (is_part_for room said.method) said.events) []) h

  kept : (Q : SaidComponent → MessageComponent → Type 0) → AllZip Q said.events message.components.items → is_addressed room said ≡ true → AllZip Q (parts_for room said) (filter (has_part room message) message.components.items)
  kept Q each h =
      subst (λ (l : List SaidComponent). AllZip Q l (filter (has_part room message) message.components.items)) (sym (parts_are h)) (kept_zip room message said s.method Q said.events message.components.items s.each each)

  -- the components that say them
  pub kept_components : is_addressed room said ≡ true → AllZip SaysComponent (parts_for room said) (filter (has_part room message) message.components.items)
  kept_components h = kept SaysComponent s.each h

  -- and their parts
  pub kept_parts : is_addressed room said ≡ true → AllZip IsKept (parts_for room said) (filter (has_part room message) message.components.items)
  kept_parts h = kept IsKept (all_kept said.events message.components.items (λ e c. c) s.each) h

  -- and their instances
  pub kept_instances : is_addressed room said ≡ true → AllZip HasInstances (parts_for room said) (filter (has_part room message) message.components.items)
  kept_instances h = kept HasInstances (s.instances (is_to_them h)) h

  pub kept_among : is_addressed room said ≡ true → (e : SaidComponent) → Contains (parts_for room said) e → Contains said.events e
  kept_among h e c = (of_filtered (is_part_for room said.method) said.events e (subst (λ (l : List SaidComponent). Contains l e) (parts_are h) c)).0

  -- not addressed: no parts
  pub no_parts_for : is_addressed room said ≡ false → parts_for room said ≡ []
  no_parts_for h = ap (λ b. cond b (filter (is_part_for room said.method) said.events) []) h

  -- ---- all its parts in a room

  module _ (zone : Option Zone) where
    abbrev IsPartOf : SaidComponent → revisions.Part → Type 0
    IsPartOf event part = (content : Content) × IsPart room zone said event content part

    abbrev IsPartWith : MessageComponent → Part × Unit {0} → Type 0
    IsPartWith component one = IsPartFor room zone message component (part_of one.0)

    zip_parts : (events : List SaidComponent) (components : List MessageComponent) (all : List (Part × Unit {0})) → AllZip IsKept events components → AllZip IsPartWith components all
        → AllZip IsPartOf events (map (λ one. part_of one.0) all)
    zip_parts [] [] [] z p = tt
    zip_parts [] [] (x ∷ xs) z p = absurd p
    zip_parts [] (c ∷ cs) all z p = absurd z
    zip_parts (e ∷ es) [] all z p = absurd z
    zip_parts (e ∷ es) (c ∷ cs) [] z p = absurd p
    zip_parts (e ∷ es) (c ∷ cs) (x ∷ xs) z p = ((content_of e c z.0.says, z.0.part zone (part_of x.0) p.0), zip_parts es cs xs z.1 p.1)

    pub no_parts : (parts : List revisions.Part) (b : Bool) → b ≡ is_message_for room message → b ≡ false → parts ≡ [] → AreParts room zone said parts
    no_parts parts b is off none = record {
      all = [];
      each = subst (λ (es : List SaidComponent). AllZip IsPartOf es []) (sym (no_parts_for (sym addressed ∙ sym is ∙ off))) tt;
      are = subst (AreGreatest (λ part. part) []) (sym none) (greatest_none (λ part. part));
    }

    pub all_parts : (parts : List revisions.Part) (all kept : List (Part × Unit {0})) (b : Bool) → b ≡ is_message_for room message → b ≡ true
        → AllZip IsPartWith (filter (has_part room message) message.components.items) all → AreGreatest (λ one. part_of one.0) all kept
        → parts ≡ map (λ one. part_of one.0) kept → AreParts room zone said parts
    all_parts parts all kept b is on each are same = record {
      all = map (λ one. part_of one.0) all;
      each = zip_parts (parts_for room said) (filter (has_part room message) message.components.items) all (kept_parts (sym addressed ∙ sym is ∙ on)) each;
      are = subst (AreGreatest (λ part. part) (map (λ one. part_of one.0) all)) (sym same) (greatest_mapped (λ part. part) (λ (one : Part × Unit {0}). part_of one.0) all kept are);
    }

-- ---- the loop over the components

pub part_more : (room : List ℕ) (zone : Option Zone) (message : Message) (items : List MessageComponent) (i : ℕ) (x : MessageComponent) (old new : List (Part × Unit {0})) (one : Part × Unit {0}) → i < length items → x ≡ get_or items i x
    → has_part room message x ≡ true → AllZip (λ component one. IsPartFor room zone message component (part_of one.0)) (filter (has_part room message) (take i items)) old
    → IsPartFor room zone message x (part_of one.0) → new ≡ old ++ one ∷ []
    → AllZip (λ component one. IsPartFor room zone message component (part_of one.0)) (filter (has_part room message) (take (i + 1) items)) new
part_more room zone message items i x old new one w e h are part is =
    let p = has_part room message in
    let R = λ (component : MessageComponent) (one : Part × Unit {0}). IsPartFor room zone message component (part_of one.0) in
    let more : filter p (take (i + 1) items) ≡ filter p (take i items) ++ x ∷ [] = filter_more p items i x w ∙ ap (λ y. filter p (take i items) ++ cond (p y) (y ∷ []) []) (sym e) ∙ ap (λ b. filter p (take i items) ++ cond b (x ∷ []) []) h in
    subst (λ (l : List MessageComponent). AllZip R l new) (sym more) (subst (AllZip R (filter p (take i items) ++ x ∷ [])) (sym is) (push_zip R (filter p (take i items)) old x one are part))

pub part_less : (room : List ℕ) (zone : Option Zone) (message : Message) (items : List MessageComponent) (i : ℕ) (x : MessageComponent) (old : List (Part × Unit {0})) → i < length items → x ≡ get_or items i x
    → has_part room message x ≡ false → AllZip (λ component one. IsPartFor room zone message component (part_of one.0)) (filter (has_part room message) (take i items)) old
    → AllZip (λ component one. IsPartFor room zone message component (part_of one.0)) (filter (has_part room message) (take (i + 1) items)) old
part_less room zone message items i x old w e h are =
    let p = has_part room message in
    let R = λ (component : MessageComponent) (one : Part × Unit {0}). IsPartFor room zone message component (part_of one.0) in
    let none : filter p (take (i + 1) items) ≡ filter p (take i items) = filter_more p items i x w ∙ ap (λ y. filter p (take i items) ++ cond (p y) (y ∷ []) []) (sym e) ∙ ap (λ b. filter p (take i items) ++ cond b (x ∷ []) []) h ∙ append-nil (filter p (take i items)) in
    subst (λ (l : List MessageComponent). AllZip R l old) (sym none) are
