-- What is read of the VEVENTs of an object by its METHOD: the message that they say, and which fault they have.
-- Cited by has_one_attendee, judge_attendees, method_of, read_events.
use Rattle.std.proofs.Common.{◌≡◌, ℕ, Bool, true, false, List, [], ◌∷◌, map, sym, ap, subst, refl, codes, cond, None, Some, Option, unwrap_or, arith, ◌∙◌}
use Rattle.std.specs.List.{AllZip, find, list_all}
use Rattle.std.specs.Prelude.{Result, Ok, Err, IfOk}
use Rattle.std.proofs.lemmas.Option.{same_Some}
use Rattle.ical_lines.specs.declared.fault.Refusal.{Refusal}
use Rattle.profile.specs.text.Lines.{line_value}
use Rattle.profile.specs.events.Properties.{OccursAtMostOnce}
use Rattle.std.specs.Str.{bytes_eq}
use Rattle.std.proofs.lemmas.Bool.{false≢true}
use Rattle.std.proofs.lemmas.List.Folds.{list_all-map}
use Rattle.ical_lines.specs.Fault.{RefusesBy}
use Rattle.ical_lines.specs.declared.fault.Fault.{Fault}
use Rattle.ical_lines.specs.declared.fault.Fault.TheVariants.{Refused, Memory}
use Rattle.ical_values.specs.Octets.{address_octets}
use Rattle.profile.specs.text.Trees.{tree_own, vevents}
use Rattle.profile.specs.events.EventComponents.{ATTENDEE, presence, is_of_one, EventComponent as SaidComponent, SaysEventComponent, Method, Store, Request, Add, Cancel, Reply, Refresh}
use Rattle.profile.specs.events.Events.{EventFault, taken_by}
use Rattle.profile.specs.events.Messages.{NamesMethod, NamesMethodBy, is_word_of, method_named, method_word, named_methods, MessageFault, in_meeting, not_one, are_of_one, has_one_attendee}
use Rattle.ical_tree.specs.Tree.{tree_of}
use Rattle.ical_tree.specs.declared.component.Component.{Component}
use Rattle.cal_events.specs.Component.{attendee_of, component_of, method_said, vevents_of}
use Rattle.cal_events.specs.declared.method.Method.{Method as ReadMethod}
use Rattle.cal_events.specs.MeetingComponents.{AreOfObject}
use Rattle.cal_events.proofs.shared_lemmas.TreeLemmas.{vevents_tree}
use Rattle.cal_events.specs.declared.component.Attendee.{Attendee}
use Rattle.cal_events.specs.declared.component.EventComponent.{EventComponent}
use Rattle.itip_messages.specs.Message.{IsMethodWord, IsNotOneEach, IsWord, SaysEvents}

-- ---- METHOD

found_holds : {X : Type 0} (p : X → Bool) (xs : List X) (x : X) → find p xs ≡ Some x → p x ≡ true
found_holds p [] x h = cc
found_holds p (y ∷ ys) x h = go (p y) refl h (found_holds p ys x)
  where
    go : (b : Bool) → p y ≡ b → cond b (Some y) (find p ys) ≡ Some x → (find p ys ≡ Some x → p x ≡ true) → p x ≡ true
    go true is h rest = subst (λ z. p z ≡ true) (same_Some y x h) is
    go false is h rest = rest h

-- the word of the method that a word names is that word
pub word_of_found : (word : List ℕ) (m : Method) → method_named word ≡ Some m → IsWord (method_word m) word
word_of_found word m h = go m (found_holds (is_word_of word) named_methods m h)
  where
    go : (m : Method) → is_word_of word m ≡ true → IsWord (method_word m) word
    go Store e = false≢true e
    go Request e = e
    go Add e = e
    go Cancel e = e
    go Reply e = e
    go Refresh e = e

-- the one line of METHOD has it
pub word_names : (r : Result ReadMethod Refusal) (own : List (List ℕ)) (line : List ℕ) → OccursAtMostOnce (codes "METHOD") own (Some line) → IfOk r (IsMethodWord (line_value line))
    → IfOk r (λ m. NamesMethod own (method_said m))
word_names (Err e) own line once h = tt
word_names (Ok m) own line once h = go (method_word (method_said m)) h
  where
    go : (w : Option (List ℕ)) → IsWord w (line_value line) → NamesMethodBy w own
    go None h = absurd h
    go (Some name) h = record { line = line; once = once; named = h }

-- ---- the attendees of a VEVENT

pub mapped_one_each : (events : List EventComponent) (b : Bool) → b ≡ list_all (λ event. has_one_attendee (component_of event)) events → b ≡ list_all has_one_attendee (map component_of events)
mapped_one_each events b h = h ∙ sym (list_all-map has_one_attendee component_of events)

pub first_and_others : (all : List Attendee) (first : Attendee) (others : List Attendee) → all ≡ first ∷ others
    → are_of_one (map attendee_of all) ≡ list_all (λ (other : Attendee). bytes_eq (address_octets other.address) (address_octets first.address)) others
first_and_others all first others is =
    ap (λ l. are_of_one (map attendee_of l)) is ∙ list_all-map (λ other. bytes_eq other.address (address_octets first.address)) attendee_of others

-- ---- what the VEVENTs say

-- where METHOD asks for one attendee, they are taken as they are
pub as_they_are : (method : Method) → is_of_one (presence ATTENDEE (Some method)) ≡ true → (events : List SaidComponent) → taken_by (Some method) events ≡ events
as_they_are Store h events = absurd (false≢true h)
as_they_are Request h events = absurd (false≢true h)
as_they_are Add h events = absurd (false≢true h)
as_they_are Cancel h events = absurd (false≢true h)
as_they_are Reply h events = refl
as_they_are Refresh h events = refl

module _ (object : Component) (method : Method) (named : NamesMethod (tree_own (tree_of object)) method) where
  -- the tree says them
  in_tree : (events : List SaidComponent) → AllZip (SaysEventComponent (tree_of object) (Some method)) (vevents_of object) events → AllZip (SaysEventComponent (tree_of object) (Some method)) (vevents (tree_of object)) events
  in_tree events says = subst (λ (l : List (List (List ℕ))). AllZip (SaysEventComponent (tree_of object) (Some method)) l events) (sym (vevents_tree object)) says

  pub says_events : (events : List SaidComponent) → AreOfObject (tree_of object) (Some method) (vevents_of object) events → (is_of_one (presence ATTENDEE (Some method)) ≡ true → list_all has_one_attendee events ≡ true)
      → SaysEvents (tree_of object) method events
  says_events [] a one_each = absurd (let some = a.some in omega (arith, some))
  says_events (first ∷ others) a one_each = (
    unwrap_or first.organiser [],
    first.uid,
    record {
      method = named;
      events = a.said;
      says = in_tree a.said a.says;
      taken = a.taken;
      are = record { some = a.some; of_it = λ event c. a.one event first c (0, omega arith, refl); masters = a.masters; differ = a.differ };
      one_each = one_each;
    },
  )

  -- what is wrong with them
  pub meeting_wrong : (f : Fault) → RefusesBy (EventFault None (tree_of object) (Some method)) f → RefusesBy (MessageFault (tree_of object)) f
  meeting_wrong Memory h = tt
  meeting_wrong (Refused r) h = in_meeting method named h

  pub attendee_wrong : (events : List SaidComponent) → AreOfObject (tree_of object) (Some method) (vevents_of object) events → (n : ℕ) → IsNotOneEach method events n → MessageFault (tree_of object) n
  attendee_wrong events a n h =
      let same : events ≡ a.said = a.taken ∙ as_they_are method h.1 a.said in
      subst (MessageFault (tree_of object)) (sym h.0) (not_one method named h.1 a.said (in_tree a.said a.says) (ap (list_all has_one_attendee) (sym same) ∙ h.2))
