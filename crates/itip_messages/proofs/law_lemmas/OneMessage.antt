-- Octets say at most one message, and none where they have a fault.
-- Cited by one_message.
use Rattle.std.proofs.Common.{◌≡◌, ◌∙◌, ℕ, ◌<◌, ◌≤◌, true, false, List, [], ◌∷◌, length, filter, get_or, refl, sym, ap, subst, arith, inl, inr}
use Rattle.std.specs.Prelude.{Contains, codes, Option, Some, None}
use Rattle.std.specs.List.{AllZip, list_all}
use Rattle.std.specs.Str.{str_to_ascii_lowercase}
use Rattle.std.proofs.lemmas.Bool.{true≢false}
use Rattle.std.proofs.lemmas.List.{length-map}
use Rattle.std.proofs.lemmas.Slice.Eq.{bytes_eq-Decides}
use Rattle.ical_lines.proofs.ContentLemmas.{read_fine}
use Rattle.ical_tree.proofs.OneLine.{at_one}
use Rattle.profile.specs.text.Lines.{logical_lines, reads_as_lines, line_value, is_same_name}
use Rattle.profile.specs.text.Objects.{IsObject}
use Rattle.profile.specs.text.Trees.{Tree, tree_own, vevents}
use Rattle.profile.specs.events.EventComponents.{ATTENDEE, presence, is_of_one, Method, Store, Request, Add, Cancel, Reply, Refresh, NamesWord, EventComponent, SaysEventComponent, meeting_said}
use Rattle.profile.specs.events.Properties.{IsMissing}
use Rattle.profile.specs.events.Events.{AreOfOne, EventFault, TimesDiffer, as_added, taken_by, is_master, is_override, in_event, two_masters, two_overrides, two_meetings, no_event}
use Rattle.profile.specs.events.Placed.{SaysPlaced}
use Rattle.itip_messages.proofs.shared_lemmas.PlacedUtc.{all_said}
use Rattle.profile.specs.events.Messages.{NamesMethod, has_one_attendee, Message, SaysMessage, MethodFault, two_methods, bad_method, MessageFault, in_method, in_meeting, not_one, is_method, SpellsMessage}
use Rattle.profile.specs.streams.Streams.{ObjectFault}
use Rattle.cal_events.proofs.reading_lemmas.OneCalendar.{OneEvent, NoFault}
use Rattle.cal_events.proofs.reading_lemmas.OneText.{OneTree, PairsUp}
use Rattle.cal_events.proofs.shared_lemmas.ObjectFaults.{has_version_only, has_few_events}
use Rattle.cal_events.proofs.shared_lemmas.Zips.{zip_at, zip_length, zip_one}
use Rattle.cal_events.proofs.shared_lemmas.InOneOrder.{in_mapped}
use Rattle.itip_messages.proofs.message_events_lemmas.EventsRead.{as_they_are}

abbrev Lines : Type 0
Lines = List (List ℕ)

-- its VEVENTs say one list of events
one_list : OneEvent → (object : Tree) (m : Option Method) (xs ys : List EventComponent) → AllZip (SaysEventComponent object m) (vevents object) xs → AllZip (SaysEventComponent object m) (vevents object) ys → xs ≡ ys
one_list one object m xs ys h k = zip_one (SaysEventComponent object m) (λ lines a b s t. one object m lines a b s t) (vevents object) xs ys h k

-- ---- METHOD

abbrev lower : List ℕ → List ℕ
lower = str_to_ascii_lowercase

same_lower : (word name : List ℕ) → is_same_name word name ≡ true → lower word ≡ lower name
same_lower word name h = (bytes_eq-Decides (lower word) (lower name)).0 h

-- where METHOD names two words, these are the same name
two_words : (own : Lines) (a b : List ℕ) → NamesWord own a → NamesWord own b → lower a ≡ lower b
two_words own a b s t =
    let same : s.line ≡ t.line = ap (λ xs. get_or xs 0 []) (sym s.once ∙ t.once) in
    sym (same_lower (line_value s.line) a s.named) ∙ ap (λ l. lower (line_value l)) same ∙ same_lower (line_value t.line) b t.named

differs : (own : Lines) (a b : List ℕ) → is_same_name a b ≡ false → NamesWord own a → NamesWord own b → ⊥
differs own a b h s t = true≢false (sym ((bytes_eq-Decides (lower a) (lower b)).1 (two_words own a b s t)) ∙ h)

missing : (own : Lines) (a : List ℕ) → IsMissing (codes "METHOD") own → NamesWord own a → ⊥
missing own a h s = let k : 0 ≡ 1 = ap length (sym h ∙ s.once) in absurd (omega (arith, k))

same_method : (own : Lines) (a b : Method) → NamesMethod own a → NamesMethod own b → a ≡ b
same_method own Store Store s t = refl
same_method own Store Request s t = absurd (missing own (codes "REQUEST") s t)
same_method own Store Add s t = absurd (missing own (codes "ADD") s t)
same_method own Store Cancel s t = absurd (missing own (codes "CANCEL") s t)
same_method own Store Reply s t = absurd (missing own (codes "REPLY") s t)
same_method own Store Refresh s t = absurd (missing own (codes "REFRESH") s t)
same_method own Request Store s t = absurd (missing own (codes "REQUEST") t s)
same_method own Request Request s t = refl
same_method own Request Add s t = absurd (differs own (codes "REQUEST") (codes "ADD") refl s t)
same_method own Request Cancel s t = absurd (differs own (codes "REQUEST") (codes "CANCEL") refl s t)
same_method own Request Reply s t = absurd (differs own (codes "REQUEST") (codes "REPLY") refl s t)
same_method own Request Refresh s t = absurd (differs own (codes "REQUEST") (codes "REFRESH") refl s t)
same_method own Add Store s t = absurd (missing own (codes "ADD") t s)
same_method own Add Request s t = absurd (differs own (codes "ADD") (codes "REQUEST") refl s t)
same_method own Add Add s t = refl
same_method own Add Cancel s t = absurd (differs own (codes "ADD") (codes "CANCEL") refl s t)
same_method own Add Reply s t = absurd (differs own (codes "ADD") (codes "REPLY") refl s t)
same_method own Add Refresh s t = absurd (differs own (codes "ADD") (codes "REFRESH") refl s t)
same_method own Cancel Store s t = absurd (missing own (codes "CANCEL") t s)
same_method own Cancel Request s t = absurd (differs own (codes "CANCEL") (codes "REQUEST") refl s t)
same_method own Cancel Add s t = absurd (differs own (codes "CANCEL") (codes "ADD") refl s t)
same_method own Cancel Cancel s t = refl
same_method own Cancel Reply s t = absurd (differs own (codes "CANCEL") (codes "REPLY") refl s t)
same_method own Cancel Refresh s t = absurd (differs own (codes "CANCEL") (codes "REFRESH") refl s t)
same_method own Reply Store s t = absurd (missing own (codes "REPLY") t s)
same_method own Reply Request s t = absurd (differs own (codes "REPLY") (codes "REQUEST") refl s t)
same_method own Reply Add s t = absurd (differs own (codes "REPLY") (codes "ADD") refl s t)
same_method own Reply Cancel s t = absurd (differs own (codes "REPLY") (codes "CANCEL") refl s t)
same_method own Reply Reply s t = refl
same_method own Reply Refresh s t = absurd (differs own (codes "REPLY") (codes "REFRESH") refl s t)
same_method own Refresh Store s t = absurd (missing own (codes "REFRESH") t s)
same_method own Refresh Request s t = absurd (differs own (codes "REFRESH") (codes "REQUEST") refl s t)
same_method own Refresh Add s t = absurd (differs own (codes "REFRESH") (codes "ADD") refl s t)
same_method own Refresh Cancel s t = absurd (differs own (codes "REFRESH") (codes "CANCEL") refl s t)
same_method own Refresh Reply s t = absurd (differs own (codes "REFRESH") (codes "REPLY") refl s t)
same_method own Refresh Refresh s t = refl

-- ---- what is named has no fault

is_taken : (name : List ℕ) → ((x : List ℕ) → lower x ≡ lower name → is_method x ≡ true) → (own : Lines) (n : ℕ) → NamesWord own name → MethodFault own n → ⊥
is_taken name known own n s (two_methods h) = let k = ap length s.once in absurd (omega (arith, h, k))
is_taken name known own n s (bad_method (line, at, h)) =
    let e = at_one s.line line (subst (λ (xs : Lines). Contains xs line) s.once at) in
    true≢false (sym (known (line_value line) (ap (λ l. lower (line_value l)) (sym e) ∙ same_lower (line_value s.line) name s.named)) ∙ h)

none_there : (own : Lines) (n : ℕ) → IsMissing (codes "METHOD") own → MethodFault own n → ⊥
none_there own n s (two_methods h) = let k = ap length s in absurd (omega (arith, h, k))
none_there own n s (bad_method (line, (k, w, same), h)) = let l = ap length s in absurd (omega (arith, w, l))

no_method_fault : (own : Lines) (a : Method) (n : ℕ) → NamesMethod own a → MethodFault own n → ⊥
no_method_fault own Store n = none_there own n
no_method_fault own Request n = is_taken (codes "REQUEST") (λ x e. rw e refl) own n
no_method_fault own Add n = is_taken (codes "ADD") (λ x e. rw e refl) own n
no_method_fault own Cancel n = is_taken (codes "CANCEL") (λ x e. rw e refl) own n
no_method_fault own Reply n = is_taken (codes "REPLY") (λ x e. rw e refl) own n
no_method_fault own Refresh n = is_taken (codes "REFRESH") (λ x e. rw e refl) own n

-- ---- what a VCALENDAR says

-- the first event has the names
names_of : (a : Message) (events : List EventComponent) → a.events ≡ events → 0 < length events → ((e : EventComponent) → Contains a.events e → meeting_said e ≡ (a.organiser, a.uid))
    → (e : EventComponent) × Contains events e × (meeting_said e ≡ (a.organiser, a.uid))
names_of a [] is h of = absurd (omega (arith, h))
names_of a (e ∷ rest) is h of = (e, (0, omega arith, refl), of e (subst (λ (l : List EventComponent). Contains l e) (sym is) (0, omega arith, refl)))

one_said : OneEvent → (object : Tree) (a b : Message) → SaysMessage object a → SaysMessage object b → a ≡ b
one_said one object a b s t =
    let method = same_method (tree_own object) a.method b.method s.method t.method in
    let says = subst (λ (m : Method). AllZip (SaysEventComponent object (Some m)) (vevents object) s.events) method s.says in
    let said = one_list one object (Some b.method) s.events t.events says t.says in
    let events : a.events ≡ b.events = s.taken ∙ (λ i. taken_by (Some (method i)) (said i)) ∙ sym t.taken in
    let first = names_of a a.events refl s.are.some s.are.of_it in
    let names = sym first.2 ∙ t.are.of_it first.0 (subst (λ (l : List EventComponent). Contains l first.0) events first.1) in
    let organiser : a.organiser ≡ b.organiser = ap (λ p. p.0) names in
    let uid : a.uid ≡ b.uid = ap (λ p. p.1) names in
    λ i. record { method = method i; organiser = organiser i; uid = uid i; events = events i }

-- the VEVENTs of a message are those of one meeting
module _ (one : OneEvent) (sound : NoFault) (object : Tree) (a : Message) (s : SaysMessage object a) where
  abbrev taken : List EventComponent
  taken = taken_by (Some a.method) s.events

  same_meeting : (x y : EventComponent) → Contains taken x → Contains taken y → meeting_said x ≡ meeting_said y
  same_meeting x y c d =
      s.are.of_it x (subst (λ (l : List EventComponent). Contains l x) (sym s.taken) c) ∙ sym (s.are.of_it y (subst (λ (l : List EventComponent). Contains l y) (sym s.taken) d))

  one_of : (m : Method) (es : List EventComponent) → AreOfOne (taken_by (Some m) es) → AreOfOne es
  one_of Store es h = h
  one_of Request es h = h
  one_of Add es h = λ x y c d. h (as_added x) (as_added y) (in_mapped as_added es x c) (in_mapped as_added es y d)
  one_of Cancel es h = h
  one_of Reply es h = h
  one_of Refresh es h = h

  some_of : (m : Method) (es : List EventComponent) → 0 < length (taken_by (Some m) es) → 0 < length es
  some_of Store es h = h
  some_of Request es h = h
  some_of Add es h = omega (arith, h, length-map es as_added)
  some_of Cancel es h = h
  some_of Reply es h = h
  some_of Refresh es h = h

  some_said : 0 < length s.events
  some_said = some_of a.method s.events (subst (λ (l : List EventComponent). 0 < length l) s.taken s.are.some)

  -- what its VEVENTs say in UTC
  these : (events : List EventComponent) → AllZip (SaysPlaced None object (Some a.method)) (vevents object) events → events ≡ s.events
  these events says = one_list one object (Some a.method) events s.events (all_said object (Some a.method) (vevents object) events says) s.says

  taken_these : (events : List EventComponent) → AllZip (SaysPlaced None object (Some a.method)) (vevents object) events → taken_by (Some a.method) events ≡ a.events
  taken_these events says = ap (taken_by (Some a.method)) (these events says) ∙ sym s.taken

  no_meeting_fault : (n : ℕ) → EventFault None object (Some a.method) n → ⊥
  no_meeting_fault n (in_event lines c f) = let x = zip_at (SaysEventComponent object (Some a.method)) (vevents object) s.events lines s.says c in sound object (Some a.method) lines x.0 n x.1 f
  no_meeting_fault n (two_masters events says more) =
      let few : length (filter is_master (taken_by (Some a.method) events)) ≤ 1 = subst (λ (l : List EventComponent). length (filter is_master l) ≤ 1) (sym (taken_these events says)) s.are.masters in
      omega (arith, few, more)
  no_meeting_fault n (two_overrides events says not) = not (subst (λ (l : List EventComponent). TimesDiffer (filter is_override l)) (sym (taken_these events says)) s.are.differ)
  no_meeting_fault n (two_meetings events says not) = not (subst AreOfOne (sym (these events says)) (one_of a.method s.events same_meeting))
  no_meeting_fault n (no_event h) =
      let l = zip_length (SaysEventComponent object (Some a.method)) (vevents object) s.events s.says in
      let e = ap length h in
      omega (arith, l, e, some_said)

no_message_fault : OneEvent → NoFault → (object : Tree) (a : Message) (n : ℕ) → SaysMessage object a → MessageFault object n → ⊥
no_message_fault one sound object a n s (in_method h) = no_method_fault (tree_own object) a.method n s.method h
no_message_fault one sound object a n s (in_meeting method named h) =
    let same = same_method (tree_own object) method a.method named s.method in
    no_meeting_fault one sound object a s n (subst (λ (m : Method). EventFault None object (Some m) n) same h)
no_message_fault one sound object a n s (not_one method named speaks events says h) =
    let same = same_method (tree_own object) method a.method named s.method in
    let spoken = subst (λ (m : Method). AllZip (SaysEventComponent object (Some m)) (vevents object) events) same says in
    let speaks_here : is_of_one (presence ATTENDEE (Some a.method)) ≡ true = subst (λ (m : Method). is_of_one (presence ATTENDEE (Some m)) ≡ true) same speaks in
    let these = one_list one object (Some a.method) s.events events s.says spoken in
    true≢false (sym (s.one_each speaks_here) ∙ ap (list_all has_one_attendee) (s.taken ∙ as_they_are a.method speaks_here s.events ∙ these) ∙ h)

-- ---- octets

one_tree : OneTree → (octets : List ℕ) (a b : Tree) → IsObject true a (logical_lines octets)
    → IsObject true b (logical_lines octets) → a ≡ b
one_tree tree octets a b s t = tree 7 7 (logical_lines octets) a b s.spelled t.spelled

pub one_spelled : OneTree → OneEvent → (octets : List ℕ) (a b : Message) → SpellsMessage octets a → SpellsMessage octets b → a ≡ b
one_spelled tree one octets a b s t =
    let same = one_tree tree octets s.tree t.tree s.object t.object in
    one_said one t.tree a b (subst (λ (x : Tree). SaysMessage x a) same s.says) t.says

-- octets that are an object without a fault of a message have no fault
none_in_text : OneTree → PairsUp → (octets : List ℕ) (t : Tree) (n : ℕ) → reads_as_lines true octets ≡ true → IsObject true t (logical_lines octets)
    → (MessageFault t n → ⊥) → ObjectFault n octets → ⊥
none_in_text tree pairs octets t n lines object free (inl h) = true≢false (sym h ∙ read_fine true octets n lines)
none_in_text tree pairs octets t n lines object free (inr (inl h)) = pairs true t (logical_lines octets) n object h
none_in_text tree pairs octets t n lines object free (inr (inr (inl (x, spelled, inl (e, h))))) = has_version_only tree octets t object x (spelled, h)
none_in_text tree pairs octets t n lines object free (inr (inr (inl (x, spelled, inr (e, h))))) = has_few_events tree octets t object x (spelled, h)
none_in_text tree pairs octets t n lines object free (inr (inr (inr r))) =
    free (subst (λ (x : Tree). MessageFault x n) (sym (one_tree tree octets t r.tree object r.object)) r.fault)

pub no_fault : OneTree → PairsUp → OneEvent → NoFault → (octets : List ℕ) (a : Message) (n : ℕ) → SpellsMessage octets a → ObjectFault n octets → ⊥
no_fault tree pairs one sound octets a n s = none_in_text tree pairs octets s.tree n s.lines s.object (no_message_fault one sound s.tree a n s.says)
