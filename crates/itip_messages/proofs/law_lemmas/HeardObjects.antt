-- A reply, and a refresh, that was written spells a message to an organiser, whose VEVENTs say these events.
-- Behind refreshes_are_heard, replies_are_heard.
use Rattle.std.proofs.Common.{◌≡◌, ◌≢◌, ◌∙◌, ℕ, ℤ, ◌<◌, ◌≤◌, Bool, true, false, not, cond, List, [], ◌∷◌, ◌++◌, length, filter, get_or, Option, None, Some, is_some, inl, inr, refl, sym, ap, ap₂, subst, arith}
use Rattle.std.specs.Prelude.{AllPairs, Contains}
use Rattle.std.specs.List.{list_all, flat_map, AllZip}
use Rattle.std.specs.declared.cmp.Ordering.TheVariants.{Less, Equal}
use Rattle.std.proofs.lemmas.Bool.{and_from}
use Rattle.std.proofs.lemmas.Cmp.{tied_itself}
use Rattle.std.proofs.lemmas.List.Kept.{AllPairs-filter}
use Rattle.profile.specs.text.Lines.{is_content, is_too_long, logical_lines, reads_as_lines, written}
use Rattle.profile.specs.text.Objects.{IsObject, is_property}
use Rattle.profile.specs.text.Trees.{Tree}
use Rattle.profile.specs.events.EventComponents.{ATTENDEE, presence, is_of_one, EventComponent, Method, SaysEventComponent, meeting_said}
use Rattle.profile.specs.events.Events.{InstancesDiffer, is_master, is_override}
use Rattle.profile.specs.events.Messages.{NamesMethod, SpellsMessage, has_one_attendee}
use Rattle.profile.specs.rooms.Messages.{object_lines, slot_of, slot_named}
use Rattle.profile.specs.rooms.Revisions.{slot_cmp}
use Rattle.itip_messages.specs.Law.{IsVevent}
use Rattle.cal_events.proofs.shared_lemmas.InOneOrder.{head_pairs, pairs_mapped}
use Rattle.cal_events.proofs.shared_lemmas.SeriesLemmas.{zip_back}
use Rattle.cal_events.proofs.shared_lemmas.Zips.{zip_length}
use Rattle.itip_order.proofs.Lists.{in_cons, in_head, in_tail, none_in_nil}
use Rattle.itip_order.proofs.Order.{slot_total}
use Rattle.itip_messages.proofs.message_events_lemmas.EventsRead.{as_they_are}
use Rattle.itip_messages.proofs.shared_lemmas.ContentLines.{IsMethod, LinesBack, ReadsLines, object_content}
use Rattle.itip_messages.proofs.shared_lemmas.ObjectTree.{Lines, calendar_own, calendar_tree, calendar_vevents, object_spelled, vevent_lines}
use Rattle.itip_messages.proofs.shared_lemmas.ReplyLines.{AreOwn}
use Rattle.itip_messages.proofs.shared_lemmas.SentTexts.{bounded_reads}
use Rattle.itip_messages.proofs.shared_lemmas.TimesApart.{times_apart}
use Rattle.itip_messages.proofs.shared_lemmas.ZonedObjects.{bounded_object}

-- ---- the VEVENTs

-- the lines are a VEVENT of this meeting that says the event, with one attendee
pub record Heard (method : Method) (organiser uid : List ℕ) (lines : Lines) (event : EventComponent) : Type 0 where
  pub own : Lines
  pub are : IsVevent own lines
  pub good : AreOwn own
  pub says : (object : Tree) → SaysEventComponent object (Some method) own event
  pub meeting : meeting_said event ≡ (organiser, uid)
  pub one : has_one_attendee event ≡ true

record AllHeard (method : Method) (organiser uid : List ℕ) (texts : List Lines) (events : List EventComponent) : Type 0 where
  owns : List Lines
  are : flat_map (λ lines. lines) texts ≡ flat_map vevent_lines owns
  properties : list_all (list_all is_property) owns ≡ true
  content : list_all (list_all is_content) owns ≡ true
  says : (object : Tree) → AllZip (SaysEventComponent object (Some method)) owns events
  meeting : (event : EventComponent) → Contains events event → meeting_said event ≡ (organiser, uid)
  one : list_all has_one_attendee events ≡ true

all_heard : (method : Method) (organiser uid : List ℕ) (texts : List Lines) (events : List EventComponent) → AllZip (Heard method organiser uid) texts events → AllHeard method organiser uid texts events
all_heard method organiser uid [] [] z = record { owns = []; are = refl; properties = refl; content = refl; says = λ object. tt; meeting = λ e c. absurd (none_in_nil e c); one = refl }
all_heard method organiser uid [] (e ∷ events) z = absurd z
all_heard method organiser uid (lines ∷ texts) [] z = absurd z
all_heard method organiser uid (lines ∷ texts) (e ∷ events) z =
    let one = z.0 in
    let rest = all_heard method organiser uid texts events z.1 in
    record {
      owns = one.own ∷ rest.owns;
      are = ap₂ (λ x y. x ++ y) one.are rest.are;
      properties = and_from _ _ one.good.properties rest.properties;
      content = and_from _ _ one.good.content rest.content;
      says = λ object. (one.says object, rest.says object);
      meeting = λ x c. elim (in_cons e events x c) [
        | inl here ↦ subst (λ (y : EventComponent). meeting_said y ≡ (organiser, uid)) here one.meeting
        | inr there ↦ rest.meeting x there
      ];
      one = and_from _ _ one.one rest.one;
    }

-- ---- by their slots: the whole first, and then by instant

abbrev pub IsBefore : EventComponent → EventComponent → Type 0
IsBefore a b = slot_cmp (slot_of a) (slot_of b) ≡ Less

-- what comes after another is one instance
behind_override : (a b : EventComponent) → IsBefore a b → is_override b ≡ true
behind_override a b h = go a.recurrence b.recurrence h
  where
    go : (o p : Option ℤ) → slot_cmp (slot_named o) (slot_named p) ≡ Less → is_some p ≡ true
    go o (Some t) h = refl
    go None None h = cc
    go (Some t) None h = cc

no_masters : (events : List EventComponent) → ((event : EventComponent) → Contains events event → is_override event ≡ true) → filter is_master events ≡ []
no_masters [] f = refl
no_masters (e ∷ events) f =
    ap (λ (b : Bool). cond (not b) (e ∷ filter is_master events) (filter is_master events)) (f e (in_head e events))
    ∙ no_masters events (λ x c. f x (in_tail e events x c))

few_masters : (events : List EventComponent) → AllPairs IsBefore events → length (filter is_master events) ≤ 1
few_masters [] p = omega arith
few_masters (e ∷ events) p =
    let none = no_masters events (λ x c. behind_override e x (head_pairs IsBefore e x events p c)) in
    subst (λ (l : List EventComponent). length (cond (is_master e) (e ∷ l) l) ≤ 1) (sym none) (by (is_master e))
  where
    by : (b : Bool) → length (cond b (e ∷ []) []) ≤ 1
    by true = omega arith
    by false = omega arith

other_instance : (a b : EventComponent) → IsBefore a b → a.recurrence ≢ b.recurrence
other_instance a b h same =
    let less : slot_cmp (slot_of b) (slot_of b) ≡ Less = subst (λ (o : Option ℤ). slot_cmp (slot_named o) (slot_of b) ≡ Less) same h in
    let equal = tied_itself slot_total (slot_of b) in
    let x : Less ≡ Equal = sym less ∙ equal in
    cc

overrides_differ : (events : List EventComponent) → AllPairs IsBefore events → InstancesDiffer (filter is_override events)
overrides_differ events p =
    let kept = AllPairs-filter IsBefore is_override events p in
    let apart : AllPairs (λ (a b : EventComponent). a.recurrence ≢ b.recurrence) (filter is_override events) = λ i j d l w. other_instance (get_or (filter is_override events) i d) (get_or (filter is_override events) j d) (kept i j d l w) in
    pairs_mapped ◌≢◌ (λ (e : EventComponent). e.recurrence) (filter is_override events) apart

-- ---- the octets

-- those of what an attendee says are taken as they are
pub object_heard : LinesBack → ReadsLines → (word : List ℕ) (method : Method) → IsMethod (Some word) → NamesMethod (calendar_own (Some word)) method → is_of_one (presence ATTENDEE (Some method)) ≡ true
    → (organiser uid : List ℕ) (texts : List Lines) (events : List EventComponent) (octets : List ℕ) → AllZip (Heard method organiser uid) texts events → 0 < length events → length events ≤ 200 → AllPairs IsBefore events
    → octets ≡ written (object_lines (Some word) (flat_map (λ lines. lines) texts)) → is_too_long octets ≡ false
    → SpellsMessage octets (record { method = method; organiser = organiser; uid = uid; events = events })
object_heard back reads word method fine named speaks organiser uid texts events octets z some few order is short =
    let own = Some word in
    let all = all_heard method organiser uid texts events z in
    let lines = object_lines own (flat_map vevent_lines all.owns) in
    let content = object_content own all.owns fine all.content in
    let whole : octets ≡ written lines = is ∙ ap (λ l. written (object_lines own l)) all.are in
    let logical : logical_lines octets ≡ lines = ap logical_lines whole ∙ back lines content in
    let tree = calendar_tree own all.owns in
    let said = all.says tree in
    let count : length all.owns ≡ length events = zip_length (SaysEventComponent tree (Some method)) all.owns events said in
    let object = bounded_object tree lines all.owns (object_spelled own all.owns all.properties) (calendar_vevents own all.owns) (omega (arith, count, few)) in
    record {
      lines = bounded_reads octets (ap (reads_as_lines false) whole ∙ reads lines content) short;
      tree = tree;
      object = subst (IsObject true tree) (sym logical) object;
      says = record {
        method = named;
        events = events;
        says = subst (λ (vs : List Lines). AllZip (SaysEventComponent tree (Some method)) vs events) (sym (calendar_vevents own all.owns)) said;
        taken = sym (as_they_are method speaks events);
        are = record {
          some = some;
          of_it = all.meeting;
          masters = few_masters events order;
          differ = times_apart events (λ e c. (zip_back (SaysEventComponent tree (Some method)) all.owns events e said c).2.instants.slot) (overrides_differ events order);
        };
        one_each = λ _. all.one;
      };
    }
