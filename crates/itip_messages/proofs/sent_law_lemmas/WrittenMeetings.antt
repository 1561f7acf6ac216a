-- An object that was written of a store spells VEVENTs that say the store's events again.
-- Behind requests_read_back, shown_reads_back.
use Rattle.std.proofs.Common.{◌≡◌, ◌∙◌, refl, sym, ap, ap₂, subst, inl, inr, ℕ, ◌<◌, ◌≤◌, ◌^◌, true, false, List, [], ◌∷◌, ◌++◌, length, filter, codes, Option, Some, arith}
use Rattle.std.specs.Prelude.{Contains, unwrap_or}
use Rattle.std.specs.List.{list_all, flat_map, AllZip}
use Rattle.std.proofs.lemmas.Bool.{and_from}
use Rattle.profile.specs.text.Lines.{is_content, logical_lines, reads_as_lines, written}
use Rattle.profile.specs.text.Objects.{IsObject, is_property}
use Rattle.profile.specs.text.Trees.{Tree, tree_own, vevents}
use Rattle.profile.specs.events.EventComponents.{Attendee, EventComponent, Request, SaysEventComponent, meeting_said}
use Rattle.profile.specs.events.Events.{InstancesDiffer, TimesDiffer, is_master, is_override}
use Rattle.profile.specs.organisers.Sent.{Component, IsComponentOf, IsComponentText, IsMeetingText, zones_of}
use Rattle.profile.specs.rooms.Kept.{zone_texts}
use Rattle.profile.specs.rooms.Messages.{opening_lines}
use Rattle.profile.specs.rooms.Revisions.{Revision, Slot}
use Rattle.cal_events.proofs.shared_lemmas.SeriesLemmas.{zip_back}
use Rattle.cal_events.proofs.shared_lemmas.Zips.{zip_length}
use Rattle.itip_order.proofs.Lists.{in_cons, in_head, in_tail, none_in_nil}
use Rattle.itip_messages.specs.SentLaw.{IsSaidAgain}
use Rattle.itip_messages.proofs.shared_lemmas.ContentLines.{IsMethod, LinesBack, ReadsLines}
use Rattle.itip_messages.proofs.shared_lemmas.ObjectTree.{Lines, calendar_own, vevent_lines}
use Rattle.itip_messages.proofs.sent_law_lemmas.SentEvents.{ReadsLine, one_back}
use Rattle.itip_messages.proofs.sent_law_lemmas.SentMeetings.{masters_few, overrides_differ}
use Rattle.itip_messages.proofs.sent_law_lemmas.SentZones.{sent_zones}
use Rattle.itip_messages.proofs.sent_law_lemmas.StoredEvents.{AreStored, IsStored}
use Rattle.itip_messages.proofs.shared_lemmas.TimesApart.{times_apart}
use Rattle.itip_messages.proofs.shared_lemmas.ZonedObjects.{IsZonedTree, ZoneBack, bounded_object, zoned_spelled}

-- ---- all VEVENTs

record AllBack (word : Option (List ℕ)) (IsSuch : Slot → Attendee → Attendee → Type 0) (zones : List (List ℕ)) (revision : Revision) (events : List EventComponent) (texts : List Lines) : Type 0 where
  owns : List Lines
  saids : List EventComponent
  are : flat_map (λ lines. lines) texts ≡ flat_map vevent_lines owns
  properties : list_all (list_all is_property) owns ≡ true
  content : list_all (list_all is_content) owns ≡ true
  says : (all : List Lines) (k : IsZonedTree word zones all) → AllZip (SaysEventComponent k.whole (Some Request)) owns saids
  each : AllZip (IsSaidAgain IsSuch revision) events saids

module _ (word : Option (List ℕ)) (IsLine : Slot → Attendee → List ℕ → Type 0) (IsSuch : Slot → Attendee → Attendee → Type 0) (reads_line : ReadsLine IsLine IsSuch) (organiser uid : List ℕ) (revision : Revision) (small : revision.sequence < 2 ^ 31) (zones : List (List ℕ)) where
  all_back : (events : List EventComponent) (components : List Component) (texts : List Lines) → ((event : EventComponent) → Contains events event → IsStored organiser uid event)
      → AllZip IsComponentOf events components → AllZip (IsComponentText organiser uid revision zones IsLine) components texts → AllBack word IsSuch zones revision events texts
  all_back [] [] [] f a z = record { owns = []; saids = []; are = refl; properties = refl; content = refl; says = λ all k. tt; each = tt }
  all_back [] [] (lines ∷ texts) f a z = absurd z
  all_back [] (c ∷ components) texts f a z = absurd a
  all_back (e ∷ events) [] texts f a z = absurd a
  all_back (e ∷ events) (c ∷ components) [] f a z = absurd z
  all_back (e ∷ events) (c ∷ components) (lines ∷ texts) f a z =
      let one = one_back word IsLine IsSuch reads_line organiser uid revision small zones e c lines (f e (in_head e events)) a.0 z.0 in
      let rest = all_back events components texts (λ x k. f x (in_tail e events x k)) a.1 z.1 in
      record {
        owns = one.own ∷ rest.owns;
        saids = one.said ∷ rest.saids;
        are = ap₂ (λ x y. x ++ y) one.are rest.are;
        properties = and_from _ _ one.good.properties rest.properties;
        content = and_from _ _ one.good.content rest.content;
        says = λ all k. (one.says all k, rest.says all k);
        each = (one.is, rest.each);
      }

-- ---- all are of the meeting

of_meeting : (IsSuch : Slot → Attendee → Attendee → Type 0) (organiser uid : List ℕ) (revision : Revision) (events saids : List EventComponent) → ((event : EventComponent) → Contains events event → IsStored organiser uid event) → AllZip (IsSaidAgain IsSuch revision) events saids
    → (said : EventComponent) → Contains saids said → meeting_said said ≡ (organiser, uid)
of_meeting IsSuch organiser uid revision events [] f z said c = absurd (none_in_nil said c)
of_meeting IsSuch organiser uid revision [] (s ∷ saids) f z said c = absurd z
of_meeting IsSuch organiser uid revision (e ∷ events) (s ∷ saids) f z said c = elim (in_cons s saids said c) [
  | inl here ↦
      let stored = f e (in_head e events) in
      let is : meeting_said s ≡ (organiser, uid) = λ i. (unwrap_or ((z.0.organiser ∙ stored.organised) i) [], (z.0.uid ∙ stored.named) i) in
      subst (λ (x : EventComponent). meeting_said x ≡ (organiser, uid)) here is
  | inr there ↦ of_meeting IsSuch organiser uid revision events saids (λ x k. f x (in_tail e events x k)) z.1 said there
]

-- ---- the octets

-- they are one object with this METHOD, or with none, and its VEVENTs are those of one meeting, of which a message may have so many
pub record WrittenBack (word : Option (List ℕ)) (IsSuch : Slot → Attendee → Attendee → Type 0) (organiser uid : List ℕ) (revision : Revision) (events : List EventComponent) (octets : List ℕ) : Type 0 where
  pub saids : List EventComponent
  pub each : AllZip (IsSaidAgain IsSuch revision) events saids
  pub lines : reads_as_lines false octets ≡ true
  pub whole : Tree
  pub object : IsObject true whole (logical_lines octets)
  pub own : tree_own whole ≡ calendar_own word
  pub says : AllZip (SaysEventComponent whole (Some Request)) (vevents whole) saids
  pub some : 0 < length saids
  pub of_it : (said : EventComponent) → Contains saids said → meeting_said said ≡ (organiser, uid)
  pub masters : length (filter is_master saids) ≤ 1
  pub differ : InstancesDiffer (filter is_override saids)
  pub times_differ : TimesDiffer (filter is_override saids)

pub written_back : LinesBack → ReadsLines → ZoneBack → (word : Option (List ℕ)) → IsMethod word → (IsLine : Slot → Attendee → List ℕ → Type 0) (IsSuch : Slot → Attendee → Attendee → Type 0) → ReadsLine IsLine IsSuch
    → (organiser uid : List ℕ) (revision : Revision) (events : List EventComponent) (octets : List ℕ) → AreStored organiser uid events → revision.sequence < 2 ^ 31
    → IsMeetingText word organiser uid revision IsLine events octets → WrittenBack word IsSuch organiser uid revision events octets
written_back back reads zone_back word method IsLine IsSuch reads_line organiser uid revision events octets f small m =
    let zones = zones_of m.components in
    let b = all_back word IsLine IsSuch reads_line organiser uid revision small zones events m.components m.texts f.each m.are m.each in
    let k = zoned_spelled back zone_back word method zones b.owns (sent_zones events m.components (λ e c. (f.each e c).zone) m.are) m.few b.properties b.content in
    let whole : octets ≡ written k.lines =
    m.is
    ∙ ap (λ (l : Lines). written (opening_lines word) ++ zone_texts 0 zones ++ written (l ++ codes "END:VCALENDAR" ∷ [])) b.are
    ∙ k.text in
    let logical : logical_lines octets ≡ k.lines = ap logical_lines whole ∙ back k.lines k.content in
    let says = b.says b.owns k in
    let slots : (e s : EventComponent) → IsSaidAgain IsSuch revision e s → e.recurrence ≡ s.recurrence = λ e s h. sym h.recurrence in
    let count : length b.owns ≡ length b.saids = zip_length (SaysEventComponent k.whole (Some Request)) b.owns b.saids says in
    let same : length events ≡ length b.saids = zip_length (IsSaidAgain IsSuch revision) events b.saids b.each in
    let differ = overrides_differ (IsSaidAgain IsSuch revision) slots events b.saids b.each f.differ in
    let object = bounded_object k.whole k.lines b.owns k.object k.events (few_there (length b.owns) (length b.saids) (length events) count same f.few) in
    record {
      saids = b.saids;
      each = b.each;
      lines = ap (reads_as_lines false) whole ∙ reads k.lines k.content;
      whole = k.whole;
      object = subst (IsObject true k.whole) (sym logical) object;
      own = k.own;
      says = subst (λ (vs : List Lines). AllZip (SaysEventComponent k.whole (Some Request)) vs b.saids) (sym k.events) says;
      some = omega (arith, f.some, same);
      of_it = of_meeting IsSuch organiser uid revision events b.saids f.each b.each;
      masters = masters_few (IsSaidAgain IsSuch revision) slots events b.saids b.each f.masters;
      differ = differ;
      times_differ = times_apart b.saids (λ s c. (zip_back (IsSaidAgain IsSuch revision) events b.saids s b.each c).2.instants.slot) differ;
    }
  where
    few_there : (a b c : ℕ) → a ≡ b → c ≡ b → c ≤ 200 → a ≤ 200
    few_there a b c p q h = omega (arith, p, q, h)
