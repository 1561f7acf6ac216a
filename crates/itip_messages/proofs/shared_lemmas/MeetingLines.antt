-- The lines of a meeting that is written: its zones, and a VEVENT for each of its components.
-- Cited by write_instance of event_lines, write_attendees of meeting_text, write_component of meeting_text, write_components of meeting_text, write_meeting of meeting_text.
use Rattle.std.proofs.Common.{◌≡◌, ◌∙◌, ℕ, ℤ, ◌<◌, ◌^◌, List, [], ◌∷◌, ◌++◌, filter, length, codes, refl, sym, ap, subst, Option}
use Rattle.std.specs.Option.{option_to_list}
use Rattle.std.specs.List.{flat_map, AllZip}
use Rattle.std.specs.Str.{IsUtf8}
use Rattle.cal_events.proofs.shared_lemmas.EventLemmas.{push_zip}
use Rattle.ical_values.specs.Octets.{text_octets, address_octets}
use Rattle.ical_values.specs.Written.{Appends}
use Rattle.itip_order.specs.Parts.{slot_of, revision_of}
use Rattle.profile.specs.text.Lines.{written, folded}
use Rattle.profile.specs.text.Values.{escaped}
use Rattle.profile.specs.events.EventComponents.{Attendee, EventComponent}
use Rattle.profile.specs.rooms.Revisions.{Slot, At}
use Rattle.profile.specs.rooms.Messages.{Content, IsContent, TellsSlot, opening_lines}
use Rattle.profile.specs.rooms.Kept.{each_once, zone_texts}
use Rattle.profile.specs.events.Messages.{counted}
use Rattle.profile.specs.organisers.Sent.{Component, IsComponentOf, IsComponentText, TellsRevision, status_lines, zones_of}
use Rattle.itip_messages.specs.declared.meeting_text.MeetingText.{MeetingText}
use Rattle.itip_messages.specs.declared.message_component.MessageComponent.{MessageComponent}
use Rattle.itip_messages.specs.BodyText.{WritesBody, WritesSlot, content_in}
use Rattle.itip_messages.specs.MeetingText.{IsTextOf, IsWrittenComponent, WritesComponent, WritesComponents, WritesLine, zone_in}
use Rattle.itip_messages.specs.Message.{IsDated, SaysComponent}
use Rattle.itip_messages.specs.Reply.{IsWrittenStampLine, WritesLines}
use Rattle.itip_messages.specs.Zones.{is_new, with_zones}
use Rattle.itip_messages.proofs.shared_lemmas.BodyContents.{body_of}
use Rattle.itip_messages.proofs.shared_lemmas.LineLemmas.{one_line}
use Rattle.itip_messages.proofs.shared_lemmas.WrittenLines.{flat_push, push_lines, push_line, no_lines}
use Rattle.itip_messages.proofs.shared_lemmas.ZonesOnce.{named_still, with_more, with_zones_are, zones_once}

-- ---- RECURRENCE-ID

pub slot_written : (instant stamp : ℤ) (old new : List ℕ) → stamp ≡ instant → Appends old new (IsWrittenStampLine (codes "RECURRENCE-ID:") stamp) → WritesSlot (At instant) old new
slot_written instant stamp old new is a = record {
  lines = (codes "RECURRENCE-ID:" ++ a.1.0) ∷ [];
  tells = λ _. subst (λ t. TellsSlot (At t) ((codes "RECURRENCE-ID:" ++ a.1.0) ∷ [])) is (a.1.0, a.1.1, refl);
  is = one_line old new (codes "RECURRENCE-ID:" ++ a.1.0) (a.2 ∙ ap (λ l. old ++ l) a.1.2);
}

-- ---- what is appended

pub both_appended : (old new a b first last : List ℕ) → new ≡ old ++ (a ++ b) → a ≡ first → b ≡ last → new ≡ old ++ (first ++ last)
both_appended old new a b first last h e f = h ∙ (λ i. old ++ (e i ++ f i))

-- ---- attendees

-- one more attendee
pub attendee_more : (IsLine : Attendee → List ℕ → Type 0) (done : List Attendee) (attendee : Attendee) (old now new : List ℕ) → WritesLines old now (AllZip IsLine done) → WritesLine (IsLine attendee) now new
    → WritesLines old new (AllZip IsLine (done ++ attendee ∷ []))
attendee_more IsLine done attendee old now new before (line, is, one) =
    (before.0 ++ line ∷ [], push_zip IsLine done before.0 attendee line before.1 is, push_line old now new line before.0 before.2 one)

-- ---- a VEVENT

module _ (IsLine : Slot → Attendee → List ℕ → Type 0) (meeting : MeetingText) where
  -- the lines of a component's VEVENT
  abbrev event_lines : MessageComponent → List (List ℕ) → List (List ℕ) → List (List ℕ) → List (List ℕ) → List (List ℕ)
  event_lines component slot dated body attendees =
      (codes "BEGIN:VEVENT" ∷ (codes "UID:" ++ escaped (text_octets meeting.uid.now)) ∷ slot) ++ dated ++ body ++ status_lines component.cancelled
      ++ ((codes "SUMMARY:" ++ escaped (text_octets component.summary)) ∷ (codes "ORGANIZER:" ++ address_octets meeting.organiser.now) ∷ attendees) ++ codes "END:VEVENT" ∷ []

  module _ (component : MessageComponent) (zones_old zones_new : List (List ℕ)) (o0 o1 o2 o3 o4 o5 o6 o7 o8 o9 o10 : List ℕ)
      (slot : WritesSlot (slot_of component.slot) o2 o3) (dated : WritesLines o3 o4 (TellsRevision (revision_of meeting.revision)))
      (body : WritesBody component.canonical.items zones_old zones_new o4 o5)
      (attendees : WritesLines o8 o9 (AllZip (IsLine (slot_of component.slot)) (counted component.attendees))) where
    all_written : o1 ≡ o0 ++ folded (codes "BEGIN:VEVENT") → o2 ≡ o1 ++ folded (codes "UID:" ++ escaped (text_octets meeting.uid.now)) → o6 ≡ o5 ++ written (status_lines component.cancelled)
        → o7 ≡ o6 ++ folded (codes "SUMMARY:" ++ escaped (text_octets component.summary)) → o8 ≡ o7 ++ folded (codes "ORGANIZER:" ++ address_octets meeting.organiser.now)
        → o10 ≡ o9 ++ folded (codes "END:VEVENT") → o10 ≡ o0 ++ written (event_lines component slot.lines dated.0 body.lines attendees.0)
    all_written h1 h2 h6 h7 h8 h10 =
        let uid = codes "UID:" ++ escaped (text_octets meeting.uid.now) in
        let summary = codes "SUMMARY:" ++ escaped (text_octets component.summary) in
        let organiser = codes "ORGANIZER:" ++ address_octets meeting.organiser.now in
        let first : List (List ℕ) = codes "BEGIN:VEVENT" ∷ uid ∷ [] in
        let which : List (List ℕ) = codes "BEGIN:VEVENT" ∷ uid ∷ slot.lines in
        let status = status_lines component.cancelled in
        let people : List (List ℕ) = summary ∷ organiser ∷ attendees.0 in
        let s2 : o2 ≡ o0 ++ written first = push_line o0 o1 o2 uid (codes "BEGIN:VEVENT" ∷ []) (one_line o0 o1 (codes "BEGIN:VEVENT") h1) h2 in
        let s3 : o3 ≡ o0 ++ written which = push_lines o0 o2 o3 first slot.lines s2 slot.is in
        let s4 : o4 ≡ o0 ++ written (which ++ dated.0) = push_lines o0 o3 o4 which dated.0 s3 dated.2 in
        let s5 : o5 ≡ o0 ++ written (which ++ dated.0 ++ body.lines) = push_lines o0 o4 o5 (which ++ dated.0) body.lines s4 body.is in
        let s6 : o6 ≡ o0 ++ written (which ++ dated.0 ++ body.lines ++ status) = push_lines o0 o5 o6 (which ++ dated.0 ++ body.lines) status s5 h6 in
        let t8 : o8 ≡ o6 ++ written (summary ∷ organiser ∷ []) = push_line o6 o7 o8 organiser (summary ∷ []) (one_line o6 o7 summary h7) h8 in
        let t9 : o9 ≡ o6 ++ written people = push_lines o6 o8 o9 (summary ∷ organiser ∷ []) attendees.0 t8 attendees.2 in
        let s9 : o9 ≡ o0 ++ written (which ++ dated.0 ++ body.lines ++ status ++ people) = push_lines o0 o6 o9 (which ++ dated.0 ++ body.lines ++ status) people s6 t9 in
        push_line o0 o9 o10 (codes "END:VEVENT") (which ++ dated.0 ++ body.lines ++ status ++ people) s9 h10

    is_component : IsWrittenComponent IsLine meeting zones_new component (event_lines component slot.lines dated.0 body.lines attendees.0)
    is_component event says =
        let octets = component.canonical.items in
        let content = says.canonical.content in
        let read = body_of content event says.canonical.when in
        let utf8 : IsUtf8 octets = subst IsUtf8 (sym says.canonical.is) read.utf8 in
        record {
          slot = slot.lines;
          tells_slot = subst (λ (s : Slot). TellsSlot s slot.lines) says.slot (slot.tells (subst IsDated (sym says.slot) says.dated));
          dated = dated.0;
          tells_revision = dated.1;
          name = body.name;
          named = body.named;
          attendees = attendees.0;
          each = subst (λ (s : Slot). AllZip (IsLine s) (counted event.attendees) attendees.0) says.slot
              (subst (λ (them : List Attendee). AllZip (IsLine (slot_of component.slot)) (counted them) attendees.0) says.attendees attendees.1);
          is = rw (← says.cancelled, ← says.summary) (ap (λ lines. event_lines component slot.lines dated.0 lines attendees.0) (body.text utf8));
        }

    pub component_written : o1 ≡ o0 ++ folded (codes "BEGIN:VEVENT") → o2 ≡ o1 ++ folded (codes "UID:" ++ escaped (text_octets meeting.uid.now)) → o6 ≡ o5 ++ written (status_lines component.cancelled)
        → o7 ≡ o6 ++ folded (codes "SUMMARY:" ++ escaped (text_octets component.summary)) → o8 ≡ o7 ++ folded (codes "ORGANIZER:" ++ address_octets meeting.organiser.now)
        → o10 ≡ o9 ++ folded (codes "END:VEVENT") → WritesComponent IsLine meeting component zones_old zones_new o0 o10
    component_written h1 h2 h6 h7 h8 h10 =
        record {
          zones = body.zones;
          lines = event_lines component slot.lines dated.0 body.lines attendees.0;
          event = is_component;
          is = all_written h1 h2 h6 h7 h8 h10;
        }

-- ---- all VEVENTs

-- a VEVENT and its event
paired : List EventComponent → List MessageComponent → List Component
paired [] cs = []
paired (event ∷ events) [] = []
paired (event ∷ events) (component ∷ cs) = (event, content_in component.canonical.items) ∷ paired events cs

are_paired : (events : List EventComponent) (cs : List MessageComponent) → AllZip SaysComponent events cs → AllZip IsComponentOf events (paired events cs)
unfolding paired
are_paired [] [] z = tt
are_paired [] (c ∷ cs) z = absurd z
are_paired (e ∷ es) [] z = absurd z
are_paired (e ∷ es) (c ∷ cs) z =
    let said = z.0.canonical in
    let read : content_in c.canonical.items ≡ said.content = ap content_in said.is ∙ (body_of said.content e said.when).read in
    ((refl, subst (λ (x : Content). IsContent x e) (sym read) said.when), are_paired es cs z.1)

zones_paired : (events : List EventComponent) (cs : List MessageComponent) → AllZip SaysComponent events cs → flat_map (λ component. option_to_list component.1.zone) (paired events cs) ≡ flat_map zone_in cs
unfolding paired
zones_paired [] [] z = refl
zones_paired [] (c ∷ cs) z = absurd z
zones_paired (e ∷ es) [] z = absurd z
zones_paired (e ∷ es) (c ∷ cs) z = ap (λ l. zone_in c ++ l) (zones_paired es cs z.1)

module _ (IsLine : Slot → Attendee → List ℕ → Type 0) (meeting : MeetingText) where
  abbrev IsText : List (List ℕ) → Component → List (List ℕ) → Type 0
  IsText zones = IsComponentText (address_octets meeting.organiser.now) (text_octets meeting.uid.now) (revision_of meeting.revision) zones IsLine

  -- zones that come later change no name
  still : (zones more : List (List ℕ)) (component : MessageComponent) (lines : List (List ℕ)) → IsWrittenComponent IsLine meeting zones component lines → IsWrittenComponent IsLine meeting (zones ++ more) component lines
  still zones more component lines w event says =
      let h = w event says in
      record {
        slot = h.slot;
        tells_slot = h.tells_slot;
        dated = h.dated;
        tells_revision = h.tells_revision;
        name = h.name;
        named = named_still zones more (content_in component.canonical.items).zone h.name h.named;
        attendees = h.attendees;
        each = h.each;
        is = h.is;
      }

  all_still : (zones more : List (List ℕ)) (cs : List MessageComponent) (texts : List (List (List ℕ))) → AllZip (IsWrittenComponent IsLine meeting zones) cs texts → AllZip (IsWrittenComponent IsLine meeting (zones ++ more)) cs texts
  all_still zones more [] [] z = z
  all_still zones more [] (x ∷ xs) z = absurd z
  all_still zones more (c ∷ cs) [] z = absurd z
  all_still zones more (c ∷ cs) (x ∷ xs) z = (still zones more c x z.0, all_still zones more cs xs z.1)

  pub none_written : (zones : List (List ℕ)) (old : List ℕ) → WritesComponents IsLine meeting [] zones zones old old
  none_written zones old = record { zones = refl; texts = []; each = tt; is = no_lines old }

  -- one more component
  pub components_more : (done : List MessageComponent) (component : MessageComponent) (zones_old zones_now zones_new : List (List ℕ)) (old now new : List ℕ)
      → WritesComponents IsLine meeting done zones_old zones_now old now → WritesComponent IsLine meeting component zones_now zones_new now new → WritesComponents IsLine meeting (done ++ component ∷ []) zones_old zones_new old new
  components_more done component zones_old zones_now zones_new old now new a b =
      let uses = zone_in component in
      let more = filter (is_new zones_now) (each_once uses) in
      let longer : zones_now ++ more ≡ zones_new = sym (with_zones_are zones_now uses) ∙ sym b.zones in
      let each : AllZip (IsWrittenComponent IsLine meeting zones_new) done a.texts =
      subst (λ (zones : List (List ℕ)). AllZip (IsWrittenComponent IsLine meeting zones) done a.texts) longer (all_still zones_now more done a.texts a.each) in
      record {
        zones = b.zones ∙ ap (λ zones. with_zones zones uses) a.zones ∙ sym (with_more zones_old (flat_map zone_in done) uses) ∙ ap (with_zones zones_old) (sym (flat_push zone_in done component));
        texts = a.texts ++ b.lines ∷ [];
        each = push_zip (IsWrittenComponent IsLine meeting zones_new) done a.texts component b.lines each b.event;
        is = push_lines old now new (flat_map (λ l. l) a.texts) b.lines a.is b.is ∙ ap (λ l. old ++ written l) (sym (flat_push (λ l. l) a.texts b.lines));
      }

  texts_paired : (zones : List (List ℕ)) (events : List EventComponent) (cs : List MessageComponent) (texts : List (List (List ℕ))) → AllZip SaysComponent events cs → AllZip (IsWrittenComponent IsLine meeting zones) cs texts
      → AllZip (IsText zones) (paired events cs) texts
  unfolding paired
  texts_paired zones [] [] texts z w = w
  texts_paired zones [] (c ∷ cs) texts z w = absurd z
  texts_paired zones (e ∷ es) [] texts z w = absurd z
  texts_paired zones (e ∷ es) (c ∷ cs) [] z w = absurd w
  texts_paired zones (e ∷ es) (c ∷ cs) (x ∷ xs) z w = (w.0 e z.0, texts_paired zones es cs xs z.1 w.1)

  -- the whole object: its zones come before its VEVENTs
  pub meeting_written : (method : Option (List ℕ)) (none found : List (List ℕ)) (e0 e1 e2 b0 b1 b2 : List ℕ) → none ≡ [] → e0 ≡ [] → WritesComponents IsLine meeting meeting.components.now none found e0 e1
      → e2 ≡ e1 ++ folded (codes "END:VCALENDAR") → b0 ≡ [] → b1 ≡ b0 ++ written (opening_lines method) → b2 ≡ b1 ++ zone_texts 0 found → length found < 2 ^ 64 → IsTextOf method IsLine meeting (b2 ++ e2)
  meeting_written method none found e0 e1 e2 b0 b1 b2 n s w last m first then few = λ said written_are.
      let cs = meeting.components.now in
      let events = flat_map (λ l. l) w.texts in
      let zones : found ≡ zones_of (paired said cs) =
      w.zones ∙ ap (λ z. with_zones z (flat_map zone_in cs)) n ∙ zones_once (flat_map zone_in cs) ∙ ap each_once (sym (zones_paired said cs written_are)) in
      let opened : b2 ≡ written (opening_lines method) ++ zone_texts 0 (zones_of (paired said cs)) = then ∙ (λ i. (first ∙ ap (λ o. o ++ written (opening_lines method)) m) i ++ zone_texts 0 (zones i)) in
      let closed : e2 ≡ written (events ++ codes "END:VCALENDAR" ∷ []) = push_line [] e1 e2 (codes "END:VCALENDAR") events (w.is ∙ ap (λ o. o ++ written events) s) last in
      record {
        components = paired said cs;
        are = are_paired said cs written_are;
        few = subst (λ z. length z < 2 ^ 64) zones few;
        texts = w.texts;
        each = subst (λ (z : List (List ℕ)). AllZip (IsText z) (paired said cs) w.texts) zones (texts_paired found said cs w.texts written_are w.each);
        is = λ i. opened i ++ closed i;
      }
