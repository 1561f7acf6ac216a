-- The lines of the VEVENTs that are kept, one after another.
-- Cited by write_head, write_hidden, write_part.
use Rattle.std.proofs.Common.{◌≡◌, ℕ, ℤ, true, false, List, [], ◌∷◌, ◌++◌, codes, decimal, refl, sym, ap, ◌∙◌, subst}
use Rattle.std.specs.Option.{option_to_list}
use Rattle.ical_values.specs.Written.{Appends}
use Rattle.itip_messages.specs.Reply.{IsWrittenStampLine}
use Rattle.profile.specs.text.Lines.{written, folded}
use Rattle.profile.specs.rooms.Messages.{Content}
use Rattle.profile.specs.rooms.Kept.{IsEventOf, IsNamed}
use Rattle.profile.specs.rooms.Revisions.{Part, At, Body, Set, Absent, Cancelled}
use Rattle.profile.specs.rooms.Rooms.{is_set, is_set_body}
use Rattle.profile.specs.text.Values.{escaped}
use Rattle.room_books.specs.Room.{IsBodyText, SlotDated}
use Rattle.room_books.specs.Taking.{body_content}
use Rattle.itip_messages.specs.BodyText.{WritesBody, WritesSlot, content_in, named_lines}
use Rattle.itip_messages.specs.Zones.{with_zones}
use Rattle.itip_messages.proofs.shared_lemmas.WrittenLines.{push_line, push_lines, no_lines}
use Rattle.room_books.specs.Texts.{WritesHead, WritesEntries}
use Rattle.room_books.proofs.texts_lemmas.Writing.{one_written_entry}

-- a part that isn't to take place isn't shown
pub no_event : (room : List ℕ) (part : Part) (zones : List (List ℕ)) (old : List ℕ) → (is_set part ≡ true → ⊥) → WritesEntries room ((true, part) ∷ []) zones zones old old
no_event room part zones old h = one_written_entry room (true, part) [] zones zones old old (no_zone part.body h) (λ claim e f set text dated. absurd (h set)) (no_lines old)
  where
    no_zone : (body : Body) → (is_set_body body ≡ true → ⊥) → zones ≡ with_zones zones (option_to_list (body_content body).zone)
    no_zone (Set octets) h = absurd (h refl)
    no_zone Absent h = refl
    no_zone Cancelled h = refl

-- nor is one whose instant no stamp can write
pub no_hidden : (room : List ℕ) (part : Part) (zones : List (List ℕ)) (old : List ℕ) → (SlotDated part.slot → ⊥) → WritesEntries room ((false, part) ∷ []) zones zones old old
no_hidden room part zones old h = one_written_entry room (false, part) [] zones zones old old refl (λ dated. absurd (h dated)) (no_lines old)

-- ---- the head of a VEVENT

pub head_written : (part : Part) (o0 o1 o2 o3 o4 o5 : List ℕ) → o1 ≡ o0 ++ folded (codes "BEGIN:VEVENT") → o2 ≡ o1 ++ folded (codes "UID:" ++ escaped part.uid) → WritesSlot part.slot o2 o3
    → o4 ≡ o3 ++ folded (codes "SEQUENCE:" ++ decimal part.revision.sequence) → Appends o4 o5 (IsWrittenStampLine (codes "DTSTAMP:") part.revision.stamp) → WritesHead part o0 o5
head_written part o0 o1 o2 o3 o4 o5 h1 h2 w h4 h5 =
    let stamp = h5.1.0 in
    let first : List (List ℕ) = codes "BEGIN:VEVENT" ∷ (codes "UID:" ++ escaped part.uid) ∷ [] in
    let s1 = push_line o0 o0 o1 (codes "BEGIN:VEVENT") [] (no_lines o0) h1 in
    let s2 : o2 ≡ o0 ++ written first = push_line o0 o1 o2 (codes "UID:" ++ escaped part.uid) (codes "BEGIN:VEVENT" ∷ []) s1 h2 in
    let s3 : o3 ≡ o0 ++ written (first ++ w.lines) = push_lines o0 o2 o3 first w.lines s2 w.is in
    let t1 = push_line o3 o3 o4 (codes "SEQUENCE:" ++ decimal part.revision.sequence) [] (no_lines o3) h4 in
    let t2 : o5 ≡ o3 ++ written ((codes "SEQUENCE:" ++ decimal part.revision.sequence) ∷ (codes "DTSTAMP:" ++ stamp) ∷ []) =
    push_line o3 o4 o5 (codes "DTSTAMP:" ++ stamp) ((codes "SEQUENCE:" ++ decimal part.revision.sequence) ∷ []) t1 (h5.2 ∙ ap (λ l. o4 ++ l) h5.1.2) in
    record {
      slot = w.lines;
      stamp = stamp;
      tells = w.tells;
      stamped = h5.1.1;
      is = push_lines o0 o3 o5 (first ++ w.lines) ((codes "SEQUENCE:" ++ decimal part.revision.sequence) ∷ (codes "DTSTAMP:" ++ stamp) ∷ []) s3 t2;
    }

-- ---- a VEVENT

module _ (room : List ℕ) (part : Part) (answer : List ℕ) (o0 o1 : List ℕ) (w : WritesHead part o0 o1) (body : List (List ℕ)) where
  abbrev last : List (List ℕ)
  last = (codes "ORGANIZER:" ++ part.organiser) ∷ (codes "ATTENDEE;PARTSTAT=" ++ answer ++ codes ":" ++ room) ∷ codes "END:VEVENT" ∷ []

  abbrev which : List (List ℕ)
  which = codes "BEGIN:VEVENT" ∷ (codes "UID:" ++ escaped part.uid) ∷ w.slot

  abbrev when : List (List ℕ)
  when = (codes "SEQUENCE:" ++ decimal part.revision.sequence) ∷ (codes "DTSTAMP:" ++ w.stamp) ∷ []

  abbrev event_lines : List (List ℕ)
  event_lines = ((which ++ when) ++ body) ++ last

  event_is : SlotDated part.slot → IsEventOf room part body answer event_lines
  event_is dated = record { slot = w.slot; stamp = w.stamp; tells_slot = w.tells dated; written_stamp = w.stamped; is = refl }

  rest_written : (o2 o3 o4 o5 : List ℕ) → o2 ≡ o1 ++ written body → o3 ≡ o2 ++ folded (codes "ORGANIZER:" ++ part.organiser)
      → o4 ≡ o3 ++ folded (codes "ATTENDEE;PARTSTAT=" ++ answer ++ codes ":" ++ room) → o5 ≡ o4 ++ folded (codes "END:VEVENT") → o5 ≡ o0 ++ written event_lines
  rest_written o2 o3 o4 o5 h2 h3 h4 h5 =
      let t1 = push_line o2 o2 o3 (codes "ORGANIZER:" ++ part.organiser) [] (no_lines o2) h3 in
      let t2 = push_line o2 o3 o4 (codes "ATTENDEE;PARTSTAT=" ++ answer ++ codes ":" ++ room) ((codes "ORGANIZER:" ++ part.organiser) ∷ []) t1 h4 in
      let t3 : o5 ≡ o2 ++ written last = push_line o2 o4 o5 (codes "END:VEVENT") ((codes "ORGANIZER:" ++ part.organiser) ∷ (codes "ATTENDEE;PARTSTAT=" ++ answer ++ codes ":" ++ room) ∷ []) t2 h5 in
      push_lines o0 o2 o5 ((which ++ when) ++ body) last (push_lines o0 o1 o2 (which ++ when) body w.is h2) t3

module _ (room : List ℕ) (part : Part) (o0 o1 o2 o3 o4 o5 : List ℕ) (w : WritesHead part o0 o1) where
  -- of a part that is shown
  pub shown_written : (octets : List ℕ) (zones_old zones_new : List (List ℕ)) → part.body ≡ Set octets → WritesBody octets zones_old zones_new o1 o2 → o3 ≡ o2 ++ folded (codes "ORGANIZER:" ++ part.organiser)
      → o4 ≡ o3 ++ folded (codes "ATTENDEE;PARTSTAT=ACCEPTED:" ++ room) → o5 ≡ o4 ++ folded (codes "END:VEVENT") → WritesEntries room ((true, part) ∷ []) zones_old zones_new o0 o5
  shown_written octets zones_old zones_new set b h3 h4 h5 =
      let own = event_lines room part (codes "ACCEPTED") o0 o1 w b.lines in
      one_written_entry room (true, part) own zones_old zones_new o0 o5
      (b.zones ∙ ap (λ body. with_zones zones_old (option_to_list (body_content body).zone)) (sym set))
      (λ claim e f is utf8 dated.
      let content : content_in octets ≡ claim.content = sym (ap body_content set) ∙ sym f in
      let zone : IsNamed zones_new claim.content.zone b.name = subst (λ (c : Content). IsNamed zones_new c.zone b.name) content b.named in
      let lines : b.lines ≡ named_lines b.name claim.content.lines = b.text (subst IsBodyText set utf8) ∙ ap (λ (c : Content). named_lines b.name c.lines) content in
      let event : IsEventOf room part (named_lines b.name claim.content.lines) (codes "ACCEPTED") own =
      subst (λ (c : List (List ℕ)). IsEventOf room part c (codes "ACCEPTED") own) lines (event_is room part (codes "ACCEPTED") o0 o1 w b.lines dated) in
      (b.name, zone, subst (λ (p : Part). IsEventOf room p (named_lines b.name claim.content.lines) (codes "ACCEPTED") own) (sym e) event))
      (rest_written room part (codes "ACCEPTED") o0 o1 w b.lines o2 o3 o4 o5 b.is h3 h4 h5)

  -- of one that hides an instance
  pub hidden_written : (t : ℤ) (p1 p2 : List ℕ) (zones : List (List ℕ)) → part.slot ≡ At t → Appends o1 p1 (IsWrittenStampLine (codes "DTSTART:") t) → p2 ≡ p1 ++ folded (codes "DURATION:PT0S") → o2 ≡ p2 ++ folded (codes "STATUS:CANCELLED")
      → o3 ≡ o2 ++ folded (codes "ORGANIZER:" ++ part.organiser) → o4 ≡ o3 ++ folded (codes "ATTENDEE;PARTSTAT=DECLINED:" ++ room) → o5 ≡ o4 ++ folded (codes "END:VEVENT") → WritesEntries room ((false, part) ∷ []) zones zones o0 o5
  hidden_written t p1 p2 zones at a g1 g2 h3 h4 h5 =
      let text = a.1.0 in
      let body : List (List ℕ) = (codes "DTSTART:" ++ text) ∷ codes "DURATION:PT0S" ∷ codes "STATUS:CANCELLED" ∷ [] in
      let s1 = push_line o1 o1 p1 (codes "DTSTART:" ++ text) [] (no_lines o1) (a.2 ∙ ap (λ l. o1 ++ l) a.1.2) in
      let s2 = push_line o1 p1 p2 (codes "DURATION:PT0S") ((codes "DTSTART:" ++ text) ∷ []) s1 g1 in
      let h2 : o2 ≡ o1 ++ written body = push_line o1 p2 o2 (codes "STATUS:CANCELLED") ((codes "DTSTART:" ++ text) ∷ codes "DURATION:PT0S" ∷ []) s2 g2 in
      one_written_entry room (false, part) (event_lines room part (codes "DECLINED") o0 o1 w body) zones zones o0 o5 refl
      (λ dated. (body, record { instant = t; at = at; text = text; written = a.1.1; is = refl }, event_is room part (codes "DECLINED") o0 o1 w body dated))
      (rest_written room part (codes "DECLINED") o0 o1 w body o2 o3 o4 o5 h2 h3 h4 h5)
