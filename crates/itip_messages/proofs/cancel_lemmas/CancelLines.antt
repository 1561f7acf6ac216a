-- The lines of a CANCEL.
-- Cited by write_attendees, write_cancel, write_event.
use Rattle.std.proofs.Common.{◌≡◌, ◌∙◌, ℕ, ◌+◌, ◌<◌, List, [], ◌∷◌, ◌++◌, map, take, length, get_or, codes, refl, sym, ap, Some}
use Rattle.std.proofs.lemmas.List.{take_more, map-append}
use Rattle.ical_values.specs.declared.address.Address.{Address}
use Rattle.ical_values.specs.Octets.{text_octets, address_octets}
use Rattle.itip_order.specs.Parts.{revision_of}
use Rattle.profile.specs.text.Lines.{written, folded}
use Rattle.profile.specs.text.Values.{escaped}
use Rattle.profile.specs.rooms.Messages.{opening_lines}
use Rattle.profile.specs.organisers.Sent.{TellsRevision, status_lines}
use Rattle.itip_messages.specs.declared.cancel.Cancel.{Cancel}
use Rattle.itip_messages.specs.Reply.{WritesLines}
use Rattle.itip_messages.specs.MeetingText.{IsCancelEvent, IsCancelOf, attendee_lines}
use Rattle.itip_messages.proofs.shared_lemmas.LineLemmas.{one_line, whole}
use Rattle.itip_messages.proofs.shared_lemmas.WrittenLines.{push_lines, push_line}

-- one more address
pub attendee_more : (addresses : List Address) (k : ℕ) (address : Address) (old now new : List ℕ) → k < length addresses → address ≡ get_or addresses k address
    → now ≡ old ++ written (attendee_lines (map address_octets (take k addresses))) → new ≡ now ++ folded (codes "ATTENDEE:" ++ address_octets address)
    → new ≡ old ++ written (attendee_lines (map address_octets (take (k + 1) addresses)))
attendee_more addresses k address old now new inside is before one =
    let line = codes "ATTENDEE:" ++ address_octets address in
    let done = attendee_lines (map address_octets (take k addresses)) in
    let more : take (k + 1) addresses ≡ take k addresses ++ address ∷ [] = take_more addresses k address inside ∙ ap (λ x. take k addresses ++ x ∷ []) (sym is) in
    let lines : attendee_lines (map address_octets (take (k + 1) addresses)) ≡ done ++ line ∷ [] =
    ap (λ xs. attendee_lines (map address_octets xs)) more ∙ ap attendee_lines (map-append address_octets (take k addresses) (address ∷ [])) ∙ map-append (λ a. codes "ATTENDEE:" ++ a) (map address_octets (take k addresses)) (address_octets address ∷ []) in
    push_line old now new line done before one ∙ ap (λ l. old ++ written l) (sym lines)

-- its VEVENT
pub event_written : (cancel : Cancel) (o0 o1 o2 o3 o4 o5 o6 o7 : List ℕ) → o1 ≡ o0 ++ folded (codes "BEGIN:VEVENT") → o2 ≡ o1 ++ folded (codes "UID:" ++ escaped (text_octets cancel.uid.now))
    → WritesLines o2 o3 (TellsRevision (revision_of cancel.revision)) → o4 ≡ o3 ++ written (status_lines cancel.called_off) → o5 ≡ o4 ++ folded (codes "ORGANIZER:" ++ address_octets cancel.organiser.now)
    → o6 ≡ o5 ++ written (attendee_lines (map address_octets cancel.to.now)) → o7 ≡ o6 ++ folded (codes "END:VEVENT") → WritesLines o0 o7 (IsCancelEvent cancel)
event_written cancel o0 o1 o2 o3 o4 o5 o6 o7 h1 h2 w h4 h5 h6 h7 =
    let uid = codes "UID:" ++ escaped (text_octets cancel.uid.now) in
    let first : List (List ℕ) = codes "BEGIN:VEVENT" ∷ uid ∷ [] in
    let organiser = codes "ORGANIZER:" ++ address_octets cancel.organiser.now in
    let others = attendee_lines (map address_octets cancel.to.now) in
    let status = status_lines cancel.called_off in
    let s2 : o2 ≡ o0 ++ written first = push_line o0 o1 o2 uid (codes "BEGIN:VEVENT" ∷ []) (one_line o0 o1 (codes "BEGIN:VEVENT") h1) h2 in
    let s3 : o3 ≡ o0 ++ written (first ++ w.0) = push_lines o0 o2 o3 first w.0 s2 w.2 in
    let s4 : o4 ≡ o0 ++ written (first ++ w.0 ++ status) = push_lines o0 o3 o4 (first ++ w.0) status s3 h4 in
    let t6 : o6 ≡ o4 ++ written (organiser ∷ others) = push_lines o4 o5 o6 (organiser ∷ []) others (one_line o4 o5 organiser h5) h6 in
    let s6 : o6 ≡ o0 ++ written (first ++ w.0 ++ status ++ (organiser ∷ others)) = push_lines o0 o4 o6 (first ++ w.0 ++ status) (organiser ∷ others) s4 t6 in (
      first ++ w.0 ++ status ++ (organiser ∷ others) ++ codes "END:VEVENT" ∷ [],
      record { dated = w.0; tells_revision = w.1; is = refl },
      push_line o0 o6 o7 (codes "END:VEVENT") (first ++ w.0 ++ status ++ (organiser ∷ others)) s6 h7,
    )

-- the whole CANCEL
pub cancel_written : (cancel : Cancel) (empty opened mid closed : List ℕ) → empty ≡ [] → opened ≡ empty ++ written (opening_lines (Some (codes "CANCEL"))) → WritesLines opened mid (IsCancelEvent cancel) → closed ≡ mid ++ folded (codes "END:VCALENDAR") → IsCancelOf cancel closed
cancel_written cancel empty opened mid closed e0 e1 w e2 = record {
  dated = w.1.dated;
  tells_revision = w.1.tells_revision;
  is = whole folded (opening_lines (Some (codes "CANCEL"))) w.0 (codes "END:VCALENDAR") empty opened mid closed e0 e1 w.2 e2
      ∙ ap (λ lines. written (opening_lines (Some (codes "CANCEL")) ++ lines ++ codes "END:VCALENDAR" ∷ [])) w.1.is;
}
