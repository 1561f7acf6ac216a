-- What the own lines of a reply's VEVENT say.
-- Cited by answers_read_back.
use Rattle.std.proofs.Common.{true, ◌≡◌, ◌∙◌, ℕ, ℤ, ◌<◌, ◌^◌, false, List, [], ◌∷◌, ◌++◌, codes, decimal, Option, None, Some, refl, sym, ap, ap₂, subst}
use Rattle.std.specs.List.{AllZip}
use Rattle.std.specs.Prelude.{option_to_list}
use Rattle.std.proofs.lemmas.List.{same_from_push}
use Rattle.std.proofs.lemmas.List.Elements.{filter-append}
use Rattle.profile.specs.events.EventComponents.{IsAttendee}
use Rattle.profile.specs.events.Properties.{Says, IsStampLine, lines_named, is_of}
use Rattle.profile.specs.rooms.Revisions.{Part, Slot, Whole, At}
use Rattle.profile.specs.text.Values.{IsUid, SpellsStamp, escaped}
use Rattle.profile.specs.rooms.Messages.{Outcome, Accept, Busy, SeriesLimit, SinglesLimit, TellsSlot, TellsOutcome, partstat, IsReplyEvent}
use Rattle.ical_values.proofs.Escapes.{read_back}
use Rattle.ical_values.proofs.Readings.{stamp_written, sequence_written}
use Rattle.itip_messages.specs.Law.{IsReadAddress, IsVevent, SaysAnswer, participation_answered, instant_of_slot}
use Rattle.itip_messages.proofs.shared_lemmas.ObjectTree.{Lines}

-- ---- the lines of the slot

-- RECURRENCE-ID alone, or nothing
record SlotNamed (slot : Slot) (lines : Lines) : Type 0 where
  uid : lines_named (codes "UID") lines ≡ []
  organiser : lines_named (codes "ORGANIZER") lines ≡ []
  sequence : lines_named (codes "SEQUENCE") lines ≡ []
  stamp : lines_named (codes "DTSTAMP") lines ≡ []
  attendee : lines_named (codes "ATTENDEE") lines ≡ []
  instance : Says (codes "RECURRENCE-ID") false IsStampLine lines (instant_of_slot slot)

slot_named : (slot : Slot) (lines : Lines) → TellsSlot slot lines → SlotNamed slot lines
slot_named Whole lines e = subst (SlotNamed Whole) (sym e) (record {
  uid = refl;
  organiser = refl;
  sequence = refl;
  stamp = refl;
  attendee = refl;
  instance = record { line = None; once = refl; present = λ h. h; is = tt };
})
slot_named (At t) lines (text, w, e) = subst (SlotNamed (At t)) (sym e) (record {
  uid = refl;
  organiser = refl;
  sequence = refl;
  stamp = refl;
  attendee = refl;
  instance = record { line = Some (codes "RECURRENCE-ID:" ++ text); once = refl; present = λ _. refl; is = stamp_written text t w };
})

-- ---- the room's line, and the lines of the outcome

abbrev pub room_line : Outcome → List ℕ → List ℕ
room_line outcome room = codes "ATTENDEE;PARTSTAT=" ++ partstat outcome ++ codes ":" ++ room

record RoomNamed (line : List ℕ) (lines : Lines) : Type 0 where
  uid : lines_named (codes "UID") lines ≡ []
  organiser : lines_named (codes "ORGANIZER") lines ≡ []
  sequence : lines_named (codes "SEQUENCE") lines ≡ []
  stamp : lines_named (codes "DTSTAMP") lines ≡ []
  instance : lines_named (codes "RECURRENCE-ID") lines ≡ []
  attendee : lines_named (codes "ATTENDEE") lines ≡ line ∷ []

room_named : (outcome : Outcome) (room : List ℕ) (status : Lines) → TellsOutcome outcome status → RoomNamed (room_line outcome room) (room_line outcome room ∷ status)
room_named Accept room status e =
    subst (λ (s : Lines). RoomNamed (room_line Accept room) (room_line Accept room ∷ s)) (sym e) (record { uid = refl; organiser = refl; sequence = refl; stamp = refl; instance = refl; attendee = refl })
room_named (Busy a b t) room status (_, _, _, _, _, _, e) =
    subst (λ (s : Lines). RoomNamed (room_line (Busy a b t) room) (room_line (Busy a b t) room ∷ s)) (sym e) (record { uid = refl; organiser = refl; sequence = refl; stamp = refl; instance = refl; attendee = refl })
room_named SeriesLimit room status e =
    subst (λ (s : Lines). RoomNamed (room_line SeriesLimit room) (room_line SeriesLimit room ∷ s)) (sym e) (record { uid = refl; organiser = refl; sequence = refl; stamp = refl; instance = refl; attendee = refl })
room_named SinglesLimit room status e =
    subst (λ (s : Lines). RoomNamed (room_line SinglesLimit room) (room_line SinglesLimit room ∷ s)) (sym e) (record { uid = refl; organiser = refl; sequence = refl; stamp = refl; instance = refl; attendee = refl })

room_says : (outcome : Outcome) (room : List ℕ) → IsReadAddress room → IsAttendee (room_line outcome room) (record { address = room; participation = participation_answered outcome; scheduled = true })
room_says Accept room r = record { address = (r.address, sym r.lower); participation = refl; scheduled = refl }
room_says (Busy a b t) room r = record { address = (r.address, sym r.lower); participation = refl; scheduled = refl }
room_says SeriesLimit room r = record { address = (r.address, sym r.lower); participation = refl; scheduled = refl }
room_says SinglesLimit room r = record { address = (r.address, sym r.lower); participation = refl; scheduled = refl }

-- ---- the own lines

-- the lines of a name, part by part
pub both_named : (name : List ℕ) (a b xs ys : Lines) → lines_named name a ≡ xs → lines_named name b ≡ ys → lines_named name (a ++ b) ≡ xs ++ ys
both_named name a b xs ys p q = filter-append (is_of name) a b ∙ ap₂ (λ x y. x ++ y) p q

module _ (room : List ℕ) (part : Part) (moment : ℤ) (outcome : Outcome) (slot status : Lines) (stamp : List ℕ) (s : SlotNamed part.slot slot) (r : RoomNamed (room_line outcome room) (room_line outcome room ∷ status)) where
  abbrev after : Lines
  after = (codes "SEQUENCE:" ++ decimal part.revision.sequence) ∷ (codes "DTSTAMP:" ++ stamp) ∷ (codes "ORGANIZER:" ++ part.organiser) ∷ room_line outcome room ∷ status

  abbrev own : Lines
  own = (codes "UID:" ++ escaped part.uid) ∷ (slot ++ after)

  instance_said : Says (codes "RECURRENCE-ID") false IsStampLine own (instant_of_slot part.slot)
  instance_said = record {
    line = s.instance.line;
    once = both_named (codes "RECURRENCE-ID") slot after (option_to_list s.instance.line) [] s.instance.once r.instance ∙ none_after s.instance.line;
    present = s.instance.present;
    is = s.instance.is;
  }
    where
      none_after : (line : Option (List ℕ)) → option_to_list line ++ [] ≡ option_to_list line
      none_after None = refl
      none_after (Some line) = refl

  own_says : IsReadAddress room → IsReadAddress part.organiser → IsUid part.uid → part.revision.sequence < 2 ^ 31 → SpellsStamp stamp moment → SaysAnswer room part moment outcome own
  own_says home organiser is_uid small at = record {
    uid = record {
      line = Some (codes "UID:" ++ escaped part.uid);
      once = ap (λ (l : Lines). (codes "UID:" ++ escaped part.uid) ∷ l) (both_named (codes "UID") slot after [] [] s.uid r.uid);
      present = λ _. refl;
      is = (sym (read_back part.uid), is_uid);
    };
    organiser = record {
      line = Some (codes "ORGANIZER:" ++ part.organiser);
      once = both_named (codes "ORGANIZER") slot after [] _ s.organiser (ap (λ (l : Lines). (codes "ORGANIZER:" ++ part.organiser) ∷ l) r.organiser);
      present = λ _. refl;
      is = (organiser.address, sym organiser.lower);
    };
    sequence = record {
      line = Some (codes "SEQUENCE:" ++ decimal part.revision.sequence);
      once = both_named (codes "SEQUENCE") slot after [] _ s.sequence (ap (λ (l : Lines). (codes "SEQUENCE:" ++ decimal part.revision.sequence) ∷ l) r.sequence);
      present = λ _. refl;
      is = sequence_written part.revision.sequence small;
    };
    stamp = record {
      line = Some (codes "DTSTAMP:" ++ stamp);
      once = both_named (codes "DTSTAMP") slot after [] _ s.stamp (ap (λ (l : Lines). (codes "DTSTAMP:" ++ stamp) ∷ l) r.stamp);
      present = λ _. refl;
      is = at;
    };
    instance = instance_said;
    attendees = subst (λ (l : Lines). AllZip IsAttendee l (record { address = room; participation = participation_answered outcome; scheduled = true } ∷ [])) (sym (both_named (codes "ATTENDEE") slot after [] _ s.attendee r.attendee)) (room_says outcome room home, tt);
  }

-- the VEVENT's own lines
pub tail_of : (a b : List ℕ) (xs ys : Lines) → a ∷ xs ≡ b ∷ ys → xs ≡ ys
tail_of a b xs ys e = cc

pub answer_reads : (room : List ℕ) (part : Part) (moment : ℤ) (outcome : Outcome) (lines own : Lines) → IsReadAddress room → IsReadAddress part.organiser → IsUid part.uid → part.revision.sequence < 2 ^ 31
    → IsReplyEvent room part moment outcome lines → IsVevent own lines → SaysAnswer room part moment outcome own
answer_reads room part moment outcome lines own home organiser is_uid small e v =
    let s = slot_named part.slot e.slot e.tells_slot in
    let r = room_named outcome room e.status e.tells_outcome in
    let is = (same_from_push _ own (codes "END:VEVENT") (codes "END:VEVENT") (tail_of (codes "BEGIN:VEVENT") (codes "BEGIN:VEVENT") _ _ (sym e.is ∙ v))).0 in
    subst (SaysAnswer room part moment outcome) is (own_says room part moment outcome e.slot e.status e.stamp s r home organiser is_uid small (stamp_written e.stamp moment e.tells_moment))
