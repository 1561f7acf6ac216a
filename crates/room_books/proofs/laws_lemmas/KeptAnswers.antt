-- What a room keeps of a part reads back: as a confirmed event of the same instances, or as one that hides one.
-- Behind answers_stay, kept_texts_pass, kept_texts_spell, served_texts_pass.
use Rattle.std.proofs.Common.{◌≡◌, ◌∙◌, ℕ, ℤ, Bool, true, false, not, ◌&&◌, ◌||◌, List, [], ◌∷◌, ◌++◌, codes, decimal, Option, Some, None, refl, sym, ap, ap₂, subst, arith, append_assoc}
use Rattle.std.proofs.lemmas.Bool.{and_parts, true≢false}
use Rattle.std.specs.Prelude.{filter, is_some, option_map, unwrap_or}
use Rattle.std.specs.List.{list_all, Contains}
use Rattle.profile.specs.text.Lines.{is_content}
use Rattle.profile.specs.text.Trees.{Tree, vevents}
use Rattle.profile.specs.text.Objects.{is_property}
use Rattle.profile.specs.text.Values.{WritesStamp, escaped}
use Rattle.profile.specs.checker.Naming.{is_not_accepted, names}
use Rattle.profile.specs.events.EventComponents.{Method, EventComponent, Participation, SaysEventComponent, answer_of, has_accepted, is_accepted, meeting_said, bars_recurrence}
use Rattle.profile.specs.events.Confirmed.{AreApart, AreOfRule, is_kept}
use Rattle.profile.specs.events.Occurrences.{Time}
use Rattle.profile.specs.events.Placed.{IsAt, IsPlaced, SaysPlaced}
use Rattle.profile.specs.events.Properties.{BothOrNeither, Fixed}
use Rattle.profile.specs.rooms.Messages as messages
use Rattle.profile.specs.rooms.Messages.{Content, IsBody, IsContent, IsSlotIn, TellsSlot, cancels, may_take, slot_named, names_room}
use Rattle.profile.specs.rooms.Revisions.{Part, Slot, Whole, At, Body, Set, Absent, Cancelled}
use Rattle.profile.specs.rooms.Rooms.{Claim, is_set, is_set_body}
use Rattle.profile.specs.rooms.Kept.{IsEventOf, IsKeptEvent, HidesSlot, Shown}
use Rattle.profile.specs.series.RoomZones.{IsRoomZone}
use Rattle.profile.specs.series.Zones.{Zone}
use Rattle.profile.specs.streams.Streams.{AsksFor}
use Rattle.ical_values.proofs.Escapes.{read_back}
use Rattle.ical_values.proofs.Readings.{stamp_written, sequence_written}
use Rattle.ical_lines.proofs.CleanLines.{clean_shown, shown_decimal}
use Rattle.ical_values.proofs.ShownValues.{shown_stamp}
use Rattle.itip_messages.proofs.law_lemmas.PartTexts.{IsAsked, IsRoom, asked_room, message_of, named}
use Rattle.itip_messages.proofs.shared_lemmas.CleanText.{clean_address}
use Rattle.itip_messages.proofs.shared_lemmas.CleanUids.{clean_text}
use Rattle.itip_messages.proofs.body_lemmas.TimeLists.{back_times}
use Rattle.itip_messages.proofs.body_lemmas.ZonePlaces.{named_lines}
use Rattle.cal_events.specs.MeetingComponents.{IsInEventDates}
use Rattle.cal_events.proofs.shared_lemmas.InRooms.{fixed_placed}
use Rattle.cal_events.proofs.shared_lemmas.RoomClocks.{room_clock}
use Rattle.itip_messages.specs.SentLaw.{time_as}
use Rattle.itip_messages.proofs.shared_lemmas.ToldSlots.{slot_told}
use Rattle.itip_messages.proofs.shared_lemmas.OwnLines.{own_front, when_lines}
use Rattle.room_books.proofs.laws_lemmas.KeptOwn.{SpellPart, own_back, own_lines, zoned_event, zoned_own, zoned_says}
use Rattle.itip_messages.proofs.shared_lemmas.OwnWhen.{duration_clean, duration_of, when_of, written_rule}
use Rattle.itip_messages.proofs.shared_lemmas.ZonedStarts.{IsSaid, name_means_in, name_plain}
use Rattle.room_books.proofs.laws_lemmas.KeptEvents.{hidden_own, hidden_event, hidden_named, hidden_says, kept_confirmed}
use Rattle.room_books.proofs.laws_lemmas.KeptTimes.{IsAsWritten, back_same, taken_written}
use Rattle.room_books.proofs.laws_lemmas.PlacedTwice.{SaysTwice, apart_alike, placed_again, placed_twice, rule_alike, slot_one}
use Rattle.room_books.proofs.laws_lemmas.KeptLines.{hidden_content, hidden_properties}
use Rattle.itip_messages.proofs.shared_lemmas.ObjectTree.{Lines, vevent_lines}
use Rattle.itip_messages.proofs.shared_lemmas.ZonedObjects.{IsOpenedTree}

-- octets ask a room of this zone for the claim: for its part, and for its instances, if it is to take place
pub record IsAskedFor (room : List ℕ) (zone : Option Zone) (claim : Claim) : Type 0 where
  pub asked : IsAsked room claim.content claim.part
  pub in_zone : asked.zone ≡ zone
  pub books : AsksFor (is_set claim.part) zone asked.event claim

-- the event names the room, and is accepted or cancelled
pub record IsThere (room : List ℕ) (said : EventComponent) : Type 0 where
  pub named : names room said ≡ true
  pub counted : is_not_accepted room said ≡ false

-- one that is kept does
pub kept_there : (room : List ℕ) (said : EventComponent) → is_kept room said ≡ true → IsThere room said
kept_there room said kept =
    let accepted = (and_parts _ _ kept).0 in
    record { named = answered (answer_of room said) accepted; counted = ap (λ b. (names room said && not b) && not said.cancelled) accepted ∙ none (names room said) }
  where
    answered : (o : Option Participation) → unwrap_or (option_map is_accepted o) false ≡ true → is_some o ≡ true
    answered None e = absurd (true≢false (sym e))
    answered (Some p) e = refl

    none : (b : Bool) → ((b && false) && not said.cancelled) ≡ false
    none true = refl
    none false = refl

-- the lines are a VEVENT that says such an event in that room, in an object with these lines of its own and these zones, of that meeting and slot
pub record ReadsBack (zone : Option Zone) (opening : Lines) (zones : List (List ℕ)) (lines : Lines) (organiser uid : List ℕ) (slot : Slot) : Type 0 where
  pub own : Lines
  pub said : EventComponent
  pub are : lines ≡ vevent_lines own
  pub properties : list_all is_property own ≡ true
  pub content : list_all is_content own ≡ true
  pub says : (owns : List Lines) (k : IsOpenedTree opening zones owns) → SaysPlaced zone k.whole None own said
  pub meeting : meeting_said said ≡ (organiser, uid)
  pub slot_is : messages.slot_of said ≡ slot

-- ---- RECURRENCE-ID, as it is written and read

-- it is written in UTC, so it means itself in each room
slot_itself : (zone : Option Zone) (o : Option ℤ) → BothOrNeither (IsAt zone) (option_map (time_as Fixed) o) o
slot_itself z None = tt
slot_itself z (Some t) = refl

-- an event that names an instance is for one
slot_there : (zone : Option Zone) (time : Option Time) (recurrence slot : Option ℤ) → recurrence ≡ option_map (λ w. w.instant) time → BothOrNeither (IsAt zone) time slot → is_some slot ≡ true → is_some recurrence ≡ true
slot_there z None recurrence None e at h = absurd (true≢false (sym h))
slot_there z None recurrence (Some t) e at h = absurd at
slot_there z (Some time) recurrence slot e at h = ap is_some e

pub instant_there : (o : Option ℤ) (t : ℤ) → slot_named o ≡ At t → o ≡ Some t
instant_there None t e = cc
instant_there (Some u) t e = ap Some (ap instant e)
  where
    instant : Slot → ℤ
    instant Whole = t
    instant (At x) = x

-- ---- a part that is shown

-- a set body says when its event is, that the room is named, and that nothing cancels it
pub record IsSetBody (room : List ℕ) (method : Method) (event : EventComponent) (content : Content) : Type 0 where
  pub when : IsContent content event
  pub names : names_room room event ≡ true
  pub stays : cancels method event ≡ false

pub set_body : (room : List ℕ) (method : Method) (event : EventComponent) (content : Content) (body : Body) → IsBody room method event content body → is_set_body body ≡ true → IsSetBody room method event content
set_body room method event content (Set octets) b set = record { when = b.2; names = b.1; stays = b.0 }
set_body room method event content Absent b set = absurd (true≢false (sym set))
set_body room method event content Cancelled b set = absurd (true≢false (sym set))

-- the zone of its start is one that some VTIMEZONE says
pub set_zone : (room : List ℕ) (content : Content) (part : Part) (a : IsAsked room content part) → IsSaid a.event.times.zone
set_zone room content part a = (message_of a.octets a.given a.spells a.event a.among).says.zone

-- the instants of the event are those of what is written
as_written : (room : List ℕ) (content : Content) (part : Part) (a : IsAsked room content part) → IsAsWritten a.event
as_written room content part a =
    let said = a.spells.says in
    taken_written a.spells.tree a.given.method (vevents a.spells.tree) said.events a.event said.says (subst (λ (l : List EventComponent). Contains l a.event) said.taken a.among)

-- it says a confirmed event, of the same instances
pub record ShowsBack (room : List ℕ) (zone : Option Zone) (opening : Lines) (zones : List (List ℕ)) (claim : Claim) (lines : Lines) : Type 0 where
  pub back : ReadsBack zone opening zones lines claim.part.organiser claim.part.uid claim.part.slot
  pub kept : is_kept room back.said ≡ true
  pub apart : AreApart back.said claim.singles
  pub rule : AreOfRule back.said claim.series

part_spelled : (room : List ℕ) (content : Content) (part : Part) (a : IsAsked room content part) (stamp : List ℕ) → WritesStamp stamp part.revision.stamp → IsRoom room
    → SpellPart part.uid part.revision.sequence (escaped part.uid) (decimal part.revision.sequence) stamp part.organiser room part.revision.stamp
part_spelled room content part a stamp w r =
    let n = named room content part a in
    record {
      uid_there = sym (read_back part.uid);
      is_uid = n.is_uid;
      numbered = sequence_written part.revision.sequence n.small;
      stamped_is = stamp_written stamp part.revision.stamp w;
      organised = n.organiser.address;
      lower = n.lower;
      addressed = r.text.address;
      room_lower = r.lower;
    }

-- a room of a zone that words mean
module _ (room words : List ℕ) (zone : Option Zone) (named_zone : IsRoomZone words zone) (opening : Lines) (zones : List (List ℕ)) where
  -- an event that says the same times again takes place as the claim asks
  record AsksAgain (said : EventComponent) (slot : Option ℤ) (claim : Claim) : Type 0 where
    placed : EventComponent
    is : IsPlaced zone said placed
    slot_is : placed.recurrence ≡ slot
    meeting : meeting_said placed ≡ meeting_said said
    kept : is_kept room placed ≡ is_kept room said
    apart : AreApart placed claim.singles
    rule : AreOfRule placed claim.series

  asks_again : (event said : EventComponent) (slot : Option ℤ) (claim : Claim) → AsksFor true zone event claim → SaysTwice event said → BothOrNeither (IsAt zone) event.written.recurrence slot → BothOrNeither (IsAt zone) said.written.recurrence slot
      → AsksAgain said slot claim
  asks_again event said slot claim (p, h, apart, rule) twice at again =
      let one = (room_clock words zone named_zone).steady.meaning in
      let (q, k, is) = placed_again zone event said p h twice slot again in
      let own : p.recurrence ≡ slot = ap (λ (e : EventComponent). e.recurrence) h.is ∙ slot_one zone one event.written.recurrence h.recurrence slot h.slot at in
      let alike = placed_twice zone one event said p q h k twice (is ∙ sym own) in
      record { placed = q; is = k; slot_is = is; meeting = ap meeting_said k.is; kept = ap (is_kept room) k.is; apart = apart_alike p q alike claim.singles apart; rule = rule_alike p q alike claim.series rule }

  pub shows_back : (claim : Claim) (lines : Lines) → IsAskedFor room zone claim → is_set claim.part ≡ true → IsKeptEvent room zones (Shown claim) lines → ShowsBack room zone opening zones claim lines
  shows_back claim lines f set (name, given_name, k) =
      let part = claim.part in
      let a = f.asked in
      let event = a.event in
      let m = message_of a.octets a.given a.spells event a.among in
      let n = named room claim.content part a in
      let b = set_body room a.given.method event claim.content part.body a.is_part.body set in
      let c = b.when in
      let r = asked_room room claim.content part a b.names in
      let in_slot : IsSlotIn zone event part.slot = subst (λ (z : Option Zone). IsSlotIn z event part.slot) f.in_zone a.is_part.slot in
      let slot = in_slot.0 in
      let at : BothOrNeither (IsAt zone) event.written.recurrence slot = in_slot.1 in
      let told =
      slot_told slot k.slot (subst (λ (s : Slot). TellsSlot s k.slot) in_slot.2 k.tells_slot)
      (λ t is. m.says.dated words zone named_zone t (subst (BothOrNeither (IsAt zone) event.written.recurrence) is at)) in
      let plain = name_plain zones claim.content event c name given_name in
      let l = named_lines name claim.content event c in
      let facts = m.says.facts a.to_rooms b.stays in
      let rule = written_rule event.times m.says.meaning event.rule c.rule facts.recurs c.recurs in
      let adding = bars_recurrence (Some a.given.method) in
      let w =
      when_of name claim.content event c l plain adding facts rule slot
      (λ some. or_from_right adding (slot_there zone event.written.recurrence event.recurrence slot (as_written room claim.content part a).slot at some)) in
      let additions = back_times (codes "RDATE") event.written.additions c.additions w.adds in
      let exceptions = back_times (codes "EXDATE") (filter may_take event.written.exceptions) c.exceptions w.takes in
      let duration = duration_of event in
      let uid = escaped part.uid in
      let sequence = decimal part.revision.sequence in
      let number = part.revision.sequence in
      let spell = part_spelled room claim.content part a k.stamp k.written_stamp r in
      let spell_event : SpellPart event.uid number uid sequence k.stamp part.organiser room part.revision.stamp = subst (λ (u : List ℕ). SpellPart u number uid sequence k.stamp part.organiser room part.revision.stamp) a.is_part.uid spell in
      let said = zoned_event event slot number part.organiser part.revision.stamp room rule.back additions exceptions in
      let twice : SaysTwice event said = record {
        meeting = ap (λ (o : Option (List ℕ)). (unwrap_or o [], event.uid)) (sym a.is_part.organiser);
        times = refl;
        rule = rule.same;
        adds = back_same (codes "RDATE") event.written.additions c.additions w.adds;
        takes = back_same (codes "EXDATE") (filter may_take event.written.exceptions) c.exceptions w.takes;
      } in
      let again = asks_again event said slot claim (subst (λ b. AsksFor b zone event claim) set f.books) twice at (slot_itself zone slot) in
      let when = when_lines l.start duration c.rule c.additions c.exceptions in
      let own = own_lines told.text uid sequence k.stamp when part.organiser room in
      let good =
      zoned_own name event told.text slot number uid sequence k.stamp l.start duration part.organiser room part.revision.stamp c.rule c.additions c.exceptions rule.back event.written.additions _ spell_event w told.clean (clean_text part.uid n.uid)
      (clean_shown sequence (shown_decimal part.revision.sequence (omega arith))) (clean_shown k.stamp (shown_stamp k.stamp part.revision.stamp k.written_stamp)) (duration_clean event) (clean_address part.organiser n.organiser) (clean_address room r.text) in
      record {
        back = record {
          own = own;
          said = again.placed;
          are = k.is ∙ ap₂ (λ (sl b : Lines). (((codes "BEGIN:VEVENT" ∷ (codes "UID:" ++ uid) ∷ sl) ++ ((codes "SEQUENCE:" ++ sequence) ∷ (codes "DTSTAMP:" ++ k.stamp) ∷ [])) ++ b)
              ++ ((codes "ORGANIZER:" ++ part.organiser) ∷ (codes "ATTENDEE;PARTSTAT=ACCEPTED:" ++ room) ∷ codes "END:VEVENT" ∷ [])) told.are l.are
              ∙ ap (λ (x : Lines). codes "BEGIN:VEVENT" ∷ x) (sym (append_assoc (own_front told.text uid sequence k.stamp ++ when) (own_back part.organiser room) (codes "END:VEVENT" ∷ [])));
          properties = good.properties;
          content = good.content;
          says = λ owns t. (
            said,
            zoned_says name event told.text slot number uid sequence k.stamp l.start duration part.organiser room part.revision.stamp c.rule c.additions c.exceptions rule.back event.written.additions _ spell_event w told.spells t.whole
                (name_means_in opening zones owns t claim.content event c m.says.zone name given_name),
            again.is,
          );
          meeting = again.meeting ∙ ap (λ (u : List ℕ). (part.organiser, u)) (sym a.is_part.uid);
          slot_is = ap slot_named again.slot_is ∙ sym in_slot.2;
        };
        kept = again.kept ∙ ap (λ x. x && true) (kept_confirmed event slot number part.organiser part.revision.stamp room rule.back additions exceptions);
        apart = again.apart;
        rule = again.rule;
      }
    where
      or_from_right : (x : Bool) {y : Bool} → y ≡ true → (x || y) ≡ true
      or_from_right true h = refl
      or_from_right false h = h

-- ---- a part that hides an instance

pub record HidesBack (room : List ℕ) (zone : Option Zone) (opening : Lines) (zones : List (List ℕ)) (part : Part) (lines : Lines) : Type 0 where
  pub back : ReadsBack zone opening zones lines part.organiser part.uid part.slot
  pub kept : is_kept room back.said ≡ false
  pub there : IsThere room back.said

module _ (room words : List ℕ) (zone : Option Zone) (named_zone : IsRoomZone words zone) (opening : Lines) (zones : List (List ℕ)) where
  pub hides_back : (content : Content) (part : Part) (lines hiding : Lines) (a : IsAsked room content part) → a.zone ≡ zone → IsRoom room → HidesSlot part.slot hiding → IsEventOf room part hiding (codes "DECLINED") lines
      → HidesBack room zone opening zones part lines
  hides_back content part lines hiding a in_zone r h k =
      let event = a.event in
      let m = message_of a.octets a.given a.spells event a.among in
      let n = named room content part a in
      let in_slot : IsSlotIn zone event part.slot = subst (λ (z : Option Zone). IsSlotIn z event part.slot) in_zone a.is_part.slot in
      let is : in_slot.0 ≡ Some h.instant = instant_there in_slot.0 h.instant (sym in_slot.2 ∙ h.at) in
      let dated : IsInEventDates h.instant = m.says.dated words zone named_zone h.instant (subst (BothOrNeither (IsAt zone) event.written.recurrence) is in_slot.1) in
      let tells : TellsSlot (At h.instant) k.slot = subst (λ (s : Slot). TellsSlot s k.slot) h.at k.tells_slot in
      let text = tells.0 in
      let uid = escaped part.uid in
      let sequence = decimal part.revision.sequence in
      let number = part.revision.sequence in
      let said = hidden_event part.uid h.instant number part.organiser part.revision.stamp room in
      let own = hidden_own uid text sequence k.stamp h.text part.organiser room in
      let says : (object : Tree) → SaysEventComponent object None own said = hidden_says part.uid h.instant number uid text sequence k.stamp h.text part.organiser room part.revision.stamp (part_spelled room content part a k.stamp k.written_stamp r) (stamp_written text h.instant tells.1)
      (stamp_written h.text h.instant h.written) dated in
      record {
        back = record {
          own = own;
          said = said;
          are = k.is ∙ ap₂ (λ (sl b : Lines). (((codes "BEGIN:VEVENT" ∷ (codes "UID:" ++ uid) ∷ sl) ++ ((codes "SEQUENCE:" ++ sequence) ∷ (codes "DTSTAMP:" ++ k.stamp) ∷ [])) ++ b)
              ++ ((codes "ORGANIZER:" ++ part.organiser) ∷ (codes "ATTENDEE;PARTSTAT=DECLINED:" ++ room) ∷ codes "END:VEVENT" ∷ [])) tells.2 h.is;
          properties = hidden_properties uid text sequence k.stamp h.text part.organiser room;
          content = hidden_content uid text sequence k.stamp h.text part.organiser room (clean_text part.uid n.uid) (clean_shown text (shown_stamp text h.instant tells.1)) (clean_shown sequence (shown_decimal part.revision.sequence (omega arith)))
              (clean_shown k.stamp (shown_stamp k.stamp part.revision.stamp k.written_stamp)) (clean_shown h.text (shown_stamp h.text h.instant h.written)) (clean_address part.organiser n.organiser) (clean_address room r.text);
          says = λ owns t. (said, says t.whole, fixed_placed zone said refl (says t.whole).instants);
          meeting = refl;
          slot_is = sym h.at;
        };
        kept = not_kept (has_accepted room said);
        there = record { named = hidden_named part.uid h.instant number part.organiser part.revision.stamp room; counted = not_kept (names room said && not (has_accepted room said)) };
      }
    where
      not_kept : (b : Bool) → (b && false) ≡ false
      not_kept true = refl
      not_kept false = refl
