-- A REQUEST that was written of a store reads back, with the same parts for each room.
-- Cited by requests_read_back.
use Rattle.std.proofs.Common.{◌≡◌, refl, sym, subst, arith, lt-ltb, ℕ, pos, ◌<◌, ◌^◌, true, false, List, [], ◌∷◌, ◌++◌, length, map, codes, Option, Some}
use Rattle.std.specs.Prelude.{unwrap_or}
use Rattle.std.specs.List.{AllZip}
use Rattle.std.proofs.lemmas.Bool.{and_from, false≢true}
use Rattle.profile.specs.text.Lines.{is_content, is_too_long}
use Rattle.ical_lines.proofs.CleanLines.{IsClean, fixed, valued}
use Rattle.profile.specs.events.EventComponents.{Attendee, EventComponent, NamesWord, Store}
use Rattle.profile.specs.events.Messages.{counted, Message, SpellsMessage}
use Rattle.profile.specs.organisers.Sent.{IsAsked, IsRequest}
use Rattle.profile.specs.rooms.Messages.{Content, IsContent, slot_of}
use Rattle.profile.specs.rooms.Revisions.{Revision, Slot}
use Rattle.itip_messages.specs.SentLaw.{HasNoAnswer, IsSentAddress, IsSentAs, SpellsRequest, attendee_at, revised}
use Rattle.itip_messages.proofs.shared_lemmas.ContentLines.{IsMethod, LinesBack, ReadsLines}
use Rattle.itip_messages.proofs.sent_law_lemmas.SentParts.{IsAlike, names_same, same_parts}
use Rattle.itip_messages.proofs.shared_lemmas.CleanText.{clean_address}
use Rattle.itip_messages.proofs.shared_lemmas.ObjectTree.{calendar_own}
use Rattle.itip_messages.proofs.sent_law_lemmas.SentEvents.{ReadsLine}
use Rattle.itip_messages.proofs.sent_law_lemmas.SentBehind.{IsAttendeeText}
use Rattle.itip_messages.proofs.shared_lemmas.SentTexts.{bounded_reads, text_of}
use Rattle.itip_messages.proofs.sent_law_lemmas.WrittenMeetings.{written_back}
use Rattle.itip_messages.proofs.sent_law_lemmas.StoredEvents.{stored_events}
use Rattle.itip_messages.proofs.shared_lemmas.ZonedObjects.{ZoneBack}

abbrev request_word : Option (List ℕ)
request_word = Some (codes "REQUEST")

request_method : IsMethod request_word
request_method = let m : is_content (codes "METHOD:REQUEST") ≡ true = fixed (codes "METHOD:REQUEST") refl refl refl refl in and_from _ _ m refl

request_named : NamesWord (calendar_own request_word) (codes "REQUEST")
request_named = record { line = codes "METHOD:REQUEST"; once = refl; named = refl }

-- ---- the lines of attendees

asked_content : (v : List ℕ) → IsClean v → is_content (codes "ATTENDEE;PARTSTAT=NEEDS-ACTION;RSVP=TRUE:" ++ v) ≡ true
asked_content v c = valued (codes "ATTENDEE;PARTSTAT=NEEDS-ACTION;RSVP=TRUE:") v (lt-ltb 40 (length (codes "ATTENDEE;PARTSTAT=NEEDS-ACTION;RSVP=TRUE:" ++ v)) (omega arith)) refl refl refl c

asked_line : (address : List ℕ) → IsSentAddress address → IsAttendeeText (codes "ATTENDEE;PARTSTAT=NEEDS-ACTION;RSVP=TRUE:" ++ address) (attendee_at address)
asked_line address s = record {
  content = asked_content address (clean_address address (text_of address s));
  property = refl;
  named = λ other. refl;
  says = record { address = (s.read.address, sym s.read.lower); participation = refl; scheduled = refl };
}

asked_reads : ReadsLine IsAsked HasNoAnswer
asked_reads slot attendee line s e = (attendee_at attendee.address, subst (λ (l : List ℕ). IsAttendeeText l (attendee_at attendee.address)) (sym e) (asked_line attendee.address s), refl)

none_answered : (slot : Slot) (attendees said : List Attendee) → AllZip (HasNoAnswer slot) attendees said → said ≡ map (λ attendee. attendee_at attendee.address) attendees
none_answered slot [] [] z = refl
none_answered slot [] (s ∷ said) z = absurd z
none_answered slot (a ∷ attendees) [] z = absurd z
none_answered slot (a ∷ attendees) (s ∷ said) z = λ i. z.0 i ∷ none_answered slot attendees said z.1 i

-- ---- the parts

module _ (revision : Revision) where
  sent_alike : (event sent : EventComponent) → IsSentAs revision event sent → IsAlike sent (revised revision event)
  sent_alike event sent s = record {
    organiser = s.organiser;
    uid = s.uid;
    recurrence = s.recurrence;
    slot = s.slot;
    cancelled = s.cancelled;
    revision = λ i. record { sequence = s.sequence i; stamp = unwrap_or (s.stamp i) (pos 0) };
    names = λ room. names_same room event sent (none_answered (slot_of event) (counted event.attendees) sent.attendees s.attendees);
    content = λ content c. again event content ((s.content content).1 c);
  }
    where
      again : (event : EventComponent) (content : Content) → IsContent content event → IsContent content (revised revision event)
      again event content c = record { start = c.start; starts = c.starts; rule = c.rule; recurs = c.recurs; additions = c.additions; adds = c.adds; exceptions = c.exceptions; takes = c.takes; are = c.are; in_zone = c.in_zone }

  alike_sent : (event sent : EventComponent) → IsSentAs revision event sent → IsAlike (revised revision event) sent
  alike_sent event sent s = record {
    organiser = sym s.organiser;
    uid = sym s.uid;
    recurrence = sym s.recurrence;
    slot = sym s.slot;
    cancelled = sym s.cancelled;
    revision = λ i. record { sequence = sym s.sequence i; stamp = unwrap_or (sym s.stamp i) (pos 0) };
    names = λ room. sym (names_same room event sent (none_answered (slot_of event) (counted event.attendees) sent.attendees s.attendees));
    content = λ content c. (s.content content).0 (again event content c);
  }
    where
      again : (event : EventComponent) (content : Content) → IsContent content (revised revision event) → IsContent content event
      again event content c = record { start = c.start; starts = c.starts; rule = c.rule; recurs = c.recurs; additions = c.additions; adds = c.adds; exceptions = c.exceptions; takes = c.takes; are = c.are; in_zone = c.in_zone }

  all_alike : (events sent : List EventComponent) → AllZip (IsSentAs revision) events sent → AllZip IsAlike sent (map (revised revision) events)
  all_alike [] [] z = tt
  all_alike [] (s ∷ sent) z = absurd z
  all_alike (e ∷ events) [] z = absurd z
  all_alike (e ∷ events) (s ∷ sent) z = (sent_alike e s z.0, all_alike events sent z.1)

  alike_all : (events sent : List EventComponent) → AllZip (IsSentAs revision) events sent → AllZip IsAlike (map (revised revision) events) sent
  alike_all [] [] z = tt
  alike_all [] (s ∷ sent) z = absurd z
  alike_all (e ∷ events) [] z = absurd z
  alike_all (e ∷ events) (s ∷ sent) z = (alike_sent e s z.0, alike_all events sent z.1)

pub request_reads : LinesBack → ReadsLines → ZoneBack → (stored : List ℕ) (said : Message) (revision : Revision) (octets : List ℕ) → SpellsMessage stored said → said.method ≡ Store → revision.sequence < 2 ^ 31
    → IsRequest said.organiser said.uid revision said.events octets → is_too_long octets ≡ false → SpellsRequest said.organiser said.uid revision said.events octets
request_reads back reads zone_back stored said revision octets s store small r short =
    let f = stored_events stored said s store in
    let b = written_back back reads zone_back request_word request_method IsAsked HasNoAnswer asked_reads said.organiser said.uid revision said.events octets f small r in
    let sent = b.saids in
    let again = map (revised revision) said.events in
    record {
      sent = sent;
      each = b.each;
      spells = record {
        lines = bounded_reads octets b.lines short;
        tree = b.whole;
        object = b.object;
        says = record {
          method = subst (λ (own : List (List ℕ)). NamesWord own (codes "REQUEST")) (sym b.own) request_named;
          events = sent;
          says = b.says;
          taken = refl;
          are = record { some = b.some; of_it = b.of_it; masters = b.masters; differ = b.times_differ };
          one_each = λ speaks. absurd (false≢true speaks);
        };
      };
      parts = λ room zone parts. (
        same_parts room said.organiser said.uid sent again (all_alike revision said.events sent b.each) zone parts,
        same_parts room said.organiser said.uid again sent (alike_all revision said.events sent b.each) zone parts,
      );
    }
