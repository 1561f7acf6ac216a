-- What an organiser shows of a meeting reads back as an event with its instances, with the answers that are seen.
-- Cited by shown_reads_back.
use Rattle.std.proofs.Common.{◌≡◌, ◌∙◌, refl, sym, subst, arith, lt-ltb, ℕ, ◌<◌, ◌^◌, Bool, true, false, List, [], ◌∷◌, ◌++◌, length, codes, None, Some}
use Rattle.std.specs.List.{AllZip, list_any}
use Rattle.std.specs.Str.{bytes_eq}
use Rattle.profile.specs.text.Lines.{is_content, is_too_long, logical_lines}
use Rattle.profile.specs.text.Objects.{is_property}
use Rattle.profile.specs.text.Trees.{Tree}
use Rattle.profile.specs.events.EventComponents.{Accepted, Attendee, Declined, Delegated, EventComponent, IsAttendee, NeedsAction, Participation, Request, SaysEventComponent, Tentative, Store}
use Rattle.profile.specs.events.Properties.{is_of}
use Rattle.profile.specs.events.Messages.{Message, SpellsMessage}
use Rattle.profile.specs.organisers.Organisers.{OrganiserBook, ShowsSeen, Stored, participation_word, sent_status}
use Rattle.profile.specs.organisers.Sent.{IsMeetingText}
use Rattle.ical_lines.proofs.CleanLines.{IsClean, valued}
use Rattle.itip_messages.specs.SentLaw.{HasAnswered, IsSentAddress, SpellsShown, SpellsShownCalendar}
use Rattle.itip_messages.proofs.shared_lemmas.CleanText.{clean_address}
use Rattle.itip_messages.proofs.shared_lemmas.ContentLines.{LinesBack, ReadsLines, no_method}
use Rattle.itip_messages.proofs.shared_lemmas.ObjectTree.{Lines}
use Rattle.itip_messages.proofs.shared_lemmas.PlacedUtc.{all_placed}
use Rattle.itip_messages.proofs.shared_lemmas.OwnLines.{as_event}
use Rattle.itip_messages.proofs.sent_law_lemmas.SentEvents.{ReadsLine}
use Rattle.itip_messages.proofs.sent_law_lemmas.SentMeetings.{first_alone}
use Rattle.itip_messages.proofs.sent_law_lemmas.SentBehind.{IsAttendeeText}
use Rattle.itip_messages.proofs.shared_lemmas.SentTexts.{bounded_reads, text_of}
use Rattle.itip_messages.proofs.sent_law_lemmas.StoredEvents.{AreStored, stored_events}
use Rattle.itip_messages.proofs.sent_law_lemmas.WrittenMeetings.{WrittenBack, written_back}
use Rattle.itip_messages.proofs.shared_lemmas.ZonedObjects.{ZoneBack, unbounded_object}

-- ---- the lines of attendees

abbrev shown_line : Participation → Bool → List ℕ → List ℕ
shown_line answer sent address = codes "ATTENDEE;PARTSTAT=" ++ participation_word answer ++ sent_status sent ++ codes ":" ++ address

abbrev shown_attendee : Participation → List ℕ → Attendee
shown_attendee answer address = record { address = address; participation = answer; scheduled = true }

-- a line is of ATTENDEE, says so, and is a content line where its address is clean
record ShowsLine (answer : Participation) (sent : Bool) (address : List ℕ) : Type 0 where
  content : IsClean address → is_content (shown_line answer sent address) ≡ true
  property : is_property (shown_line answer sent address) ≡ true
  named : (other : List ℕ) → is_of other (shown_line answer sent address) ≡ is_of other (codes "ATTENDEE:")
  says : IsSentAddress address → IsAttendee (shown_line answer sent address) (shown_attendee answer address)

shows : (answer : Participation) (sent : Bool) (address : List ℕ) → ShowsLine answer sent address
shows NeedsAction true address = record {
  content = λ c. valued (codes "ATTENDEE;PARTSTAT=NEEDS-ACTION;SCHEDULE-STATUS=1.1:") address (lt-ltb 50 (length (shown_line NeedsAction true address)) (omega arith)) refl refl refl c;
  property = refl;
  named = λ other. refl;
  says = λ s. record { address = (s.read.address, sym s.read.lower); participation = refl; scheduled = refl };
}
shows NeedsAction false address = record {
  content = λ c. valued (codes "ATTENDEE;PARTSTAT=NEEDS-ACTION:") address (lt-ltb 30 (length (shown_line NeedsAction false address)) (omega arith)) refl refl refl c;
  property = refl;
  named = λ other. refl;
  says = λ s. record { address = (s.read.address, sym s.read.lower); participation = refl; scheduled = refl };
}
shows Tentative true address = record {
  content = λ c. valued (codes "ATTENDEE;PARTSTAT=TENTATIVE;SCHEDULE-STATUS=1.1:") address (lt-ltb 47 (length (shown_line Tentative true address)) (omega arith)) refl refl refl c;
  property = refl;
  named = λ other. refl;
  says = λ s. record { address = (s.read.address, sym s.read.lower); participation = refl; scheduled = refl };
}
shows Tentative false address = record {
  content = λ c. valued (codes "ATTENDEE;PARTSTAT=TENTATIVE:") address (lt-ltb 27 (length (shown_line Tentative false address)) (omega arith)) refl refl refl c;
  property = refl;
  named = λ other. refl;
  says = λ s. record { address = (s.read.address, sym s.read.lower); participation = refl; scheduled = refl };
}
shows Accepted true address = record {
  content = λ c. valued (codes "ATTENDEE;PARTSTAT=ACCEPTED;SCHEDULE-STATUS=1.1:") address (lt-ltb 46 (length (shown_line Accepted true address)) (omega arith)) refl refl refl c;
  property = refl;
  named = λ other. refl;
  says = λ s. record { address = (s.read.address, sym s.read.lower); participation = refl; scheduled = refl };
}
shows Accepted false address = record {
  content = λ c. valued (codes "ATTENDEE;PARTSTAT=ACCEPTED:") address (lt-ltb 26 (length (shown_line Accepted false address)) (omega arith)) refl refl refl c;
  property = refl;
  named = λ other. refl;
  says = λ s. record { address = (s.read.address, sym s.read.lower); participation = refl; scheduled = refl };
}
shows Delegated true address = record {
  content = λ c. valued (codes "ATTENDEE;PARTSTAT=DELEGATED;SCHEDULE-STATUS=1.1:") address (lt-ltb 47 (length (shown_line Delegated true address)) (omega arith)) refl refl refl c;
  property = refl;
  named = λ other. refl;
  says = λ s. record { address = (s.read.address, sym s.read.lower); participation = refl; scheduled = refl };
}
shows Delegated false address = record {
  content = λ c. valued (codes "ATTENDEE;PARTSTAT=DELEGATED:") address (lt-ltb 27 (length (shown_line Delegated false address)) (omega arith)) refl refl refl c;
  property = refl;
  named = λ other. refl;
  says = λ s. record { address = (s.read.address, sym s.read.lower); participation = refl; scheduled = refl };
}
shows Declined true address = record {
  content = λ c. valued (codes "ATTENDEE;PARTSTAT=DECLINED;SCHEDULE-STATUS=1.1:") address (lt-ltb 46 (length (shown_line Declined true address)) (omega arith)) refl refl refl c;
  property = refl;
  named = λ other. refl;
  says = λ s. record { address = (s.read.address, sym s.read.lower); participation = refl; scheduled = refl };
}
shows Declined false address = record {
  content = λ c. valued (codes "ATTENDEE;PARTSTAT=DECLINED:") address (lt-ltb 26 (length (shown_line Declined false address)) (omega arith)) refl refl refl c;
  property = refl;
  named = λ other. refl;
  says = λ s. record { address = (s.read.address, sym s.read.lower); participation = refl; scheduled = refl };
}

shown_reads_line : (book : OrganiserBook) (stored : Stored) → ReadsLine (ShowsSeen book stored) (HasAnswered book stored)
shown_reads_line book stored slot attendee line s (answer, seen, e) =
    let sent = list_any (bytes_eq attendee.address) stored.told in
    let h = shows answer sent attendee.address in
    let said = shown_attendee answer attendee.address in
    let text : IsAttendeeText (shown_line answer sent attendee.address) said = record { content = h.content (clean_address attendee.address (text_of attendee.address s)); property = h.property; named = h.named; says = h.says s } in
    (said, subst (λ (l : List ℕ). IsAttendeeText l said) (sym e) text, (answer, seen, refl))

-- ---- an object without METHOD

as_events : (object : Tree) (vs : List Lines) (events : List EventComponent) → AllZip (SaysEventComponent object (Some Request)) vs events → AllZip (SaysEventComponent object None) vs events
as_events object [] [] z = tt
as_events object [] (e ∷ events) z = absurd z
as_events object (v ∷ vs) [] z = absurd z
as_events object (v ∷ vs) (e ∷ events) z = (as_event object v e z.0, as_events object vs events z.1)

-- ---- what is shown of a store that was read

module _ (back : LinesBack) (reads : ReadsLines) (zone_back : ZoneBack) (read : List ℕ) (said : Message) (book : OrganiserBook) (stored : Stored) (octets : List ℕ) where
  shown_back : SpellsMessage read said → said.method ≡ Store → stored.events ≡ said.events → stored.revision.sequence < 2 ^ 31 → IsMeetingText None said.organiser said.uid stored.revision (ShowsSeen book stored) stored.events octets
      → WrittenBack None (HasAnswered book stored) said.organiser said.uid stored.revision stored.events octets
  shown_back s store same small t =
      let f = subst (λ (events : List EventComponent). AreStored said.organiser said.uid events) (sym same) (stored_events read said s store) in
      written_back back reads zone_back None no_method (ShowsSeen book stored) (HasAnswered book stored) (shown_reads_line book stored) said.organiser said.uid stored.revision stored.events octets f small t

  -- as an event with its instances, of the size of a message
  pub shown_reads : SpellsMessage read said → said.method ≡ Store → stored.events ≡ said.events → stored.revision.sequence < 2 ^ 31 → IsMeetingText None said.organiser said.uid stored.revision (ShowsSeen book stored) stored.events octets
      → is_too_long octets ≡ false → SpellsShown book stored octets
  shown_reads s store same small t short =
      let b = shown_back s store same small t in
      record {
        shown = b.saids;
        each = b.each;
        spells = record {
          lines = bounded_reads octets b.lines short;
          tree = b.whole;
          object = b.object;
          says = record { events = b.saids; says = all_placed b.whole None _ b.saids (as_events b.whole _ b.saids b.says); some = b.some; one = λ x y p q. b.of_it x p ∙ sym (b.of_it y q); master = first_alone _ b.masters; overrides = refl; differ = b.differ };
        };
      }

  -- as a calendar, of any size
  pub shown_calendar : SpellsMessage read said → said.method ≡ Store → stored.events ≡ said.events → stored.revision.sequence < 2 ^ 31 → IsMeetingText None said.organiser said.uid stored.revision (ShowsSeen book stored) stored.events octets
      → SpellsShownCalendar book stored octets
  shown_calendar s store same small t =
      let b = shown_back s store same small t in
      record { shown = b.saids; each = b.each; lines = b.lines; tree = b.whole; object = unbounded_object b.whole (logical_lines octets) b.object; says = as_events b.whole _ b.saids b.says }
