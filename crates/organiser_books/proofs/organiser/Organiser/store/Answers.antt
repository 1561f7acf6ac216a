use Rattle.std.proofs.Common.{List, Some, cond, ap, ◌≡◌, ◌∙◌, ◌<◌, refl, ℕ, map, sym, subst}
use Rattle.std.specs.List.{AllZip}
use Rattle.std.specs.Str.{bytes_eq}
use Rattle.indexmap.specs.IndexMap.{get}
use Rattle.ical_values.specs.Octets.{address_octets, text_octets}
use Rattle.profile.specs.events.Messages.{is_to_rooms}
use Rattle.profile.specs.organisers.Organisers.{most_sequence}
use Rattle.itip_messages.specs.Message.{SaysComponent}
use Rattle.itip_messages.specs.declared.message_component.MessageComponent.{MessageComponent}
use Rattle.itip_order.specs.declared.part.Revision.{Revision}
use Rattle.organiser_books.specs.declared.meeting.StoredMeeting.{StoredMeeting}
use Rattle.organiser_books.specs.Calls.{sent_of}
use Rattle.organiser_books.specs.Representation.{same_text}
use Rattle.organiser_books.specs.Storing.{sequence_then}
use Rattle.organiser_books.proofs.Showing.{stored_texts}
use Rattle.organiser_books.proofs.Storing.{is_stored, spent_fault}
use Rattle.organiser_books.proofs.organiser.Organiser.store.Goals as goal

pub returns-in_default-clause-fault : goal.returns-in_default-clause-fault
returns-in_default-clause-fault c = λ said is book keeps.
    let same : sequence_then _ c.components.result.now ≡ sequence_then (get same_text c.args.self.now.meetings c.args.object.now.uid) c.args.object.now.components.items = λ i. sequence_then ((c.get.ensures.value ∙ ap (get same_text c.args.self.now.meetings) c.uid.ensures) i) (c.components.ensures i) in
    spent_fault (address_octets c.args.self.now.address) c.args.object.now said is (sym is.method ∙ c.in_ok-expect.ensures.kind) (sym is.organiser ∙ c.in_ok-expect.ensures.own) book (get same_text c.args.self.now.meetings) keeps.each
    (subst (λ (n : ℕ). most_sequence < n) same c.in_default.ensures.none)

pub returns-clause-steps : goal.returns-clause-steps
returns-clause-steps c = λ said is book keeps.
    let object = c.args.object.now in
    let kind = sym is.method ∙ c.in_ok-expect.ensures.kind in
    let own = sym is.organiser ∙ c.in_ok-expect.ensures.own in
    let meetings = get same_text c.args.self.now.meetings in
    let made = c.in_ok-attending.field-0 in
    let revision : Revision = record { sequence = c.in-Some.sequence; stamp = c.args.now } in
    let meeting : StoredMeeting = record { revision = revision; components = c.in_ok-components.components; attending = made.attending; object = made.object; answers = c.new.result } in
    let same : sequence_then _ c.components.result.now ≡ sequence_then (meetings object.uid) object.components.items = λ i. sequence_then ((c.get.ensures.value ∙ ap (get same_text c.args.self.now.meetings) c.uid.ensures) i) (c.components.ensures i) in
    let r = is_stored (address_octets c.args.self.now.address) object said is kind own book meetings keeps.each c.args.now meeting (c.in-Some.ensures.is ∙ same) refl (map sent_of made.sent.items)
    (get same_text c.insert.new.self) (λ q. c.in_ok-insert.ensures.updates.0 q ∙ ap (λ (u : List ℕ). cond (bytes_eq u (text_octets q)) (Some meeting) (meetings q)) (c.in_ok-uid.ensures.cases ∙ ap text_octets c.uid-2.ensures))
    c.in-Some.ensures.fits (c.in_ok-components.ensures said.events (subst (λ (l : List MessageComponent). AllZip SaysComponent said.events l) (sym c.components-2.ensures) is.each)) c.in_ok-attending.ensures.attending c.new.ensures.empty c.in_ok-attending.ensures.sends c.in_ok-attending.ensures.told in
    (r.0, (r.1.0, r.1.1, record { texts = stored_texts c.args.now said book _ _ r.1.1 object.uid is.uid keeps.texts; each = r.1.2 }))
