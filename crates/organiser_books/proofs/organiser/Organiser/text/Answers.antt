use Rattle.std.proofs.Common.{◌≡◌, ◌∙◌, ◌++◌, List, ℕ, Option, None, Some, ap, sym, subst}
use Rattle.std.specs.List.{AllZip}
use Rattle.ical_values.specs.Octets.{address_octets, text_octets}
use Rattle.profile.specs.rooms.Revisions.{Revision}
use Rattle.profile.specs.organisers.Organisers.{ShowsSeen, last_store}
use Rattle.profile.specs.organisers.Sent.{IsMeetingText}
use Rattle.itip_order.specs.Parts.{revision_of}
use Rattle.itip_messages.specs.Message.{SaysComponent}
use Rattle.itip_messages.specs.declared.message_component.MessageComponent.{MessageComponent}
use Rattle.organiser_books.specs.declared.meeting.StoredMeeting.{StoredMeeting}
use Rattle.organiser_books.specs.Shown.{ShowsAnswered}
use Rattle.organiser_books.specs.Representation.{RepresentsAt}
use Rattle.organiser_books.proofs.Books.{represented_known}
use Rattle.organiser_books.proofs.Taking.{shows_seen, text_lift}
use Rattle.organiser_books.proofs.organiser.Organiser.text.Goals as goal

pub returns : goal.returns
returns c = λ book keeps.
    let uid = text_octets c.args.uid.now in
    let organiser = address_octets c.args.self.now.address in
    let m = c.in-Some.meeting.now in
    let found : RepresentsAt book uid (Some m) (last_store uid book) = subst (λ (o : Option StoredMeeting). RepresentsAt book uid o (last_store uid book)) (sym c.in-Some.ensures.value) (keeps.each c.args.uid.now) in
    let known = represented_known book uid m (last_store uid book) found in
    let stored = known.0 in
    let w = c.in_ok-write_meeting.ensures.ok in
    let written = w.1 stored.events (subst (λ (l : List MessageComponent). AllZip SaysComponent stored.events l) (sym c.deref.ensures.value) known.2.components) in
    let lifted = text_lift None organiser uid (revision_of m.revision) (ShowsAnswered m) (ShowsSeen book stored) (shows_seen m book stored known.2) stored.events w.0 written in
    let octets : c.write_meeting.new.out.items ≡ w.0 = w.2 ∙ ap (λ (l : List ℕ). l ++ w.0) c.new-octets.ensures.items in (
      stored,
      known.1,
      subst (λ (r : Revision). IsMeetingText None organiser uid r (ShowsSeen book stored) stored.events c.write_meeting.new.out.items) known.2.revision
          (subst (IsMeetingText None organiser uid (revision_of m.revision) (ShowsSeen book stored) stored.events) (sym octets) lifted),
    )
