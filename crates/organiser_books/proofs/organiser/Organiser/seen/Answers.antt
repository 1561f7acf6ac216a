use Rattle.std.proofs.Common.{◌∙◌, Option, Some, sym, subst}
use Rattle.ical_values.specs.Octets.{address_octets, text_octets}
use Rattle.profile.specs.events.EventComponents.{Participation}
use Rattle.profile.specs.organisers.Organisers.{IsSeen, last_store}
use Rattle.itip_order.specs.Parts.{slot_of}
use Rattle.organiser_books.specs.declared.meeting.StoredMeeting.{StoredMeeting}
use Rattle.organiser_books.specs.Representation.{RepresentsAt}
use Rattle.organiser_books.proofs.Taking.{seen_none, seen_some}
use Rattle.organiser_books.proofs.organiser.Organiser.seen.Goals as goal

pub returns-then-not-has_attendee : goal.returns-then-not-has_attendee
returns-then-not-has_attendee c = λ book keeps.
    let uid = text_octets c.args.uid.now in
    let m = c.in_ok-meeting.meeting.now in
    let found : RepresentsAt book uid (Some m) (last_store uid book) = subst (λ (o : Option StoredMeeting). RepresentsAt book uid o (last_store uid book)) (sym c.in_ok-meeting.ensures.value) (keeps.each c.args.uid.now) in
    seen_none book uid m found (slot_of c.args.slot) (address_octets c.args.attendee.now) (sym c.has_attendee.ensures ∙ c.if-not-has_attendee.true)

pub returns : goal.returns
returns c = λ book keeps.
    let uid = text_octets c.args.uid.now in
    let m = c.in_ok-meeting.meeting.now in
    let found : RepresentsAt book uid (Some m) (last_store uid book) = subst (λ (o : Option StoredMeeting). RepresentsAt book uid o (last_store uid book)) (sym c.in_ok-meeting.ensures.value) (keeps.each c.args.uid.now) in
    subst (λ (p : Participation). IsSeen book uid (slot_of c.args.slot) (address_octets c.args.attendee.now) (Some p)) (sym c.answered.ensures)
    (seen_some book uid m found (slot_of c.args.slot) (address_octets c.args.attendee.now) (sym c.has_attendee.ensures ∙ c.if-not-has_attendee.false))
