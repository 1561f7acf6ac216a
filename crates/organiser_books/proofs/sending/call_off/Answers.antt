use Rattle.std.proofs.Common.{◌≡◌, ◌∙◌, ◌++◌, true, List, map, sym, ap, subst}
use Rattle.std.proofs.lemmas.List.{map-append}
use Rattle.ical_values.specs.Octets.{address_octets, text_octets}
use Rattle.profile.specs.organisers.Organisers.{Sends}
use Rattle.profile.specs.organisers.Sent.{IsCancel}
use Rattle.itip_order.specs.Parts.{revision_of}
use Rattle.organiser_books.specs.Calls.{sent_of}
use Rattle.organiser_books.specs.Storing.{sent_to}
use Rattle.organiser_books.proofs.Sends.{copied, sends}
use Rattle.organiser_books.proofs.sending.call_off.Goals as goal

pub returns : goal.returns
returns c = λ events.
    let meeting = c.args.meeting.now in
    let object = c.in_ok-object.object.items in
    let all = map address_octets c.append.new.self.items in
    let to : all ≡ map address_octets c.args.to.items ++ map address_octets c.args.gone.items =
    ap (map address_octets) c.in_ok-append.ensures.items ∙ map-append address_octets c.args.to.items c.args.gone.items in
    let same : c.in_ok-clone.field-0.items ≡ object = copied object c.in_ok-clone.field-0.items c.in_ok-clone.ensures.cases.0 in
    let sent : map sent_of c.push_sent.new.sent.items ≡ sent_to all c.in_ok-clone.field-0.items =
    c.in_ok-push_sent.ensures ∙ ap (λ (l : List _). map sent_of l ++ sent_to all c.in_ok-clone.field-0.items) c.new-sent.ensures.items in (
      subst (λ l. IsCancel (address_octets meeting.organiser.now) (text_octets meeting.uid.now) (revision_of meeting.revision) true l object) (ap (map address_octets) c.deref.ensures.value ∙ to) c.in_ok-object.ensures,
      subst (λ l. Sends (λ octets. octets ≡ object) l (map sent_of c.push_sent.new.sent.items)) to
          (subst (Sends (λ octets. octets ≡ object) all) (sym sent) (sends (λ octets. octets ≡ object) all c.in_ok-clone.field-0.items same)),
    )
