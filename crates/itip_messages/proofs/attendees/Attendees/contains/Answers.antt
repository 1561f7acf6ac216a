use Rattle.std.proofs.Common.{◌∙◌, ap}
use Rattle.std.specs.List.{list_any}
use Rattle.std.specs.Str.{bytes_eq}
use Rattle.ical_values.specs.Octets.{address_octets}
use Rattle.itip_messages.proofs.attendees_lemmas.AttendeeSearch.{among}
use Rattle.itip_messages.proofs.attendees.Attendees.contains.Goals as goal

pub returns : goal.returns
returns c =
    let address = address_octets c.args.address.now in
    c.is_among.ensures
    ∙ ap (list_any (λ a. bytes_eq (address_octets a) address)) c.deref.ensures.value
    ∙ among (λ octets. bytes_eq octets address) c.self.inside.lines.items c.self.inside.sorted.items c.self.invariant.1
    ∙ ap (list_any (λ a. bytes_eq a.address address)) c.self.view_is
