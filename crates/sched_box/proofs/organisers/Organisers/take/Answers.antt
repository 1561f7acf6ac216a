use Rattle.std.proofs.Common.{◌∙◌, ap, sym}
use Rattle.std.specs.List.{list_any}
use Rattle.std.specs.Str.{bytes_eq}
use Rattle.ical_values.specs.Octets.{address_octets}
use Rattle.ical_values.specs.declared.address.Address.{Address}
use Rattle.sched_box.specs.Organising.{organiser_addresses}
use Rattle.sched_box.proofs.OrganiserLemmas.{refused_unhosted}
use Rattle.sched_box.proofs.organisers.Organisers.take.Goals as goal

pub returns-in_default-clause-fault : goal.returns-in_default-clause-fault
returns-in_default-clause-fault c =
    refused_unhosted c.args.object.now c.args.self.now.organisers.items
    (ap (λ (a : Address). list_any (bytes_eq (address_octets a)) (organiser_addresses c.args.self.now.organisers.items)) (sym c.organiser.ensures)
    ∙ sym (ap (list_any (bytes_eq (address_octets c.organiser.result.now))) c.args.self.now.listed)
    ∙ c.in_default.ensures.none)
