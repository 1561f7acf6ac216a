use Rattle.ical_values.specs.Octets.{address_octets}
use Rattle.sched_box.specs.Organising.{organiser_addresses}
use Rattle.sched_box.proofs.HostLemmas.{never_among}
use Rattle.sched_box.proofs.books.Books.organiser_at.Goals as goal

pub returns-clause-none : goal.returns-clause-none
returns-clause-none c =
    never_among c.at.result (address_octets c.args.address.now) (organiser_addresses c.args.self.now.organisers.organisers.items) c.at.ensures.none
