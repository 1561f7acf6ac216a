use Rattle.ical_values.specs.Octets.{address_octets}
use Rattle.sched_box.specs.Books.{hosted_rooms}
use Rattle.sched_box.proofs.HostLemmas.{never_among}
use Rattle.sched_box.proofs.books.Books.room_at.Goals as goal

pub returns-clause-none : goal.returns-clause-none
returns-clause-none c = never_among c.at.result (address_octets c.args.address.now) (hosted_rooms c.args.self.now) c.at.ensures.none
