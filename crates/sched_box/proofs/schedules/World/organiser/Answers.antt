use Rattle.ical_values.proofs.Offsets.{if_none_weaker}
use Rattle.ical_values.specs.Octets.{address_octets}
use Rattle.sched_box.proofs.HostLemmas.{some_of}
use Rattle.sched_box.proofs.ScheduleLemmas.{no_organiser_of, organiser_of}
use Rattle.sched_box.proofs.schedules.World.organiser.Goals as goal

pub returns-clause-found : goal.returns-clause-found
returns-clause-found c =
    some_of c.at.result (λ organiser among at. organiser_of c.args.self.now (address_octets c.args.address.now) organiser.now among at) c.at.ensures.found c.at.ensures.address

pub returns-clause-none : goal.returns-clause-none
returns-clause-none c = if_none_weaker c.at.result (no_organiser_of c.args.self.now (address_octets c.args.address.now)) c.at.ensures.none
