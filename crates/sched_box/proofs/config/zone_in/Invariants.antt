use Rattle.ical_values.specs.Octets.{address_octets}
use Rattle.sched_box.proofs.ZoneLemmas.{IsLeft}
use Rattle.sched_box.proofs.config.zone_in.Given as goal

abbrev pub invariant-loop-room : goal.invariant-loop-room
invariant-loop-room l = IsLeft (address_octets l.address) l.rooms l.room-index
