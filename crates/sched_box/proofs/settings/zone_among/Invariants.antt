use Rattle.ical_values.specs.Octets.{address_octets}
use Rattle.sched_box.proofs.ZoneLemmas.{IsLeft}
use Rattle.sched_box.proofs.settings.zone_among.Given as goal

abbrev pub invariant-loop-room : goal.invariant-loop-room
invariant-loop-room l = IsLeft (address_octets l.address) l.zones l.room-index
