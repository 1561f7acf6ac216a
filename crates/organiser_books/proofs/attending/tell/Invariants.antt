-- Those so far are told.
use Rattle.std.proofs.Common.{map, take}
use Rattle.ical_values.specs.Octets.{address_octets}
use Rattle.organiser_books.specs.Attending.{AreSentTo}
use Rattle.organiser_books.proofs.attending.tell.Given as goal

abbrev pub invariant-loop-address : goal.invariant-loop-address
invariant-loop-address l = AreSentTo (map address_octets (take l.address-index l.to)) l.fn.attending.entries l.attending.entries
