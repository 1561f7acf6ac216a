-- Those among the entries so far.
use Rattle.std.proofs.Common.{◌≡◌, ◌++◌, map}
use Rattle.ical_values.specs.Octets.{address_octets}
use Rattle.organiser_books.specs.Attending.{Entries, sent_in}
use Rattle.organiser_books.proofs.attending.sent.Given as goal

abbrev pub invariant-loop-address : goal.invariant-loop-address
invariant-loop-address l = (done : Entries) × (done ++ l.address-iterator ≡ l.attending.entries) × (map address_octets l.sent.items ≡ sent_in (address_octets l.organiser) done)
