-- Those among the entries so far.
use Rattle.std.proofs.Common.{◌≡◌, ◌++◌, map}
use Rattle.ical_values.specs.Octets.{address_octets}
use Rattle.organiser_books.specs.Attending.{Entries, gone_in}
use Rattle.organiser_books.proofs.attending.gone.Given as goal

abbrev pub invariant-loop-address : goal.invariant-loop-address
invariant-loop-address l = (done : Entries) × (done ++ l.address-iterator ≡ l.last.entries) × (map address_octets l.gone.items ≡ gone_in l.called_off (address_octets l.organiser) done l.now.entries)
