use Rattle.ical_values.proofs.Addresses.{lower_address, lower_twice}
use Rattle.ical_values.proofs.address.address_reads_back.Goals as goal

pub returns-clause-address : goal.returns-clause-address
returns-clause-address c = lower_address

pub returns-clause-same : goal.returns-clause-same
returns-clause-same c = lower_twice
