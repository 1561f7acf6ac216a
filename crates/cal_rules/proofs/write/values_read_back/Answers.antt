use Rattle.cal_rules.proofs.ReadBack.{between_back, months_back, places_back, entries_back}
use Rattle.cal_rules.proofs.write.values_read_back.Goals as goal

pub returns-clause-number : goal.returns-clause-number
returns-clause-number c = between_back

pub returns-clause-months : goal.returns-clause-months
returns-clause-months c = months_back

pub returns-clause-places : goal.returns-clause-places
returns-clause-places c = places_back

pub returns-clause-entries : goal.returns-clause-entries
returns-clause-entries c = entries_back
