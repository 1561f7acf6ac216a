use Rattle.clash_cert.proofs.OneMade.{one_made, one_group, one_grouped, one_written}
use Rattle.clash_cert.proofs.laws.one_certificate_made.Goals as goal

pub returns-clause-made : goal.returns-clause-made
returns-clause-made c = one_made

pub returns-clause-group : goal.returns-clause-group
returns-clause-group c = one_group

pub returns-clause-grouped : goal.returns-clause-grouped
returns-clause-grouped c = one_grouped

pub returns-clause-written : goal.returns-clause-written
returns-clause-written c = one_written
