use Rattle.sched_cli.proofs.HandedBack.{some_octets}
use Rattle.sched_cli.proofs.returned.object_length.Goals as goal

pub returns-in-Some-clause-some : goal.returns-in-Some-clause-some
returns-in-Some-clause-some c = some_octets c.args.octets.now c.in-Some.end c.requires c.in-Some.ensures.rest.1
