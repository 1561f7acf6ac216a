use Rattle.sched_box.proofs.OrganiserLemmas.{MadeOrganisers}
use Rattle.sched_box.proofs.organisers.organisers_of.Given as goal

abbrev pub invariant-loop-address : goal.invariant-loop-address
invariant-loop-address l = MadeOrganisers l.addresses l.address-index l.organisers.items
