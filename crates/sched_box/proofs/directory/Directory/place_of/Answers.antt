use Rattle.sched_box.proofs.AskedLemmas.{place_at, no_place}
use Rattle.sched_box.proofs.directory.Directory.place_of.Goals as goal

pub returns-clause-at : goal.returns-clause-at
returns-clause-at c = place_at c.args.self.now.addresses.keys c.args.address.now c.get_index_of.result c.get_index_of.ensures.index

pub returns-clause-none : goal.returns-clause-none
returns-clause-none c = no_place c.args.self.now.addresses.keys c.args.address.now c.get_index_of.result c.get_index_of.ensures.found
