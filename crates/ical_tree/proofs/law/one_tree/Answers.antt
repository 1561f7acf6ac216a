use Rattle.ical_tree.proofs.OneTree.{one_tree, pairs_up}
use Rattle.ical_tree.proofs.law.one_tree.Goals as goal

pub returns-clause-one : goal.returns-clause-one
returns-clause-one c = one_tree

pub returns-clause-or_a_fault : goal.returns-clause-or_a_fault
returns-clause-or_a_fault c = pairs_up
