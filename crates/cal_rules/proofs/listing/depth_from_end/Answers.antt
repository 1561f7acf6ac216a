use Rattle.std.proofs.Common.{rules}
use Rattle.std.proofs.lemmas.Int.{ints}
use Rattle.cal_rules.proofs.listing.depth_from_end.Goals as goal

pub returns-then-farthest-ge0 : goal.returns-then-farthest-ge0
returns-then-farthest-ge0 c = search (ints, rules)

pub overflow_add-depth : goal.overflow_add-depth
overflow_add-depth c = search (ints, rules)

pub overflow_sub-depth : goal.overflow_sub-depth
overflow_sub-depth c = search (ints, rules)

pub overflow_cast-depth : goal.overflow_cast-depth
overflow_cast-depth c = search (ints, rules)

pub overflow_add-depth-2 : goal.overflow_add-depth-2
overflow_add-depth-2 c = search (ints, rules)

pub returns-then-not-are_among_last : goal.returns-then-not-are_among_last
returns-then-not-are_among_last c = search (ints, rules)

pub returns : goal.returns
returns c = search (ints, rules)
