use Rattle.std.proofs.Common.{rules}
use Rattle.std.proofs.lemmas.Int.{ints}
use Rattle.cal_rules.proofs.write.place_of_entry.Goals as goal

pub overflow_add-result : goal.overflow_add-result
overflow_add-result c = search (ints, rules)

pub overflow_cast-result : goal.overflow_cast-result
overflow_cast-result c = search (ints, rules)

pub overflow_mul-result : goal.overflow_mul-result
overflow_mul-result c = search (ints, rules)

pub overflow_cast-result-2 : goal.overflow_cast-result-2
overflow_cast-result-2 c = search (ints, rules)

pub overflow_add-result-2 : goal.overflow_add-result-2
overflow_add-result-2 c = search (ints, rules)

pub returns : goal.returns
returns c = search (ints, rules)
