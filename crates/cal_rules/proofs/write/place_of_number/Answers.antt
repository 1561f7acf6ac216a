use Rattle.std.proofs.Common.{rules}
use Rattle.std.proofs.lemmas.Int.{ints}
use Rattle.cal_rules.proofs.write.place_of_number.Goals as goal

pub overflow_add-result : goal.overflow_add-result
overflow_add-result c = search (ints, rules)

pub overflow_cast-result : goal.overflow_cast-result
overflow_cast-result c = search (ints, rules)

pub returns : goal.returns
returns c = search (ints, rules)
