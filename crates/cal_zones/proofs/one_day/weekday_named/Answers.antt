use Rattle.std.proofs.Common.{rules}
use Rattle.std.proofs.lemmas.Int.{ints}
use Rattle.cal_zones.proofs.one_day.weekday_named.Goals as goal

pub returns-in-minus4-to-minus1-clause-found : goal.returns-in-minus4-to-minus1-clause-found
returns-in-minus4-to-minus1-clause-found c = search (ints, rules)

pub returns-in-minus4-to-minus1-clause-none : goal.returns-in-minus4-to-minus1-clause-none
returns-in-minus4-to-minus1-clause-none c = search (ints, rules)

pub returns-in-1-to-4-clause-found : goal.returns-in-1-to-4-clause-found
returns-in-1-to-4-clause-found c = search (ints, rules)

pub returns-in-1-to-4-clause-none : goal.returns-in-1-to-4-clause-none
returns-in-1-to-4-clause-none c = search (ints, rules)

pub returns-in_default-clause-found : goal.returns-in_default-clause-found
returns-in_default-clause-found c = search (ints, rules)

pub returns-in_default-clause-none : goal.returns-in_default-clause-none
returns-in_default-clause-none c = search (ints, rules)

pub returns-in_default-2-clause-found : goal.returns-in_default-2-clause-found
returns-in_default-2-clause-found c = search (ints, rules)

pub returns-in_default-2-clause-none : goal.returns-in_default-2-clause-none
returns-in_default-2-clause-none c = search (ints, rules)

pub returns-in_default-3-clause-found : goal.returns-in_default-3-clause-found
returns-in_default-3-clause-found c = search (ints, rules)

pub returns-in_default-3-clause-none : goal.returns-in_default-3-clause-none
returns-in_default-3-clause-none c = search (ints, rules)
