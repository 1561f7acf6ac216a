use Rattle.std.proofs.Common.{rules}
use Rattle.std.proofs.lemmas.Int.{ints}
use Rattle.cal_zones.proofs.observance.Observance.first_onset.Goals as goal

pub returns-clause-first : goal.returns-clause-first
returns-clause-first c = search (ints, rules)

pub returns-clause-low : goal.returns-clause-low
returns-clause-low c = search (ints, rules)

pub returns-clause-high : goal.returns-clause-high
returns-clause-high c = search (ints, rules)
