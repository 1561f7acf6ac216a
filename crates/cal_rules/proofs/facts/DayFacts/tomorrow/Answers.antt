use Rattle.std.proofs.Common.{arith}
use Rattle.cal_rules.proofs.Tomorrow.{year_goes_on, facts_on}
use Rattle.cal_rules.proofs.facts.DayFacts.tomorrow.Goals as goal

pub overflow_sub-result-2 : goal.overflow_sub-result-2
overflow_sub-result-2 c =
    omega (arith, year_goes_on c.args.self.index (omega (arith, c.requires.facts.month_after)), c.requires.facts.year_after)

pub returns-clause-facts : goal.returns-clause-facts
returns-clause-facts c = λ _. facts_on c.args.self c.requires.facts (omega arith) (omega arith)
