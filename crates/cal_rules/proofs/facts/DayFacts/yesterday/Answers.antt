use Rattle.std.proofs.Common.{arith}
use Rattle.cal_rules.proofs.Tomorrow.{year_went_on, facts_back}
use Rattle.cal_rules.proofs.facts.DayFacts.yesterday.Goals as goal

pub overflow_sub-result-3 : goal.overflow_sub-result-3
overflow_sub-result-3 c =
    omega (arith, year_went_on c.args.self.index (omega (arith, c.requires.range)) (omega (arith, c.requires.facts.month_before)), c.requires.facts.year_before)

pub returns-clause-facts : goal.returns-clause-facts
returns-clause-facts c = facts_back c.args.self c.requires.facts (omega arith) c.requires.range
