use Rattle.std.proofs.Common.{arith}
use Rattle.std.proofs.lemmas.Grind.{common_steps}
use Rattle.std.proofs.Common.{rules}
use Rattle.cal_rules.proofs.write.push_until.Goals as goal

pub returns-in_default : goal.returns-in_default
returns-in_default c = search rules

pub returns-in_default-until : goal.returns-in_default-until
returns-in_default-until c = search rules

pub returns : goal.returns
returns c = grind (arith, common_steps)
