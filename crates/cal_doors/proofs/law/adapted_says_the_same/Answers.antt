use Rattle.cal_rules.proofs.OneRule.{one_rule_read}
use Rattle.cal_doors.proofs.LawMeant.{says_the_same, says_the_same_up_to}
use Rattle.cal_doors.proofs.law.adapted_says_the_same.Goals as goal

pub returns-clause-exact : goal.returns-clause-exact
returns-clause-exact c = says_the_same one_rule_read

pub returns-clause-further : goal.returns-clause-further
returns-clause-further c = says_the_same_up_to one_rule_read
