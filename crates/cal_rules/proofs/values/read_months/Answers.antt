use Rattle.std.proofs.Common.{rules}
use Rattle.profile.specs.series.RuleTexts.{SpellsBetween}
use Rattle.cal_rules.proofs.Entered.{ok_some, ok_none, list_spelled, list_none}
use Rattle.cal_rules.proofs.values.read_months.Goals as goal

pub returns-clause-reads : goal.returns-clause-reads
returns-clause-reads c = ok_some c.read_list.result (λ months h. list_spelled _ _ (SpellsBetween 1 12) c.args.value.now months.items h (λ v x r. search rules)) c.read_list.ensures.reads

pub returns-clause-none : goal.returns-clause-none
returns-clause-none c = ok_none c.read_list.result (λ h. list_none _ _ (SpellsBetween 1 12) (λ x. x) c.args.value.now h (λ v r. search rules)) c.read_list.ensures.none
