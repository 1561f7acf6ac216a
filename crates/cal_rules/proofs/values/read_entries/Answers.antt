use Rattle.std.proofs.Common.{rules}
use Rattle.profile.specs.series.RuleTexts.{SpellsEntry}
use Rattle.cal_rules.specs.Views.{weekday_number_of}
use Rattle.cal_rules.proofs.Entered.{ok_some, ok_none, list_viewed, list_none}
use Rattle.cal_rules.proofs.values.read_entries.Goals as goal

pub returns-clause-reads : goal.returns-clause-reads
returns-clause-reads c = ok_some c.read_list.result (λ entries h. list_viewed _ _ SpellsEntry weekday_number_of c.args.value.now entries.items h (λ v x r. search rules)) c.read_list.ensures.reads

pub returns-clause-none : goal.returns-clause-none
returns-clause-none c = ok_none c.read_list.result (λ h. list_none _ _ SpellsEntry weekday_number_of c.args.value.now h (λ v r. search rules)) c.read_list.ensures.none
