use Rattle.std.proofs.Common.{rules}
use Rattle.profile.specs.series.RuleTexts.{SpellsPlace}
use Rattle.cal_rules.proofs.Entered.{ok_some, ok_none, list_spelled, list_none}
use Rattle.cal_rules.proofs.values.read_places.Goals as goal

pub returns-clause-reads : goal.returns-clause-reads
returns-clause-reads c = ok_some c.read_list.result (λ places h. list_spelled _ _ (SpellsPlace c.args.most) c.args.value.now places.items h (λ v x r. search rules)) c.read_list.ensures.reads

pub returns-clause-none : goal.returns-clause-none
returns-clause-none c = ok_none c.read_list.result (λ h. list_none _ _ (SpellsPlace c.args.most) (λ x. x) c.args.value.now h (λ v r. search rules)) c.read_list.ensures.none
