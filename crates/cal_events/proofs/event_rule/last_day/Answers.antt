use Rattle.std.proofs.Common.{ap, option_map}
use Rattle.cal_rules.specs.Views.{until_of}
use Rattle.cal_events.proofs.event_rule_lemmas.RuleLemmas.{without_until}
use Rattle.cal_events.proofs.event_rule.last_day.Goals as goal

pub returns-in-None : goal.returns-in-None
returns-in-None c = without_until _ _ _ _ (ap (option_map until_of) c.in-None.is) c.of.ensures.found c.of.ensures.value
