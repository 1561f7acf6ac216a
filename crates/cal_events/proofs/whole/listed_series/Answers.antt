use Rattle.cal_events.proofs.whole_lemmas.RuleInstances.{listed_instances}
use Rattle.cal_events.proofs.whole.listed_series.Goals as goal

pub returns : goal.returns
returns c = listed_instances
