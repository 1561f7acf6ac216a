use Rattle.clash_check.proofs.PeriodLemmas.{multiple_iff}
use Rattle.clash_check.proofs.span.is_multiple.Goals as goal

pub returns : goal.returns
returns c = multiple_iff c.args.days c.args.period
