use Rattle.std.proofs.Common.{subst}
use Rattle.profile.specs.series.Rules.{IsAllowed}
use Rattle.cal_rules.proofs.text.RuleText.is_allowed.Goals as goal

pub returns : goal.returns
returns c = subst IsAllowed c.self.view_is c.self.invariant
