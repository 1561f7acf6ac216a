use Rattle.std.proofs.Common.{subst}
use Rattle.std.specs.Prelude.{MatchOption, Option, ℕ}
use Rattle.profile.specs.series.Periods.{HasNoMultiple, IsLeastMultiple}
use Rattle.cal_rules.proofs.FormParts.{has_multiple, few_days}
use Rattle.cal_rules.proofs.form.least_multiple.Goals as goal

pub unwrap-requires : goal.unwrap-requires
unwrap-requires c =
    has_multiple c.args.interval c.args.days c.common_multiple.result c.requires.interval.0 c.requires.interval.1 c.requires.days.0 c.requires.days.1 c.common_multiple.ensures.least

pub returns-clause-few : goal.returns-clause-few
returns-clause-few c =
    let least = subst (λ (r : Option ℕ). MatchOption r (HasNoMultiple c.args.interval c.args.days) (IsLeastMultiple c.args.interval c.args.days)) c.unwrap.ensures c.common_multiple.ensures.least in
    few_days c.args.interval c.args.days c.unwrap.result c.requires.interval.0 c.requires.interval.1 c.requires.days.0 c.requires.days.1 least
