use Rattle.std.proofs.Common.{rules}
use Rattle.cal_zones.proofs.Named.{none_ends}
use Rattle.cal_zones.proofs.one_day.day_of_year.Goals as goal
use Rattle.cal_zones.proofs.one_day.day_of_year.Goals.{then-is_some-via-then-is_some, then-is_some-via-else-is_some+then-is_some-2}

pub returns-then-is_some-clause-none : goal.returns-then-is_some-clause-none
returns-then-is_some-clause-none c = λ r h.
    let n = none_ends c.args.rule.now r h in
    elim c.then-is_some.branch [ then-is_some-via-then-is_some w ↦ search rules | then-is_some-via-else-is_some+then-is_some-2 w ↦ search rules ]
