use Rattle.std.proofs.Common.{arith}
use Rattle.cal_rules.proofs.Periods.{week_span}
use Rattle.cal_rules.proofs.cursor.week_of.Goals as goal

pub returns-clause-days : goal.returns-clause-days
returns-clause-days c =
    rw c.max.ensures (week_span c.args.week_start c.args.index c.requires.0 (omega arith))
