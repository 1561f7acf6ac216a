use Rattle.std.proofs.Common.{◌-◌, ◌/◌, arith}
use Rattle.cal_zones.proofs.OneDay.{first_cycles}
use Rattle.cal_zones.proofs.yearly.Yearly.first_on.Goals as goal

pub returns-clause-first : goal.returns-clause-first
returns-clause-first c =
    first_cycles c.args.self c.args.n c.first_from.result ((c.args.n - 366) / 146_097) (omega arith) c.first_from.ensures.first
