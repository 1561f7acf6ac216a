use Rattle.std.proofs.Common.{arith}
use Rattle.cal_zones.proofs.OneDay.{earlier_cycles, latest_cycles}
use Rattle.cal_zones.proofs.yearly.Yearly.latest.Goals as goal

pub latest_early-requires-clause-earlier : goal.latest_early-requires-clause-earlier
latest_early-requires-clause-earlier c =
    earlier_cycles c.args.self c.args.n c.saturating_sub-cycles.result c.saturating_sub-cycles.ensures c.requires.earlier

pub returns-clause-latest : goal.returns-clause-latest
returns-clause-latest c =
    latest_cycles c.args.self c.args.n c.latest_early.result c.saturating_sub-cycles.result (omega (arith, c.saturating_sub-cycles.ensures)) c.latest_early.ensures.latest
