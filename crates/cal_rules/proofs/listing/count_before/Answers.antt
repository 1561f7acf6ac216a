use Rattle.std.proofs.Common.{◌-◌, sym, arith}
use Rattle.profile.specs.series.Rules.{passes}
use Rattle.cal_rules.specs.Views.{pattern_of}
use Rattle.cal_rules.proofs.Positions.{count_zero}
use Rattle.cal_rules.proofs.listing.count_before.Goals as goal

pub returns-then-span-day : goal.returns-then-span-day
returns-then-span-day c =
    sym (count_zero (passes (pattern_of c.args.written.now c.args.start.index)) c.args.span.first (c.args.day.index - c.args.span.first) (omega arith))
