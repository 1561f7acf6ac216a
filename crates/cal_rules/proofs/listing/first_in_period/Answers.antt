use Rattle.std.proofs.Common.{arith}
use Rattle.cal_rules.specs.Views.{pattern_of}
use Rattle.cal_rules.proofs.Positions.{none_away}
use Rattle.cal_rules.proofs.listing.first_in_period.Goals as goal

pub returns-then-ahead-gt0 : goal.returns-then-ahead-gt0
returns-then-ahead-gt0 c =
    none_away (pattern_of c.args.written.now c.args.start.index) c.args.day.index c.args.span.first c.args.span.end c.requires.span (c.requires.away (omega arith))
