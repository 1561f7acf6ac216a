use Rattle.std.proofs.Common.{arith}
use Rattle.cal_rules.proofs.Strides.{none_below, none_round}
use Rattle.cal_rules.proofs.listing.periods_ahead.Goals as goal

pub returns-then-here-there-clause-none_sooner : goal.returns-then-here-there-clause-none_sooner
returns-then-here-there-clause-none_sooner c =
    λ j h. none_below c.args.interval c.args.here c.args.there j c.requires.there (omega arith)

pub returns-clause-none_sooner : goal.returns-clause-none_sooner
returns-clause-none_sooner c =
    λ j h. none_round c.args.interval c.args.here c.args.there j (omega arith) c.requires.here (omega arith)
