use Rattle.std.proofs.Common.{arith}
use Rattle.cal_events.specs.Series.{series_said}
use Rattle.cal_period.proofs.Turning.{least_of_both, long_of_least, long_of_none}
use Rattle.cal_period.proofs.residue.common_stride.Goals as goal

pub returns-in_default : goal.returns-in_default
returns-in_default c =
    long_of_none (series_said c.args.a.now) (series_said c.args.b.now) c.stride-first.result c.stride-second.result
    (λ n s. (c.stride-first.ensures n).0 s) (λ n s. (c.stride-second.ensures n).0 s) c.in_default.ensures.least

pub returns-then-days-gt-MOST_RESIDUE_DAYS : goal.returns-then-days-gt-MOST_RESIDUE_DAYS
returns-then-days-gt-MOST_RESIDUE_DAYS c =
    let least = least_of_both (series_said c.args.a.now) (series_said c.args.b.now) c.stride-first.result c.stride-second.result c.in-Some.days
    (λ n s. (c.stride-first.ensures n).1 s) (λ n s. (c.stride-first.ensures n).0 s) (λ n s. (c.stride-second.ensures n).1 s) (λ n s. (c.stride-second.ensures n).0 s) c.in-Some.ensures.least in
    long_of_least (series_said c.args.a.now) (series_said c.args.b.now) c.in-Some.days least c.if-days-gt-MOST_RESIDUE_DAYS.true

pub returns : goal.returns
returns c =
    let few = c.if-days-gt-MOST_RESIDUE_DAYS.false in
    let least = least_of_both (series_said c.args.a.now) (series_said c.args.b.now) c.stride-first.result c.stride-second.result c.in-Some.days
    (λ n s. (c.stride-first.ensures n).1 s) (λ n s. (c.stride-first.ensures n).0 s) (λ n s. (c.stride-second.ensures n).1 s) (λ n s. (c.stride-second.ensures n).0 s) c.in-Some.ensures.least in
    (least, omega (arith, few))
