use Rattle.std.proofs.Common.{arith}
use Rattle.cal_zones.proofs.OneDay.{day_range}
use Rattle.cal_zones.proofs.Spacing.{year_spaced}
use Rattle.cal_zones.proofs.pair.is_year_spaced.Goals as goal

pub is_apart-requires : goal.is_apart-requires
is_apart-requires c =
    (day_range c.day_in-day.result (omega (arith, c.day_in-day.ensures.in_year)), day_range c.day_in.result (omega (arith, c.day_in.ensures.in_year)))

pub is_apart-requires-2 : goal.is_apart-requires-2
is_apart-requires-2 c =
    (day_range c.day_in-day.result (omega (arith, c.day_in-day.ensures.in_year)), day_range c.day_in-2.result (omega (arith, c.day_in-2.ensures.in_year)))

pub is_apart-requires-3 : goal.is_apart-requires-3
is_apart-requires-3 c =
    (day_range c.day_in-day.result (omega (arith, c.day_in-day.ensures.in_year)), day_range c.day_in-3.result (omega (arith, c.day_in-3.ensures.in_year)))

pub returns-clause-apart : goal.returns-clause-apart
returns-clause-apart c h =
    year_spaced c.args.a.now c.args.b.now c.args.first c.args.second c.args.year c.day_in-day.result c.day_in.result c.day_in-2.result c.day_in-3.result (omega arith) c.day_in-day.ensures c.day_in.ensures c.day_in-2.ensures c.day_in-3.ensures (c.is_apart.ensures.apart c.if-not-is_apart.false) (c.is_apart-2.ensures.apart c.if-not-is_apart-2.false) (c.is_apart-3.ensures.apart h)

pub returns-then-not-is_apart-clause-near : goal.returns-then-not-is_apart-clause-near
returns-then-not-is_apart-clause-near c h =
    (c.day_in-day.result, c.day_in.result, c.day_in-day.ensures.on, c.day_in.ensures.on, c.is_apart.ensures.near c.if-not-is_apart.true)

pub returns-then-not-is_apart-2-clause-near : goal.returns-then-not-is_apart-2-clause-near
returns-then-not-is_apart-2-clause-near c h =
    (c.day_in-day.result, c.day_in-2.result, c.day_in-day.ensures.on, c.day_in-2.ensures.on, c.is_apart-2.ensures.near c.if-not-is_apart-2.true)

pub returns-clause-near : goal.returns-clause-near
returns-clause-near c h =
    (c.day_in-day.result, c.day_in-3.result, c.day_in-day.ensures.on, c.day_in-3.ensures.on, c.is_apart-3.ensures.near h)
