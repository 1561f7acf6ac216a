use Rattle.std.proofs.Common.{◌≡◌, arith}
use Rattle.cal_zones.proofs.Spacing.{more_spaced}
use Rattle.cal_zones.proofs.pair.is_spaced.Goals as goal

pub loop-year-init : goal.loop-year-init
loop-year-init c year from less = absurd (omega arith)

pub loop-year-preserved : goal.loop-year-preserved
loop-year-preserved c =
    more_spaced c.args.a.now c.args.b.now c.args.first c.args.second c.loop-year.year c.loop-year.invariant (c.is_year_spaced.ensures.apart c.if-not-is_year_spaced.false)

pub returns-clause-apart : goal.returns-clause-apart
returns-clause-apart c h =
    let end : c.loop-year.year ≡ 801 = omega arith in
    rw end at c.loop-year.invariant

pub returns-then-not-is_year_spaced-clause-near : goal.returns-then-not-is_year_spaced-clause-near
returns-then-not-is_year_spaced-clause-near c h = c.is_year_spaced.ensures.near c.if-not-is_year_spaced.true
