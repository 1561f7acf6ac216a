use Rattle.std.proofs.Common.{rules}
use Rattle.std.proofs.Common.{arith}
use Rattle.profile.specs.series.Days.{day_index}
use Rattle.cal_rules.specs.Views.{pattern_of}
use Rattle.cal_rules.proofs.Strides.{out_of_step, beyond_none}
use Rattle.cal_rules.proofs.listing.first_chosen.Goals as goal

pub loop-index-init : goal.loop-index-init
loop-index-init c = record { first = c.requires.from; low = omega arith; none = λ n a b. absurd (omega arith) }

pub first_in_period-requires-clause-away : goal.first_in_period-requires-clause-away
first_in_period-requires-clause-away c =
    λ some. rw c.of-here.ensures.index (
    out_of_step (pattern_of c.args.written.now c.args.start.index) (day_index c.unwrap-day.result) c.periods_to_step-ahead.result c.periods_grow.ensures.ascend c.periods_grow.ensures.last some c.periods_to_step-ahead.ensures.none_sooner)

pub loop-index-preserved : goal.loop-index-preserved
loop-index-preserved c =
    let p = pattern_of c.args.written.now c.args.start.index in
    let span = rw c.of-here.ensures.index at c.of-span.ensures.days in
    let value = rw c.unwrap-day.ensures at c.at_index.ensures.value in
    let before = rw (← value) at c.loop-index.invariant.none in
    let here = rw c.of-here.ensures.index at c.in_default.ensures in
    let none = beyond_none p c.args.from (day_index c.unwrap-day.result) c.of-span.result.first c.of-span.result.end c.periods_to_step-ahead.result c.periods_grow.ensures.ascend c.periods_grow.ensures.last span before here c.periods_to_step-ahead.ensures.none_sooner in
    let inside = span.not_after in
    record {
      first = omega (arith, c.beyond-index.ensures);
      low = omega (arith, c.beyond-index.ensures);
      none = rw c.beyond-index.ensures none;
    }

pub returns-then-is_past : goal.returns-then-is_past
returns-then-is_past c = search rules

pub returns-in-Some : goal.returns-in-Some
returns-in-Some c = search rules

pub loop-index-smaller : goal.loop-index-smaller
loop-index-smaller c = search rules

pub returns : goal.returns
returns c = search rules
