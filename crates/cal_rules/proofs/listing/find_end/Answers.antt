use Rattle.std.proofs.Common.{◌≡◌, ◌∙◌, ◌-◌, ◌+◌, refl, arith}
use Rattle.profile.specs.series.Days.{day_index}
use Rattle.profile.specs.series.Rules.{count_days}
use Rattle.cal_rules.specs.Views.{pattern_of, rule_said}
use Rattle.cal_rules.proofs.Counting.{count_next, ends_never, ends_early, ends_at}
use Rattle.cal_rules.proofs.listing.find_end.Goals as goal

pub returns-in_default : goal.returns-in_default
returns-in_default c =
    ends_never (rule_said c.args.written.now c.args.start.index (day_index c.args.last)) c.in_default.is

pub loop-done-init : goal.loop-done-init
unfolding count_days
loop-done-init c =
    let e = c.at-cursor.ensures.index in
    let none : c.at-cursor.result.day.index - c.args.start.index ≡ 0 = omega arith in
    record {
      is_cursor = c.at-cursor.ensures.is_cursor (pattern_of c.args.written.now c.args.start.index);
      low = omega arith;
      count = rw none refl;
    }

pub returns-in_default-next_counted : goal.returns-in_default-next_counted
returns-in_default-next_counted c =
    let i = c.loop-done.invariant in
    ends_early (rule_said c.args.written.now c.args.start.index (day_index c.args.last)) c.in-Some.count c.loop-done.cursor.day.index c.in-Some.is i.low (omega (arith, i.count)) c.in_default-next_counted.ensures

pub loop-done-preserved : goal.loop-done-preserved
loop-done-preserved c =
    let i = c.loop-done.invariant in
    let past = c.in-Some-next_counted.ensures in
    let after = c.in-Some-next_counted.after.day.index in
    let low = past.next.not_before in
    let range = past.range in
    let place : after - 1 + 1 ≡ after = omega arith in
    record {
      is_cursor = past.is_cursor;
      low = omega arith;
      count = rw place at (count_next (rule_said c.args.written.now c.args.start.index (day_index c.args.last)) c.loop-done.cursor.day.index (after - 1) c.loop-done.done i.low low i.count past.next.least past.next.counted);
    }

pub returns : goal.returns
returns c =
    let i = c.loop-done.invariant in
    let all : c.loop-done.done ≡ c.in-Some.count = omega arith in
    ends_at (rule_said c.args.written.now c.args.start.index (day_index c.args.last)) c.in-Some.count c.loop-done.cursor.day.index c.in-Some.is i.low (omega (arith, i.is_cursor.range)) (i.count ∙ all)
