use Rattle.std.proofs.Common.{◌≡◌, ◌∙◌, ◌+◌, ◌-◌, sym, true, false, arith}
use Rattle.profile.specs.series.Rules.{passes}
use Rattle.cal_rules.specs.Views.{pattern_of}
use Rattle.cal_rules.proofs.Positions.{count_zero, count_rest}
use Rattle.cal_rules.proofs.Places.{before_last}
use Rattle.cal_rules.proofs.Cursors.{entered_from_end}
use Rattle.cal_rules.proofs.listing.enter_from_end.Goals as goal

pub loop-here-init : goal.loop-here-init
loop-here-init c =
    let inside = c.requires.span.not_after in
    record {
      facts = c.looked_up-here.ensures.facts;
      low = omega arith;
      high = omega arith;
      count = sym (count_zero (passes (pattern_of c.args.written.now c.args.start.index)) c.looked_up-here.result.index (c.args.span.end - c.looked_up-here.result.index) (omega arith));
    }

pub loop-here-preserved-then-passes : goal.loop-here-preserved-then-passes
loop-here-preserved-then-passes c =
    let test = passes (pattern_of c.args.written.now c.args.start.index) in
    let i = c.loop-here.invariant in
    let back = c.yesterday-here.ensures in
    let here : test c.yesterday-here.result.index ≡ true = sym c.passes.ensures ∙ c.if-passes.true in
    let on : c.yesterday-here.result.index + 1 ≡ c.loop-here.here.index = omega arith in
    let rest = rw (here, on) at (count_rest test c.yesterday-here.result.index c.args.span.end (omega arith)) in
    record {
      facts = back.facts;
      low = omega arith;
      high = omega arith;
      count = omega arith;
    }

pub loop-here-preserved : goal.loop-here-preserved
loop-here-preserved c =
    let test = passes (pattern_of c.args.written.now c.args.start.index) in
    let i = c.loop-here.invariant in
    let back = c.yesterday-here.ensures in
    let here : test c.yesterday-here.result.index ≡ false = sym c.passes.ensures ∙ c.if-passes.false in
    let on : c.yesterday-here.result.index + 1 ≡ c.loop-here.here.index = omega arith in
    let rest = rw (here, on) at (count_rest test c.yesterday-here.result.index c.args.span.end (omega arith)) in
    record {
      facts = back.facts;
      low = omega arith;
      high = omega arith;
      count = omega arith;
    }

-- enough days pass

pub returns-else-later-depth-clause-none : goal.returns-else-later-depth-clause-none
returns-else-later-depth-clause-none c =
    let i = c.loop-here.invariant in
    let p = pattern_of c.args.written.now c.args.start.index in
    before_last p c.args.day.index c.loop-here.here.index c.args.span.first c.args.span.end c.args.depth c.loop-here.later c.requires.span c.requires.in_step c.requires.end c.requires.some c.requires.deep i.high i.count (omega arith)

pub returns-else-later-depth-clause-is_cursor : goal.returns-else-later-depth-clause-is_cursor
returns-else-later-depth-clause-is_cursor c =
    let i = c.loop-here.invariant in
    entered_from_end (pattern_of c.args.written.now c.args.start.index) c.args.day.index c.args.depth c.args.span c.loop-here.here c.loop-here.later c.requires.span c.requires.in_step c.requires.end c.requires.deep i.facts i.low i.high i.count

-- the day itself is reached

pub returns-after-loop-here-clause-is_cursor : goal.returns-after-loop-here-clause-is_cursor
returns-after-loop-here-clause-is_cursor c =
    let i = c.loop-here.invariant in
    entered_from_end (pattern_of c.args.written.now c.args.start.index) c.args.day.index c.args.depth c.args.span c.loop-here.here c.loop-here.later c.requires.span c.requires.in_step c.requires.end c.requires.deep i.facts i.low i.high i.count
