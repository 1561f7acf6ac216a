use Rattle.std.proofs.Common.{◌≡◌, ◌∙◌, ◌-◌, sym, true, false, arith}
use Rattle.profile.specs.series.Rules.{passes}
use Rattle.cal_rules.specs.Views.{pattern_of}
use Rattle.cal_rules.proofs.Positions.{count_zero, count_step}
use Rattle.cal_rules.proofs.listing.count_passing.Goals as goal
use Rattle.cal_rules.proofs.listing.count_passing.Goals.{then-passes, else-passes}

pub loop-day-init : goal.loop-day-init
loop-day-init c = record {
  facts = λ _. c.requires.from;
  low = omega arith;
  high = omega arith;
  small = omega arith;
  count = sym (count_zero (passes (pattern_of c.args.written.now c.args.start.index)) c.args.from.index (c.args.from.index - c.args.from.index) (omega arith));
}

pub loop-day-preserved : goal.loop-day-preserved
loop-day-preserved c =
    let test = passes (pattern_of c.args.written.now c.args.start.index) in
    let i = c.loop-day.invariant in
    let step = count_step test c.args.from.index c.loop-day.day.index i.low in
    elim c.if-passes.branch [
      | then-passes w ↦
          let here : test c.loop-day.day.index ≡ true = sym c.passes.ensures ∙ w.if-passes.true in
          let more = rw here at step in
          record {
            facts = c.tomorrow-day.ensures.facts;
            low = omega arith;
            high = omega arith;
            small = omega arith;
            count = rw c.tomorrow-day.ensures.index (omega (arith, i.count, more));
          }
      | else-passes w ↦
          let here : test c.loop-day.day.index ≡ false = sym c.passes.ensures ∙ w.if-passes.false in
          let more = rw here at step in
          record {
            facts = c.tomorrow-day.ensures.facts;
            low = omega arith;
            high = omega arith;
            small = omega arith;
            count = rw c.tomorrow-day.ensures.index (omega (arith, i.count, more));
          }
    ]
