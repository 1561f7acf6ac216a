use Rattle.std.proofs.Common.{◌≡◌, arith, to_z, of_z, w64, ◌≤ℤ◌, ◌<ℤ◌, FitsSigned, rules, to_z-of_z}
use Rattle.std.proofs.lemmas.Int.{ints}
use Rattle.profile.specs.checker.Instances.{horizon}
use Rattle.profile.specs.events.Spans.{span_end}
use Rattle.cal_period.proofs.Spanning.{below, bound_of, least_span, none_far, none_late}
use Rattle.cal_period.proofs.common.Common.span.Goals as goal

pub returns-then-self-ge-HORIZON : goal.returns-then-self-ge-HORIZON
returns-then-self-ge-HORIZON c = λ all have.
    let fits : FitsSigned w64 c.args.self.past = search rules in
    let cast : to_z w64 (of_z w64 c.args.self.past) ≡ c.args.self.past = to_z-of_z fits in
    let late : horizon ≤ℤ c.args.self.past = let l = rw cast at c.if-self-ge-HORIZON.true in grind (arith, ints, l) in
    none_late all c.args.self have late

pub span_end-bound-requires-clause-days : goal.span_end-bound-requires-clause-days
span_end-bound-requires-clause-days c = c.args.self.few

pub span_end-bound-requires-clause-width : goal.span_end-bound-requires-clause-width
span_end-bound-requires-clause-width c =
    let fits : FitsSigned w64 c.args.self.width = search rules in
    let cast : to_z w64 (of_z w64 c.args.self.width) ≡ c.args.self.width = to_z-of_z fits in
    rw cast c.args.self.range

pub returns-then-bound-ge-HORIZON : goal.returns-then-bound-ge-HORIZON
returns-then-bound-ge-HORIZON c = λ all have.
    let from = c.next_midnight-from.result in
    let bound = c.span_end-bound.result in
    let cast_from : to_z w64 (of_z w64 from) ≡ from = omega (arith, ints, c.next_midnight-from.type_inv) in
    let cast_bound : to_z w64 (of_z w64 bound) ≡ bound = omega (arith, ints, c.span_end-bound.type_inv) in
    let fits : FitsSigned w64 c.args.self.width = search rules in
    let cast_width : to_z w64 (of_z w64 c.args.self.width) ≡ c.args.self.width = to_z-of_z fits in
    let fits_past : FitsSigned w64 c.args.self.past = search rules in
    let cast_past : to_z w64 (of_z w64 c.args.self.past) ≡ c.args.self.past = to_z-of_z fits_past in
    let next = rw cast_past at c.next_midnight-from.ensures.midnight in
    let is : bound ≡ span_end from c.args.self.days c.args.self.width = rw (cast_from, cast_width) at c.span_end-bound.ensures in
    let far : horizon ≤ℤ bound = let l = rw cast_bound at c.if-bound-ge-HORIZON.true in grind (arith, ints, l) in
    none_far all c.args.self have from next bound is far

pub returns : goal.returns
returns c = λ all have.
    let from = c.next_midnight-from.result in
    let bound = c.span_end-bound.result in
    let cast_from : to_z w64 (of_z w64 from) ≡ from = omega (arith, ints, c.next_midnight-from.type_inv) in
    let cast_bound : to_z w64 (of_z w64 bound) ≡ bound = omega (arith, ints, c.span_end-bound.type_inv) in
    let fits : FitsSigned w64 c.args.self.width = search rules in
    let cast_width : to_z w64 (of_z w64 c.args.self.width) ≡ c.args.self.width = to_z-of_z fits in
    let fits_past : FitsSigned w64 c.args.self.past = search rules in
    let cast_past : to_z w64 (of_z w64 c.args.self.past) ≡ c.args.self.past = to_z-of_z fits_past in
    let next = rw cast_past at c.next_midnight-from.ensures.midnight in
    let is : bound ≡ span_end from c.args.self.days c.args.self.width = rw (cast_from, cast_width) at c.span_end-bound.ensures in
    let before : bound <ℤ horizon = below bound (rw cast_bound at c.if-bound-ge-HORIZON.false) in
    rw (cast_from, cast_bound) (least_span all c.args.self have from next, bound_of all c.args.self have from next bound is, before)
