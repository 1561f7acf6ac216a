use Rattle.std.proofs.Common.{◌≡◌, ◌+◌, sym, subst, arith, rules, to_z, of_z, to_z-of_z, w64, FitsSigned}
use Rattle.std.proofs.lemmas.List.Elements.{Contains-get_or}
use Rattle.clash_check.proofs.PeriodLemmas.{IsWidestOf, widest_next, widest_all}
use Rattle.clash_check.proofs.span.greatest_width.Goals as goal

pub width-requires : goal.width-requires
width-requires g c = c.requires _ (Contains-get_or c.args.numbers.now c.loop-number.number-index 0 c.loop-number-test.true)

pub loop-number-preserved : goal.loop-number-preserved
loop-number-preserved g c =
    let all = g.D.Drawn.calendar c.args.drawn.now in
    let numbers = c.args.numbers.now in
    let place = c.loop-number.number-index in
    let one : FitsSigned w64 c.width.result = search rules in
    let most : FitsSigned w64 c.max-greatest.result = search rules in
    let same : to_z w64 (of_z w64 c.width.result) ≡ c.width.result = to_z-of_z one in
    let is : to_z w64 (of_z w64 c.max-greatest.result) ≡ c.max-greatest.result = to_z-of_z most in
    let so_far = c.loop-number.invariant in
    subst (IsWidestOf all numbers (place + 1)) (sym is)
    (widest_next all numbers place _ c.width.result c.max-greatest.result so_far c.width.ensures.width c.width.ensures.range.0 c.width.ensures.range.1 _ same c.max-greatest.ensures.value)

pub returns-clause-is : goal.returns-clause-is
returns-clause-is g c =
    let most = c.loop-number.auto.number-index-end in
    let past = c.loop-number-test.false in
    λ all some are. widest_all (g.D.Drawn.calendar c.args.drawn.now) c.args.numbers.now c.loop-number.number-index _ (omega (arith, most, past)) c.loop-number.invariant all some are
