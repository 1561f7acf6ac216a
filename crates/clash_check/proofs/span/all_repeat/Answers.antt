use Rattle.std.proofs.Common.{◌≡◌, ◌∙◌, ℤ, sym, subst, rules, to_z, of_z, to_z-of_z, w64, FitsSigned}
use Rattle.std.proofs.lemmas.Bool.{true≢false}
use Rattle.std.proofs.lemmas.List.Elements.{Contains-get_or}
use Rattle.clash_check.proofs.PeriodLemmas.{DoesAgain, DoAgainTo, all_again, one_not_again}
use Rattle.clash_check.proofs.SweepLemmas.{series_there}
use Rattle.clash_check.proofs.span.all_repeat.Goals as goal

pub repeats-requires-clause-place : goal.repeats-requires-clause-place
repeats-requires-clause-place g c = c.requires.places _ (Contains-get_or c.args.numbers.now c.loop-number.number-index 0 c.loop-number-test.true)

pub returns-then-not-repeats : goal.returns-then-not-repeats
returns-then-not-repeats g c =
    let all = g.D.Drawn.calendar c.args.drawn.now in
    let fits : FitsSigned w64 c.args.from = search rules in
    let same : to_z w64 (of_z w64 c.args.from) ≡ c.args.from = to_z-of_z fits in
    let has = Contains-get_or c.args.numbers.now c.loop-number.number-index 0 c.loop-number-test.true in
    let (a, at) = series_there all _ (c.requires.places _ has) in
    one_not_again all c.args.numbers.now c.args.from c.args.days _ has a at
    (λ again. true≢false (sym ((c.repeats.ensures a at).1 (subst (λ (t : ℤ). DoesAgain a t c.args.days) (sym same) again)) ∙ c.if-not-repeats.true))

pub returns : goal.returns
returns g c =
    let all = g.D.Drawn.calendar c.args.drawn.now in
    let numbers = c.args.numbers.now in
    let fits : FitsSigned w64 c.args.from = search rules in
    let same : to_z w64 (of_z w64 c.args.from) ≡ c.args.from = to_z-of_z fits in
    all_again all numbers c.args.from c.args.days c.loop-number.number-index c.loop-number-test.false
    (subst (λ (t : ℤ). DoAgainTo all numbers t c.args.days c.loop-number.number-index) same c.loop-number.invariant)
