use Rattle.std.proofs.Common.{refl, rules, w64, FitsSigned}
use Rattle.clash_check.proofs.SweepLemmas.{series_there}
use Rattle.clash_check.proofs.PeriodLemmas.{repeats_past, repeats_never, no_period, no_multiple}
use Rattle.clash_check.proofs.span.repeats.Goals as goal

pub is_multiple-requires : goal.is_multiple-requires
is_multiple-requires g c = let (a, at) = series_there (g.D.Drawn.calendar c.args.drawn.now) c.args.i c.requires.place in (c.in-Some.ensures a at).some

pub returns-then-is_multiple : goal.returns-then-is_multiple
returns-then-is_multiple g c = λ a at.
    let f : FitsSigned w64 c.regular_from.result = search rules in
    let h : FitsSigned w64 c.args.from = search rules in
    repeats_past a c.regular_from.result c.args.from c.args.days f h (c.regular_from.ensures a at) ((c.periods_are_multiples.ensures a c.in-Some.period c.args.days (c.in-Some.ensures a at)).1 (c.is_multiple.ensures.0 c.if-is_multiple.true))

pub returns-else-is_multiple : goal.returns-else-is_multiple
returns-else-is_multiple g c = λ a at.
    repeats_never a c.args.from c.args.days c.is_multiple.result c.if-is_multiple.false
    (no_multiple a c.args.days c.in-Some.period (c.periods_are_multiples.ensures a c.in-Some.period c.args.days (c.in-Some.ensures a at)) c.is_multiple.result c.is_multiple.ensures c.if-is_multiple.false)

pub returns-in-None : goal.returns-in-None
returns-in-None g c = λ a at. repeats_never a c.args.from c.args.days _ refl (no_period a c.args.days (c.in-None.ensures a at) c.requires.days.0 c.requires.days.1)
