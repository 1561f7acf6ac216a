use Rattle.std.proofs.Common.{◌≡◌, ℤ, subst, rules, to_z, of_z, to_z-of_z, w64, FitsSigned}
use Rattle.std.specs.Prelude.{IsTrue, ◌↔◌}
use Rattle.clash_check.proofs.PeriodLemmas.{DoAllAgain, span_iff}
use Rattle.clash_check.proofs.span.is_span.Goals as goal

pub returns-then-is_days-clause-is : goal.returns-then-is_days-clause-is
returns-then-is_days-clause-is g c = λ those are.
    let fits : FitsSigned w64 c.args.from = search rules in
    let same : to_z w64 (of_z w64 c.args.from) ≡ c.args.from = to_z-of_z fits in
    span_iff those c.args.from c.args.days c.all_repeat.result (c.is_days.ensures.0 c.if-is_days.true)
    (subst (λ (t : ℤ). IsTrue c.all_repeat.result ↔ DoAllAgain those t c.args.days) same (c.all_repeat.ensures those are))
