use Rattle.std.proofs.Common.{◌≡◌, ℤ, subst, arith, rules, to_z, of_z, to_z-of_z, w64, FitsSigned}
use Rattle.std.specs.Prelude.{negsuc, ◌↔◌}
use Rattle.std.proofs.lemmas.Int.{ints}
use Rattle.clash_check.specs.Draws.{IsSpanBetween}
use Rattle.clash_check.proofs.WalkLemmas.{at_first}
use Rattle.clash_check.proofs.walk.Walk.begin.Goals as goal

pub returns-clause-begins : goal.returns-clause-begins
returns-clause-begins g c = λ a at known.
    let fits : FitsSigned w64 c.args.bound = search rules in
    let same : to_z w64 (of_z w64 c.args.bound) ≡ c.args.bound = to_z-of_z fits in
    at_first a c.args.bound (g.D.Drawn.coming c.begin.new.self c.args.series) _ (negsuc 9223372036854775807) known (omega (arith, ints))
    (subst (λ (bound : ℤ). (s e : ℤ) → g.D.Drawn.coming c.begin.new.self c.args.series s e ↔ IsSpanBetween a (negsuc 9223372036854775807) bound s e) same (c.begin.ensures.coming a at))
    c.draw_span-next.result c.draw_span-next.ensures.drawn c.draw_span-next.ensures.coming c.args.series
