use Rattle.std.proofs.Common.{◌≡◌, ◌∙◌, ◌+◌, sym, subst, arith, rules, List, to_z, of_z, to_z-of_z, w64, FitsSigned}
use Rattle.profile.specs.checker.Instances.{Instance}
use Rattle.profile.specs.events.Confirmed.{Confirmed}
use Rattle.cal_events.specs.declared.sweep.Span.{Span}
use Rattle.clash_check.specs.Draws.{IsSingleAt}
use Rattle.clash_check.proofs.SingleLemmas.{AreDrawnAt, singles_next}
use Rattle.clash_check.proofs.singles.draw_singles.Goals as goal

pub loop-before-preserved : goal.loop-before-preserved
loop-before-preserved g c =
    let all = g.D.Drawn.calendar c.args.drawn.now in
    let test = c.loop-before-test.true in
    let end = c.singles-before-end.ensures in
    let starts : FitsSigned w64 c.single-start.result.0 = search rules in
    let ends : FitsSigned w64 c.single-start.result.1 = search rules in
    let is = subst (λ (x : Confirmed). (b : Instance) → IsSingleAt x (c.loop-before.before + 1) b → (c.single-start.result.0 ≡ b.start) × (c.single-start.result.1 ≡ b.end)) c.loop-before.invariant.same c.single-start.ensures.is in
    subst (λ (l : List Span). AreDrawnAt all (c.loop-before.before + 1) (g.D.Drawn.calendar c.single-start.new.self) l (g.D.Drawn.count c.args.drawn.now) (g.D.Drawn.count c.single-start.new.self)) (sym c.in_ok-push.ensures.items)
    (singles_next all c.loop-before.before (g.D.Drawn.calendar c.loop-before.drawn) (g.D.Drawn.calendar c.single-start.new.self) c.loop-before.spans.items _ (g.D.Drawn.count c.loop-before.drawn) _
    (to_z w64 (of_z w64 c.single-start.result.0)) (to_z w64 (of_z w64 c.single-start.result.1)) (omega (arith, test, end)) c.loop-before.invariant c.single-start.ensures.calendar
    (λ b there. let at = is b there in (to_z-of_z starts ∙ at.0, to_z-of_z ends ∙ at.1))
    c.single-start.ensures.count)
