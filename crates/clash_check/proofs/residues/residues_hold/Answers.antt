use Rattle.std.proofs.Common.{◌∙◌, ◌==◌, sym}
use Rattle.std.specs.Prelude.{◌↔◌, IsTrue}
use Rattle.std.proofs.lemmas.Bool.{true≢false}
use Rattle.std.proofs.lemmas.Result.{IfOk-weaker}
use Rattle.profile.specs.checker.Certificates.{IsSeriesAt}
use Rattle.profile.specs.events.Events.{Event}
use Rattle.profile.specs.events.Residues.{AreArcsApart, IsArcsApart, ResiduesHold}
use Rattle.clash_check.proofs.ResidueLemmas.{hold_none, hold_one, hold_two}
use Rattle.clash_check.proofs.residues.residues_hold.Goals as goal

pub returns-then-not-is_modulus : goal.returns-then-not-is_modulus
returns-then-not-is_modulus g c = λ a b here there. hold_none (c.args.i == c.args.j) a b c.args.m (λ is. true≢false (sym (c.is_modulus.ensures.1 is) ∙ c.if-not-is_modulus.true))

pub returns-then-i-j : goal.returns-then-i-j
returns-then-i-j g c =
    let all = g.D.Drawn.calendar c.args.drawn.now in
    IfOk-weaker c.one_apart.result (λ r. (a : Event) → IsSeriesAt all c.args.i a → IsTrue r ↔ IsArcsApart a c.args.m)
    (λ r. (a b : Event) → IsSeriesAt all c.args.i a → IsSeriesAt all c.args.j b → IsTrue r ↔ ResiduesHold (c.args.i == c.args.j) a b c.args.m)
    (λ r told a b here there. hold_one c.args.i c.args.j a b c.args.m r c.if-i-j.true (c.is_modulus.ensures.0 c.if-not-is_modulus.false) (told a here)) c.one_apart.ensures

pub returns-else-i-j : goal.returns-else-i-j
returns-else-i-j g c =
    let all = g.D.Drawn.calendar c.args.drawn.now in
    IfOk-weaker c.two_apart.result (λ r. (a b : Event) → IsSeriesAt all c.args.i a → IsSeriesAt all c.args.j b → IsTrue r ↔ AreArcsApart a b c.args.m)
    (λ r. (a b : Event) → IsSeriesAt all c.args.i a → IsSeriesAt all c.args.j b → IsTrue r ↔ ResiduesHold (c.args.i == c.args.j) a b c.args.m)
    (λ r told a b here there. hold_two c.args.i c.args.j a b c.args.m r c.if-i-j.false (c.is_modulus.ensures.0 c.if-not-is_modulus.false) (told a b here there)) c.two_apart.ensures
