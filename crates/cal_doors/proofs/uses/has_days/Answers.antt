use Rattle.std.proofs.Common.{sym, subst, ℤ, ℕ, ◌≡◌}
use Rattle.std.specs.Prelude.{Option, IfSome}
use Rattle.profile.specs.text.Values.{SpellsDuration}
use Rattle.cal_doors.proofs.uses.has_days.Goals as goal

pub returns-in-Some : goal.returns-in-Some
returns-in-Some c = λ _ is days seconds s.
    subst (λ (o : Option ℤ). IfSome o (λ _. (days seconds : ℕ) → SpellsDuration c.value.result.now days seconds → days ≡ 0)) c.in-Some.is c.duration_end.ensures
    days seconds (subst (λ v. SpellsDuration v days seconds) (sym c.value.ensures) s)
