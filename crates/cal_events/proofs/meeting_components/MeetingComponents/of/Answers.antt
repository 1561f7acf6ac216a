use Rattle.std.proofs.Common.{◌≡◌, ◌∙◌, ◌++◌, ◌∷◌, [], ap, not, arith, rules, ℤ, FitsSigned, to_z, of_z, w64}
use Rattle.std.specs.Prelude.{Some, is_some}
use Rattle.std.proofs.lemmas.Int.{ints}
use Rattle.profile.specs.events.Events.{is_master, is_override}
use Rattle.cal_events.proofs.shared_lemmas.MeetingLemmas.{pushed, passed, instant_pushed}
use Rattle.cal_events.proofs.meeting_components.MeetingComponents.of.Goals as goal

pub loop-component-preserved-in-Continue-branch-2 : goal.loop-component-preserved-in-Continue-branch-2
loop-component-preserved-in-Continue-branch-2 c =
    let x = c.in-Some.component in
    let t = c.in-Some-recurrence.instant in
    let is : x.recurrence ≡ Some t = c.in-Some-recurrence.is in
    let fits : FitsSigned w64 t = search rules in
    let kept : to_z w64 (of_z w64 t) ≡ t = omega (arith, ints) in
    let more = c.in_ok-push.ensures.items ∙ ap (λ (z : ℤ). c.loop-component.instants.items ++ z ∷ []) kept in (
      passed is_master c.loop-component.yielded c.loop-component.masters.items x (ap (λ o. not (is_some o)) is) c.loop-component.invariant.0,
      pushed is_override c.loop-component.yielded c.loop-component.overrides.items c.push-in-Some-recurrence.new.self.items x (ap is_some is) c.loop-component.invariant.1
          c.in_ok-push-2.ensures.items,
      instant_pushed c.loop-component.instants.items c.push.new.self.items c.loop-component.overrides.items c.push-in-Some-recurrence.new.self.items t x is c.loop-component.invariant.2
          more c.in_ok-push-2.ensures.items,
    )
