use Rattle.std.proofs.Common.{◌≡◌, ◌∙◌, refl, sym, subst, ℤ, to_z, of_z, w64, to_z-of_z, FitsSigned, rules}
use Rattle.cal_events.specs.Calendar.{instance_of}
use Rattle.cal_events.specs.Instances.{IsAfter}
use Rattle.cal_events.proofs.shared_lemmas.InstanceLemmas.{passed_at, none_left, held_there, none_before, bound_same}
use Rattle.cal_events.proofs.instances.InstancesIterator.next.Goals as goal

pub returns-in_err-place-clause-steps : goal.returns-in_err-place-clause-steps
returns-in_err-place-clause-steps c =
    let s = c.args.self.now in
    rw c.from_residual.ensures (refl, (none_left s.event.now s.after c.first_place.result c.first_place.ensures.first c.in_err-place.was, refl))

pub invariant_of-self-2 : goal.invariant_of-self-2
invariant_of-self-2 c =
    let s = c.args.self.now in
    let p = c.in_ok-place.place in
    let held = held_there s.event.now s.after c.first_place.result c.first_place.ensures.first p c.in_ok-place.was in
    let fits : FitsSigned w64 p.start = search rules in
    let start : to_z w64 (of_z w64 p.start) ≡ p.start = to_z-of_z fits in
    let fits_slot : FitsSigned w64 p.slot = search rules in
    let slot : to_z w64 (of_z w64 p.slot) ≡ p.slot = to_z-of_z fits_slot in
    record { passed = passed_at s.event.now.recurrence s.after p (to_z w64 (of_z w64 p.start)) (to_z w64 (of_z w64 p.slot)) c.first_place.new.days start slot held.1 c.first_place.ensures.passed; reads = c.first_place.ensures.reads }

pub instance_at-requires : goal.instance_at-requires
instance_at-requires c =
    let s = c.args.self.now in
    (held_there s.event.now s.after c.first_place.result c.first_place.ensures.first c.in_ok-place.place c.in_ok-place.was).0

pub returns-clause-steps : goal.returns-clause-steps
returns-clause-steps c =
    let s = c.args.self.now in
    let p = c.in_ok-place.place in
    let i = instance_of c.instance_at.result in
    let e = c.instance_at.ensures in
    let held = held_there s.event.now s.after c.first_place.result c.first_place.ensures.first p c.in_ok-place.was in
    let fits : FitsSigned w64 p.start = search rules in
    let start : to_z w64 (of_z w64 p.start) ≡ p.start = to_z-of_z fits in
    let fits_slot : FitsSigned w64 p.slot = search rules in
    let slot : to_z w64 (of_z w64 p.slot) ≡ p.slot = to_z-of_z fits_slot in
    let after = subst (λ (t : ℤ). IsAfter s.after t i.key.slot) (sym e.start) (subst (λ (t : ℤ). IsAfter s.after p.start t) (sym e.slot) held.1) in (
      refl,
      ((e.instance, after), none_before s.event.now s.after c.first_place.result c.first_place.ensures.first p c.in_ok-place.was i e.start e.slot, bound_same (to_z w64 (of_z w64 p.start)) (to_z w64 (of_z w64 p.slot)) i.start i.key.slot (start ∙ sym e.start) (slot ∙ sym e.slot)),
    )
